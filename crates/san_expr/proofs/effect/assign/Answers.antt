use Rattle.std.proofs.Common.{rules, ◌∙◌, ap, sym, Ok, SFits, w64}
use Rattle.std.proofs.lemmas.Int.{to_z-of_z}
use Rattle.san_expr.specs.Effect.{count_of}
use Rattle.san_expr.specs.Meaning.{put_at}
use Rattle.san_expr.proofs.ComposeLemmas.{meets_settled_then, meets_put}
use Rattle.san_expr.proofs.effect.assign.Goals as goal

pub returns : goal.returns
returns g c =
    let s0 = g.V.Marked.view_state c.args.view.now in
    let s1 = g.V.Marked.view_state c.set.new.self in
    let fits : SFits w64 c.args.x = search rules in
    let is = ap count_of (sym (to_z-of_z w64 c.args.x fits)) ∙ sym c.count_of.ensures ∙ c.in_ok-count.was in
    meets_settled_then s0 s1 (count_of c.args.x) (put_at c.args.place) c.in_ok-count.count (Ok tt) is (meets_put s0 s1 c.args.place c.in_ok-count.count c.set.ensures)
