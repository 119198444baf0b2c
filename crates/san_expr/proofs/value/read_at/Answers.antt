use Rattle.std.proofs.Common.{rules, ◌∙◌, sym, ap, subst, Ok, ℤ, SFits, w64}
use Rattle.std.proofs.lemmas.Int.{to_z-of_z}
use Rattle.san_expr.specs.Value.{cell_of}
use Rattle.san_expr.specs.Meaning.{then_do, settled, value_at}
use Rattle.san_expr.specs.Meets.{Evaluates}
use Rattle.san_expr.proofs.ComposeLemmas.{evaluates_settled_then, evaluates_read}
use Rattle.san_expr.proofs.value.read_at.Goals as goal

pub returns : goal.returns
returns g c =
    let s0 = g.V.Marked.view_state c.args.view.now in
    let s1 = g.V.Marked.view_state c.read.new.self in
    let cell = cell_of c.args.first c.args.length in
    let fits : SFits w64 c.from.result = search rules in
    let index_fits : SFits w64 c.args.index = search rules in
    let is = ap cell (sym (to_z-of_z w64 c.args.index index_fits)) ∙ sym c.cell_of.ensures ∙ c.in_ok-place.was in
    let read = evaluates_read s0 s1 c.in_ok-place.place c.read.result (search rules) c.read.ensures in
    subst (λ (z : ℤ). Evaluates s0 s1 (then_do (settled (cell c.args.index)) value_at) (Ok z))
    (sym (to_z-of_z w64 c.from.result fits ∙ c.from.ensures))
    (evaluates_settled_then s0 s1 (cell c.args.index) value_at c.in_ok-place.place _ is read)
