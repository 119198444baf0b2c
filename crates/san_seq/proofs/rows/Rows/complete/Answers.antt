use Rattle.std.proofs.Common.{arith, ◌∙◌, ◌<◌, sym, ap, subst, length}
use Rattle.san_draw.specs.Key.{draw_of}
use Rattle.san_law.specs.Net.{Row}
use Rattle.san_seq.specs.inner.Completions.{completed_by, leaf_left}
use Rattle.san_seq.specs.inner.Rows.{IsRowOf}
use Rattle.san_seq.proofs.DueLemmas.{dues_stay, put_there, was_there}
use Rattle.san_seq.proofs.rows.Rows.complete.Goals as goal

pub complete_at-requires-clause-row : goal.complete_at-requires-clause-row
complete_at-requires-clause-row c = λ p is.
    let row = c.index_mut-row.result.now in
    let h : c.args.leaf.0 < length c.args.self.now = omega (arith, c.requires.leaf, c.requires.rows.each) in
    subst (λ (r : Row). IsRowOf p r) (sym (was_there c.self.inside.rows.items c.args.self.now c.args.leaf.0 row row c.index_mut-row.ensures.value c.self.view_is h)) (c.requires.rows.fit c.args.leaf.0 p is)

pub invariant_of-self : goal.invariant_of-self
invariant_of-self c =
    dues_stay c.self.inside.behind c.self.inside.dues c.self.inside.rows.items c.args.leaf.0 c.index_mut-row.result.now c.complete_at.new.row c.self.invariant
    (omega (arith, c.requires.leaf, c.requires.rows.each, ap length c.self.view_is)) c.index_mut-row.ensures.value c.complete_at.ensures.timers

pub returns-clause-done : goal.returns-clause-done
returns-clause-done c = λ limits.
    let row = c.index_mut-row.result.now in
    let h : c.args.leaf.0 < length c.args.self.now = omega (arith, c.requires.leaf, c.requires.rows.each) in
    let m = c.complete_at.new.marking in
    ap (completed_by c.complete_at.result m) (put_there c.self.inside.rows.items c.args.self.now c.args.leaf.0 row c.complete_at.new.row c.index_mut-row.ensures.value c.self.view_is h)
    ∙ c.complete_at.ensures.done limits
    ∙ ap (leaf_left c.args.flat.now (draw_of c.args.streams.now.seed) limits c.args.leaf.0 c.args.act c.args.marking.now)
    (was_there c.self.inside.rows.items c.args.self.now c.args.leaf.0 row row c.index_mut-row.ensures.value c.self.view_is h)
