use Rattle.std.proofs.Common.{◌∙◌, ℕ, sym, ap, slice_index_or, None}
use Rattle.san_winner.specs.Least.{Won, sooner}
use Rattle.san_winner.proofs.SpanLemmas.{LeftEnd, RightEnd, left_odd, left_even, right_odd, right_even, next_level, closed}
use Rattle.san_winner.proofs.matches.between.Goals as goal
use Rattle.san_winner.proofs.matches.between.Goals.{then-low-eq1, else-low-eq1, then-high-eq1, else-high-eq1}

pub levels-preserved : goal.levels-preserved
levels-preserved c =
    let f : ℕ → Won = λ v. slice_index_or c.args.nodes.now v None in
    let i = c.levels.invariant in
    let a : LeftEnd f c.levels.first c.if-low-eq1.first c.levels.low c.if-low-eq1.low c.levels.high = elim c.if-low-eq1.branch [
      | then-low-eq1 w ↦ left_odd f _ _ _ _ _ w.if-low-eq1.true c.levels-test.true w.low-is (w.first-is ∙ w.sooner-first.ensures)
      | else-low-eq1 w ↦ left_even f _ _ _ _ _ w.if-low-eq1.false i.low c.levels-test.true w.low-is w.first-is
    ] in
    let b : RightEnd f c.levels.last c.if-high-eq1.last c.if-low-eq1.low c.levels.high c.if-high-eq1.high = elim c.if-high-eq1.branch [
      | then-high-eq1 w ↦ right_odd f _ _ _ _ _ a.even w.if-high-eq1.true a.order w.high-is (w.last-is ∙ w.sooner-last.ensures ∙ ap (λ k. sooner (f k) c.levels.last) (sym w.high-is))
      | else-high-eq1 w ↦ right_even f _ _ _ _ _ w.if-high-eq1.false a.order w.high-is w.last-is
    ] in
    let n = next_level f _ _ _ _ _ _ _ _ c.args.size _ a b i.high c.requires.tree i.same in
    record { low = n.low; order = n.order; high = n.high; same = n.same }

pub returns : goal.returns
returns c = c.sooner.ensures ∙ closed (λ v. slice_index_or c.args.nodes.now v None) c.levels.first c.levels.last c.levels.low c.levels.high _ c.levels-test.false c.levels.invariant.same
