use Rattle.std.proofs.Common.{ℕ, List, Option, None, Some, ap, arith, slice_set, ◌+◌, ◌-◌, ◌∙◌}
use Rattle.san_speculation.proofs.Soonests.{set_next}
use Rattle.san_speculation.proofs.soonest.unknown.Goals as goal

pub leaves-preserved : goal.leaves-preserved
leaves-preserved c =
    let i = c.leaves.leaf in
    record {
      within = omega (arith, c.leaves-test.true);
      done = c.set.ensures ∙ (ap (λ (ks : List (Option ℕ)). slice_set ks i (Some 0)) c.leaves.invariant.done ∙ set_next (Some 0) None i (i + 1) (c.args.leaves - i) (c.args.leaves - (i + 1)) (omega arith) (omega (arith, c.leaves-test.true)));
    }
