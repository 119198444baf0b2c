use Rattle.std.proofs.Common.{◌∙◌, ◌+◌, ap, sym, subst, arith, ℕ}
use Rattle.san_summary.specs.Batches.{CanAdd}
use Rattle.san_batch.specs.Outcomes.{outcome_of}
use Rattle.san_batch.proofs.OutcomeLemmas.{Adds, can_add, run_after}
use Rattle.san_batch.proofs.worker.sum_up.Goals as goal

pub add-requires : goal.add-requires
add-requires c =
    subst (CanAdd c.runs.batch) (sym c.as_slice.ensures.value)
    (can_add c.args.flat.now c.args.limits c.args.seed c.runs.k c.runs.batch c.run.new.self.numbers.items c.runs.invariant (omega (arith, c.requires.runs, c.runs-test.true)) c.in_ok-stopped.ensures.sized c.in_ok-stopped.ensures.small)

pub runs-preserved : goal.runs-preserved
runs-preserved c =
    run_after c.args.flat.now c.args.limits c.args.seed c.runs.k c.runs.batch c.add.new.self c.in_ok-stopped.stopped c.run.new.self.numbers.items c.runs.invariant
    (subst (Adds c.runs.batch c.add.new.self c.in_ok-stopped.stopped) c.as_slice.ensures.value c.add.ensures)
    (ap (λ (k : ℕ). outcome_of c.args.flat.now c.args.limits (c.args.seed + k)) (sym c.from.ensures) ∙ c.in_ok-stopped.ensures.outcome)
    c.in_ok-stopped.ensures.small
