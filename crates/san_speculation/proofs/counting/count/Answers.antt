use Rattle.std.proofs.Common.{arith}
use Rattle.san_speculation.proofs.Countings.{counts_more}
use Rattle.san_speculation.proofs.counting.count.Goals as goal

pub steps-preserved : goal.steps-preserved
steps-preserved c = record {
  is = counts_more c.args.steps.now c.steps.step-index _ c.steps-test.true c.steps.counts c.args.rollbacks c.claims.result c.late.result c.committed.result c.redone.result c.steps.invariant.is c.claims.ensures.is c.late.ensures.is c.committed.ensures.is c.redone.ensures.is;
  claims = let x = c.claims.ensures.few in omega (arith, x, c.steps.invariant.claims);
  late = let x = c.late.ensures.few in omega (arith, x, c.steps.invariant.late);
  committed = let x = c.committed.ensures.few in omega (arith, x, c.steps.invariant.committed);
  redone = let x = c.redone.ensures.few in omega (arith, x, c.steps.invariant.redone);
}
