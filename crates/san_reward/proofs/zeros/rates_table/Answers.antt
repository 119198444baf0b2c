use Rattle.std.proofs.Common.{arith, rules}
use Rattle.san_reward.specs.Running.{no_rates}
use Rattle.san_reward.proofs.Making.{got, rows_more}
use Rattle.san_reward.proofs.zeros.rates_table.Goals as goal

pub leaves-preserved : goal.leaves-preserved
leaves-preserved c = rows_more (λ x. x.items) no_rates c.args.flat.now.parts c.leaves.table.items c.push.new.self.items c.in_ok-rates.rates c.leaves.leaf c.part.result.now (omega (arith, c.leaves-test.true, c.leaves-leaf-end.ensures)) (got c.args.flat.now.parts c.leaves.leaf c.part.result.now c.part.ensures) c.leaves.invariant c.in_ok-push.ensures.items (search rules)
