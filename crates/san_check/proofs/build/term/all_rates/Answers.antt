use Rattle.std.proofs.Common.{◌+◌, refl}
use Rattle.san_check.specs.build.Composition.{capped}
use Rattle.san_check.specs.build.Term.{rates_on, all_rates}
use Rattle.san_check.proofs.LoopLemmas.{added_turn}
use Rattle.san_check.proofs.build.term.all_rates.Goals as goal

pub rewards-preserved : goal.rewards-preserved
rewards-preserved c =
    added_turn (all_rates c.args.cells.now c.args.name.now) (rates_on c.args.cells.now c.args.name.now) (λ n. capped (n + 1)) (λ n d ds. refl) c.args.rewards.now c.rewards.reward-index c.reward-item.result c.rewards.number c.saturating_add-number.result
    c.rewards.rates.items c.put_rates_on.new.rates.items (all_rates c.args.cells.now c.args.name.now 0 c.args.rewards.now) c.rewards-test.true c.reward-item.is c.saturating_add-number.ensures c.in_ok-put_rates_on.ensures c.rewards.invariant
