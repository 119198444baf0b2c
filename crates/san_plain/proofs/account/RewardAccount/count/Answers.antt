use Rattle.san_plain.proofs.AccountLemmas.{event_keeps}
use Rattle.san_plain.proofs.account.RewardAccount.count.Goals as goal

pub invariant_of-self : goal.invariant_of-self
invariant_of-self c = (
  event_keeps c.self.inside.flat.now c.self.inside.tally c.self.inside.marking.items c.args.self.now c.self.view_is c.self.invariant.0 c.args.event c.args.marking.now c.leaf_of-leaf.result c.leaf_of-leaf.ensures.value
      c.advance.new.self c.update_rates.new.tally c.count_impulses.new.tally c.update_rates.new.kept.items c.advance.ensures c.update_rates.ensures.rates c.count_impulses.ensures c.update_rates.ensures.kept c.requires.sized,
  c.self.invariant.1,
)
