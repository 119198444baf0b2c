use Rattle.std.proofs.Common.{◌^◌, subst, sym}
use Rattle.san_reward.specs.Smallness.{IsAtMost}
use Rattle.san_reward.specs.contracts.tally.Tally.{the_view}
use Rattle.san_reward.proofs.Counting.{present_small}
use Rattle.san_reward.proofs.Setting.{fault_in, faults_few, rate_keeps, rates_in}
use Rattle.san_reward.proofs.tally.Tally.set.Goals as goal

pub put_rate-old-requires-clause-term : goal.put_rate-old-requires-clause-term
put_rate-old-requires-clause-term c = rates_in (the_view c.self.inside) c.args.self.now c.self.inside.present.items c.args.leaf.0 c.args.term (sym c.self.view_is) c.self.invariant c.requires.leaf c.requires.term

pub replace-requires-clause-sum : goal.replace-requires-clause-sum
replace-requires-clause-sum c = present_small (the_view c.self.inside) c.self.inside.present.items c.reward_of-reward.result c.self.invariant

pub replace-requires-clause-few : goal.replace-requires-clause-few
replace-requires-clause-few c = faults_few (the_view c.self.inside) c.args.self.now c.self.inside.present.items c.args.leaf.0 c.args.term (sym c.self.view_is) c.self.invariant c.requires.leaf c.requires.term c.reward_of-reward.result c.reward_of-reward.ensures

pub replace-requires-clause-faults : goal.replace-requires-clause-faults
replace-requires-clause-faults c = fault_in (the_view c.self.inside) c.args.self.now c.self.inside.present.items c.args.leaf.0 c.args.term (sym c.self.view_is) c.self.invariant c.requires.leaf c.requires.term c.reward_of-reward.result c.reward_of-reward.ensures c.put_rate-old.result c.put_rate-old.ensures.before

pub invariant_of-self : goal.invariant_of-self
invariant_of-self c = rate_keeps (the_view c.self.inside) c.args.self.now c.self.inside.present.items c.args.leaf.0 c.args.term (sym c.self.view_is) c.self.invariant c.requires.leaf c.requires.term c.reward_of-reward.result c.reward_of-reward.ensures c.put_rate-old.result c.put_rate-old.ensures.before c.term_value-rate.result _ c.replace.new.present.items (subst (IsAtMost (2 ^ 63)) (sym c.term_value-rate.ensures.value) c.term_value-rate.ensures.small) c.put_rate-old.ensures.after c.replace.ensures
