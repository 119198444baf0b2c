use Rattle.std.proofs.Common.{sym}
use Rattle.san_reward.specs.contracts.tally.Tally.{the_view}
use Rattle.san_reward.proofs.Counting.{advance_counted, advance_ends, present_small}
use Rattle.san_reward.proofs.tally.Tally.advance.Goals as goal

pub count_on-requires-clause-rates : goal.count_on-requires-clause-rates
count_on-requires-clause-rates c = λ r. present_small (the_view c.self.inside) c.self.inside.present.items r c.self.invariant

pub invariant_of-self : goal.invariant_of-self
invariant_of-self c = advance_counted (the_view c.self.inside) c.args.self.now c.self.inside.present.items c.args.to.0 c.count_on.new.sums.items (sym c.self.view_is) c.self.invariant c.requires.time c.requires.horizon c.count_on.ensures

pub returns : goal.returns
returns c = advance_ends (the_view c.self.inside) c.args.self.now c.self.inside.present.items c.args.to.0 c.count_on.new.sums.items (sym c.self.view_is) c.self.invariant c.requires.time c.count_on.ensures
