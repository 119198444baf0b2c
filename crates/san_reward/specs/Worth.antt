-- What a reward is worth.
use Rattle.san_law.specs.Reward as law
use Rattle.san_reward.specs.declared.worth.Worth.{Worth}
use Rattle.san_reward.specs.declared.worth.Worth.TheVariants.{Sum, Mean, Fault, Beyond}

abbrev pub worth_of : law.Worth → Worth
worth_of (law.Sum sum) = Sum sum
worth_of (law.Mean sum ticks) = Mean sum ticks
worth_of law.Faulted = Fault
worth_of law.Beyond = Beyond
