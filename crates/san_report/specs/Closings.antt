-- The lines that end a report: the ending's, and the rewards' with what a tally counted.
use Rattle.std.specs.Prelude.{ℕ, ◌++◌, List, Option, Some, None}
use Rattle.san_base.specs.declared.ending.Ending.{Ending}
use Rattle.san_base.specs.declared.ending.Ending.TheVariants as ending
use Rattle.san_law.specs.Tally.{tally_worth}
use Rattle.san_net.specs.Network.{Network}
use Rattle.san_reward.specs.Running.{Running, net_in}
use Rattle.san_reward.specs.Worth.{worth_of}
use Rattle.san_reward.specs.declared.worth.Worth.{Worth}
use Rattle.san_report.specs.Lines.{ending_line, reward_lines}

-- what a tally says of a reward, where the run came to its horizon
abbrev pub worths_by : Running → Ending → ℕ → Option Worth
worths_by t (ending.End horizon) r = Some (worth_of (tally_worth (net_in t) t.tally t.time r))
worths_by t (ending.Stop why) r = None

-- after so many events
abbrev pub closing : Network → Running → ℕ → Ending → List ℕ
closing n t count e = ending_line n count e ++ reward_lines n.rewards 0 (worths_by t e)
