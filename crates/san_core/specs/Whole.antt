-- A whole run, from the network's initial values.
use Rattle.std.specs.Prelude.{ℕ, ◌≡◌, ◌<◌, List, Some, length, map}
use Rattle.san_base.specs.declared.ending.Ending.{Ending}
use Rattle.san_base.specs.declared.ending.Event.{Event}
use Rattle.san_law.specs.Net.{Net}
use Rattle.san_law.specs.Reward.{worth}
use Rattle.san_law.specs.State.{opening_state}
use Rattle.san_law.specs.Step.{End}
use Rattle.san_law.specs.Tally.{tally_worth}
use Rattle.san_law.specs.Trajectory.{Trajectory, trajectory}
use Rattle.san_net.specs.Network.{Network}
use Rattle.san_net.specs.Runs.{ending_in, event_in}
use Rattle.san_reward.specs.Running as rewards
use Rattle.san_reward.specs.Running.{Running}

-- the events and the ending are the trajectory's, in the network's numbers; where it comes to the horizon, the tally has each reward's worth
pub record IsWholeRun (net : Net) (n : Network) (events : List Event) (ending : Ending) (tally : Running) : Type 0 where
  pub run : Trajectory
  pub is : trajectory net (opening_state net) ≡ Some run
  pub told : events ≡ map (event_in n) run.events
  pub ended : ending ≡ ending_in n run.time run.ending
  pub spans : tally.spans ≡ net.spans
  pub worths : run.ending ≡ End → (r : ℕ) → r < length net.spans → tally_worth (rewards.net_in tally) tally.tally tally.time r ≡ worth net r (opening_state net) run.events
