-- A measure summed over the ticks of a run.
use Rattle.std.specs.Prelude.{ℕ, zero, suc, ◌+◌, ◌-◌, ℤ, pos, ◌+ℤ◌, nat_lt, List, Option, if◌then◌else◌}
use Rattle.std.specs.Option.{option_map}
use Rattle.san_base.specs.declared.ending.Ending.{Ending}
use Rattle.san_base.specs.declared.ending.Ending.TheVariants as ending
use Rattle.san_base.specs.declared.limits.Limits.{Limits}
use Rattle.san_draw.specs.Key.{draw_of}
use Rattle.san_law.specs.Net.{Net}
use Rattle.san_law.specs.Reward.{marked}
use Rattle.san_law.specs.State.{opening_state}
use Rattle.san_law.specs.Step as law
use Rattle.san_law.specs.Trajectory.{Trajectory, trajectory}
use Rattle.san_net.specs.Network.{Network, net_of}
use Rattle.san_probe.specs.declared.measured.Watched.{Watched}
use Rattle.san_probe.specs.declared.measured.Watched.TheVariants.{Beyond, Stopped, Sum}
use Rattle.san_net.specs.Runs.{ending_in, limits_in}

-- a sum over so many ticks from one on
abbrev pub sum_values : (ℕ → ℤ) → ℕ → ℕ → ℤ
sum_values f a zero = pos 0
sum_values f a (suc n) = f a +ℤ sum_values f (suc a) n

-- a measure in the marking at the end of a tick of a run
abbrev pub value_at : (List ℕ → ℤ) → Net → List law.Event → ℕ → ℤ
value_at measure net es t = measure (marked net (opening_state net) es t)

-- a run that stopped has no sum, nor has an interval that passes the horizon
abbrev pub watched_by : ℤ → ℕ → ℕ → Ending → Watched
watched_by sum horizon to (ending.End h) = if nat_lt (horizon + 1) to then Beyond else Sum sum
watched_by sum horizon to (ending.Stop why) = Stopped why

abbrev pub watched_in : Network → Net → (List ℕ → ℤ) → ℕ → ℕ → Trajectory → Watched
watched_in n net measure from to t = watched_by (sum_values (value_at measure net t.events) from (to - from)) net.horizon to (ending_in n t.time t.ending)

-- every run has a trajectory
abbrev pub watched_of : Network → ℕ → Limits → (List ℕ → ℤ) → ℕ → ℕ → Option Watched
watched_of n seed limits measure from to =
    let net = net_of n (draw_of seed) (limits_in limits) in
    option_map (watched_in n net measure from to) (trajectory net (opening_state net))
