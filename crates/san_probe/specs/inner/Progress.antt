-- How a run stands that is watched.
use Rattle.std.specs.Prelude.{ℕ, ◌-◌, ◌≡◌, ◌≤◌, ℤ, List, length, nat_lt, if◌then◌else◌}
use Rattle.san_base.specs.declared.limits.Limits.{Limits}
use Rattle.san_draw.specs.Key.{draw_of}
use Rattle.san_law.specs.Net.{Net}
use Rattle.san_law.specs.Standing.{AllTo}
use Rattle.san_law.specs.State.{State, opening_state}
use Rattle.san_law.specs.Step as law
use Rattle.san_law.specs.Trajectory.{Runs}
use Rattle.san_net.specs.Network.{Network, net_of}
use Rattle.san_probe.specs.Markings.{IsMarkingOf}
use Rattle.san_probe.specs.Watching.{sum_values, value_at}
use Rattle.san_seq.specs.FlatRun.{On, Run}
use Rattle.san_net.specs.Runs.{limits_in}

abbrev pub net_by : Network → ℕ → Limits → Net
net_by n seed limits = net_of n (draw_of seed) (limits_in limits)

abbrev pub run_at : Network → ℕ → Limits → State → Run
run_at n seed limits s = record { network = n; seed = seed; limits = limits; run_phase = On s }

-- after these events it is at this state, at this time
pub record ProbeStands (n : Network) (seed : ℕ) (limits : Limits) (es : List law.Event) (s : State) (r : Run) (now : ℕ) : Type 0 where
  pub at_state : r ≡ run_at n seed limits s
  pub runs : Runs (net_by n seed limits) (opening_state (net_by n seed limits)) es s
  pub early : AllTo now es
  pub time : s.time ≡ now
  pub within : now ≤ limits.horizon.0
  pub marking : IsMarkingOf (length n.initial) s.marking

-- of the ticks from one to before another, how many are before a time
abbrev pub ticks_before : ℕ → ℕ → ℕ → ℕ
ticks_before from to time = (if nat_lt time to then time else to) - from

-- the sum over the ticks of an interval that are before a time
abbrev pub sum_until : (List ℕ → ℤ) → Net → ℕ → ℕ → List law.Event → ℕ → ℤ
sum_until measure net from to es time = sum_values (value_at measure net es) from (ticks_before from to time)

-- the sum counts the ticks before the time; the value is that of the present marking
pub record Watches (n : Network) (seed : ℕ) (limits : Limits) (measure : List ℕ → ℤ) (from to : ℕ) (r : Run) (sum : ℤ) (now : ℕ) (value : ℤ) : Type 0 where
  pub events : List law.Event
  pub state : State
  pub stands : ProbeStands n seed limits events state r now
  pub counted : sum ≡ sum_until measure (net_by n seed limits) from to events now
  pub present : value ≡ measure state.marking
