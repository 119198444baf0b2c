-- What a run keeps between its steps.
use Rattle.std.specs.Prelude.{ℕ, ◌*◌, ◌≤◌, Option, Some, None, Result, Ok, Err}
use Rattle.san_base.specs.declared.ending.Ending.{Ending}
use Rattle.san_base.specs.declared.ending.Event.{Event}
use Rattle.san_base.specs.declared.limits.Limits.{Limits}
use Rattle.san_base.specs.Limits.{IsInRange}
use Rattle.san_net.specs.Laid.{acts_of}
use Rattle.san_net.specs.Network.{Network}
use Rattle.san_seq.specs.FlatRun.{Done, RunPhase, On}
use Rattle.san_seq.specs.inner.Known.{AreIdle}
use Rattle.san_seq.specs.inner.Running.{IsRunning}
use Rattle.san_seq.specs.inner.Wakes.{Woken}
use Rattle.san_seq.specs.declared.stale.Stale.{Stale}

-- what holds of a run between its steps; what has no flag up has nothing to do
abbrev pub IsRunPhase : Network → Limits → Woken → Stale → RunPhase → Type 0
IsRunPhase n limits w stale (On s) = IsRunning n limits s × AreIdle n w stale s
IsRunPhase n limits w stale (Done marking e) = Unit {0}

pub record IsRun (n : Network) (limits : Limits) (streams : ℕ) (w : Woken) (stale : Stale) (where_it_is : RunPhase) : Type 0 where
  pub range : IsInRange limits
  pub draws : 2 * acts_of n.parts ≤ streams
  pub run_phase : IsRunPhase n limits w stale where_it_is

-- a run is over by an ending
abbrev pub over_by : Result Event Ending → Option Ending
over_by (Ok event) = None
over_by (Err e) = Some e
