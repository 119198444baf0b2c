-- What is asked of a network so that its draws are free: that delays are at least one tick and trap whatever the draw, that a case tells what a completion does, and that no two activities have a stream in common.
use Rattle.std.specs.Prelude.{ℕ, ◌^◌, ◌≤◌, ◌<◌, ◌≡◌, List, Result, Ok, Err}
use Rattle.san_base.specs.declared.ending.Trap.{Trap}
use Rattle.san_law.specs.Activity.{ActKind, Activity, Effected, Instant, Timed, activity_of}
use Rattle.san_law.specs.Network.{Network, part_at}
use Rattle.san_legal.specs.FreeRuns.{HasOwnStreams}

-- delays over all draws
pub record AreDelays (delay : ℕ → List ℕ → Result ℕ Trap) : Type 0 where
  pub some : (u ticks : ℕ) (values : List ℕ) → u < 2 ^ 64 → delay u values ≡ Ok ticks → 1 ≤ ticks
  pub traps : (u w : ℕ) (values : List ℕ) (trap : Trap) → u < 2 ^ 64 → w < 2 ^ 64 → delay u values ≡ Err trap → delay w values ≡ Err trap

abbrev pub HasDelays : ActKind → Type 0
HasDelays (Timed delay pair) = AreDelays delay
HasDelays (Instant priority) = Unit {0}

pub record IsFree (a : Activity) : Type 0 where
  pub delays : HasDelays a.kind
  pub cases : (u w : ℕ) (values : List ℕ) (e f : Effected) → a.complete u values ≡ Ok e → a.complete w values ≡ Ok f → e.case ≡ f.case → e.values ≡ f.values

pub record IsFreeNetwork (network : Network) : Type 0 where
  pub each : (j i : ℕ) → IsFree (activity_of (part_at network j) i)
  pub apart : HasOwnStreams network
