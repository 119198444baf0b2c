-- Which endings may come in a kept state.
use Rattle.std.specs.Prelude.{ℕ, ◌^◌, ◌<◌, ◌≡◌, ◌⊎◌, List, Option, Some, None, Err, map}
use Rattle.san_base.specs.declared.ending.Trap.{Trap}
use Rattle.san_law.specs.Activity.{ActKind, activity_of}
use Rattle.san_law.specs.Net.{Row}
use Rattle.san_law.specs.Network.{Limits, Network, part_at}
use Rattle.san_law.specs.Next.{Completes, Stable, TrapsAt, next_instant}
use Rattle.san_law.specs.Renewal.{Due, FaultAt, renewed_from}
use Rattle.san_law.specs.State.{gather, slots_of}
use Rattle.san_law.specs.Step.{End, Ending, Events, Trapped, Unstable, count_limit, limit_at}
use Rattle.san_legal.specs.Kept.{KeptTimer, KeptState, MayBeDue, bound_of, kept_at, timer_of}
use Rattle.san_legal.specs.KeptSteps.{kept_renewed, row_in, state_in, undrawn}
use Rattle.san_legal.specs.Legal.{RenewsTo, MayFire, fired_at}

-- a timer that runs may be due after the horizon
abbrev pub HasAfter : ℕ → Due → ℕ → ℕ → ActKind → Option KeptTimer → Type 0
HasAfter horizon b j i kind None = Unit {0}
HasAfter horizon b j i kind (Some x) = (due : ℕ) × MayBeDue b j i kind x due × (horizon < due)

-- the marking is stable, and after its renewal so may each timer
pub record MayWait (network : Network) (limits : Limits) (k : KeptState) : Type 0 where
  pub rows : List Row
  pub renewed : RenewsTo network limits k rows
  pub each : (j i : ℕ) → HasAfter limits.horizon (bound_of k) j i (activity_of (part_at network j) i).kind (timer_of (kept_at (kept_renewed (undrawn network limits) k rows) j) i)

-- an instantaneous activity stands next, and a limit stops it
pub record IsStopped (network : Network) (limits : Limits) (k : KeptState) (e : Ending) : Type 0 where
  pub leaf : ℕ
  pub act : ℕ
  pub next : next_instant (undrawn network limits) (state_in k) ≡ Completes leaf act
  pub limit : limit_at (undrawn network limits) k.burst k.count ≡ Some e

-- a timer may fire at a time, and the event limit stops its activity
pub record IsOverEvents (network : Network) (limits : Limits) (k : KeptState) (time : ℕ) : Type 0 where
  pub rows : List Row
  pub due : Due
  pub fires : MayFire network limits k rows due
  pub at : due.time ≡ time
  pub limit : count_limit (undrawn network limits) k.count ≡ Some Events

-- some draw makes a completion trap
pub record MayTrap (network : Network) (limits : Limits) (k : KeptState) (j i : ℕ) (trap : Trap) : Type 0 where
  pub draw : ℕ
  pub word : draw < 2 ^ 64
  pub is : (activity_of (part_at network j) i).complete draw (gather (slots_of (undrawn network limits) j) k.marking) ≡ Err trap

-- the instantaneous activity that stands next may
pub record TrapsInstant (network : Network) (limits : Limits) (k : KeptState) (j i : ℕ) (trap : Trap) : Type 0 where
  pub next : next_instant (undrawn network limits) (state_in k) ≡ Completes j i
  pub limit : limit_at (undrawn network limits) k.burst k.count ≡ None
  pub traps : MayTrap network limits k j i trap

-- a renewal does so whatever the draws
pub record TrapsRenewed (network : Network) (limits : Limits) (k : KeptState) (j i : ℕ) (trap : Trap) : Type 0 where
  pub next : next_instant (undrawn network limits) (state_in k) ≡ Stable
  pub renewed : renewed_from (undrawn network limits) (state_in k) 0 (map row_in k.rows) ≡ FaultAt j i trap

-- the activity of a timer that may fire may
pub record TrapsTimed (network : Network) (limits : Limits) (k : KeptState) (d : Due) (trap : Trap) : Type 0 where
  pub rows : List Row
  pub fires : MayFire network limits k rows d
  pub limit : count_limit (undrawn network limits) k.count ≡ None
  pub traps : MayTrap network limits (fired_at network limits k rows d) d.leaf d.act trap

-- a trap at the present time: of a test, of a renewal, of an instantaneous completion
abbrev pub TrapsNow : Network → Limits → KeptState → ℕ → ℕ → Trap → Type 0
TrapsNow network limits k j i trap = (next_instant (undrawn network limits) (state_in k) ≡ TrapsAt j i trap) ⊎ (TrapsRenewed network limits k j i trap ⊎ TrapsInstant network limits k j i trap)

-- a run may end so
abbrev pub MayEnd : Network → Limits → KeptState → ℕ → Ending → Type 0
MayEnd network limits k time End = (time ≡ limits.horizon) × MayWait network limits k
MayEnd network limits k time Unstable = (time ≡ k.time) × IsStopped network limits k Unstable
MayEnd network limits k time Events = ((time ≡ k.time) × IsStopped network limits k Events) ⊎ IsOverEvents network limits k time
MayEnd network limits k time (Trapped j i trap) = ((time ≡ k.time) × TrapsNow network limits k j i trap) ⊎ TrapsTimed network limits k (record { time = time; leaf = j; act = i }) trap
