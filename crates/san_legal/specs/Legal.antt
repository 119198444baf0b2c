-- Which completions may come in a kept state, and what is kept after them.
use Rattle.std.specs.Prelude.{ℕ, ◌+◌, ◌^◌, ◌<◌, ◌≤◌, ◌≡◌, ◌⊎◌, List, [], ◌∷◌, Some, None, Ok, map}
use Rattle.san_law.specs.Activity.{Effected, activity_of}
use Rattle.san_law.specs.Net.{Row}
use Rattle.san_law.specs.Network.{Limits, Network, part_at}
use Rattle.san_law.specs.Next.{Completes, Stable, next_instant}
use Rattle.san_law.specs.Renewal.{AllFresh, Due, renewed_from}
use Rattle.san_law.specs.State.{gather, slots_of}
use Rattle.san_law.specs.Step.{Event, count_limit, limit_at}
use Rattle.san_legal.specs.Kept.{HaveSome, KeptTimer, KeptState, MayBeDue, bound_of, kept_at, timer_of}
use Rattle.san_legal.specs.KeptSteps.{kept_completed, kept_fired, kept_renewed, row_in, state_in, undrawn}

-- a case that some draw chooses, and what a leaf's activity does with it
pub record IsDone (network : Network) (limits : Limits) (k : KeptState) (j i : ℕ) (effect : Effected) : Type 0 where
  pub draw : ℕ
  pub word : draw < 2 ^ 64
  pub is : (activity_of (part_at network j) i).complete draw (gather (slots_of (undrawn network limits) j) k.marking) ≡ Ok effect

-- the event of such a completion
abbrev pub event_by : Network → ℕ → ℕ → ℕ → Effected → Event
event_by network time j i effect = record { time = time; leaf = j; act = i; case = effect.case; impulses = (activity_of (part_at network j) i).impulses effect.values }

-- the instantaneous activity that stands next completes
pub record InstantMayCome (network : Network) (limits : Limits) (k : KeptState) (e : Event) (after : KeptState) : Type 0 where
  pub next : next_instant (undrawn network limits) (state_in k) ≡ Completes e.leaf e.act
  pub limit : limit_at (undrawn network limits) k.burst k.count ≡ None
  pub effect : Effected
  pub done : IsDone network limits k e.leaf e.act effect
  pub event : e ≡ event_by network k.time e.leaf e.act effect
  pub left : after ≡ kept_completed (undrawn network limits) k (k.burst + 1) e.leaf e.act effect.values

-- the marking is stable, and its renewal gives these rows
pub record RenewsTo (network : Network) (limits : Limits) (k : KeptState) (rows : List Row) : Type 0 where
  pub next : next_instant (undrawn network limits) (state_in k) ≡ Stable
  pub renewed : renewed_from (undrawn network limits) (state_in k) 0 (map row_in k.rows) ≡ AllFresh rows

-- after it a timer may be the first that is due: it may be due at this time within the horizon, and each other one later
pub record MayFire (network : Network) (limits : Limits) (k : KeptState) (rows : List Row) (d : Due) : Type 0 where
  pub renewed : RenewsTo network limits k rows
  pub timer : KeptTimer
  pub runs : timer_of (kept_at (kept_renewed (undrawn network limits) k rows) d.leaf) d.act ≡ Some timer
  pub due : MayBeDue (bound_of k) d.leaf d.act (activity_of (part_at network d.leaf) d.act).kind timer d.time
  pub others : HaveSome network d (kept_fired k (kept_renewed (undrawn network limits) k rows) d).rows
  pub within : d.time ≤ limits.horizon

-- it fires
abbrev pub fired_at : Network → Limits → KeptState → List Row → Due → KeptState
fired_at network limits k rows d = kept_fired k (kept_renewed (undrawn network limits) k rows) d

abbrev pub due_in : Event → Due
due_in e = record { time = e.time; leaf = e.leaf; act = e.act }

-- and its activity completes
pub record TimedMayCome (network : Network) (limits : Limits) (k : KeptState) (e : Event) (after : KeptState) : Type 0 where
  pub rows : List Row
  pub fires : MayFire network limits k rows (due_in e)
  pub limit : count_limit (undrawn network limits) k.count ≡ None
  pub effect : Effected
  pub done : IsDone network limits (fired_at network limits k rows (due_in e)) e.leaf e.act effect
  pub event : e ≡ event_by network e.time e.leaf e.act effect
  pub left : after ≡ kept_completed (undrawn network limits) (fired_at network limits k rows (due_in e)) 0 e.leaf e.act effect.values

-- an event may come, and this is kept after it
abbrev pub MayCome : Network → Limits → KeptState → Event → KeptState → Type 0
MayCome network limits k e after = InstantMayCome network limits k e after ⊎ TimedMayCome network limits k e after

-- one after another
abbrev pub MayFollow : Network → Limits → KeptState → List Event → KeptState → Type 0
MayFollow network limits k [] after = k ≡ after
MayFollow network limits k (e ∷ es) after = (next : KeptState) × MayCome network limits k e next × MayFollow network limits next es after
