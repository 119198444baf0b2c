-- Keys that the leaves' next pieces don't come before, over a machine, what is made ahead of it, and the claims.
use Rattle.std.specs.Prelude.{ℕ, ◌≡◌, ◌<◌, List, [], ◌∷◌, length, Option, Some, None, slice_set}
use Rattle.san_base.specs.declared.numbers.LeafId.{LeafId}
use Rattle.san_base.specs.declared.numbers.PlaceId.{PlaceId}
use Rattle.san_ahead.specs.Ahead.{AheadValue}
use Rattle.san_book.specs.Cores.{Pending}
use Rattle.san_core.specs.Machines.{MachineValue}
use Rattle.san_net.specs.Tables.{importers_of}
use Rattle.san_net.specs.declared.part.Part.{Part}
use Rattle.san_plan.specs.Soonest.{NoLater, key_of}
use Rattle.san_plan.specs.declared.plan.Plan.{Plan}
use Rattle.san_speculation.specs.inner.Claiming.{free_time}

-- each leaf has a key, and while the run goes on no free leaf's plan is before its key
pub record AreLow (m : MachineValue) (a : AheadValue) (claims : List (Option Pending)) (keys : List (Option ℕ)) : Type 0 where
  pub long : length keys ≡ length a.chains
  pub low : m.held.core.stop ≡ None → (i : ℕ) → i < length a.chains → NoLater (key_of keys i) (free_time m a claims i)

-- the keys of these leaves aren't known
abbrev pub touched : List LeafId → List (Option ℕ) → List (Option ℕ)
touched [] keys = keys
touched (leaf ∷ leaves) keys = touched leaves (slice_set keys leaf.0 (Some 0))

-- nor those of the leaves that have a written place
abbrev pub touched_all : List Part → List (PlaceId × ℕ) → List (Option ℕ) → List (Option ℕ)
touched_all parts [] keys = keys
touched_all parts (w ∷ ws) keys = touched_all parts ws (touched (importers_of parts w.0.0) keys)

-- whatever is claimed, keys that were low are
abbrev pub KeepsLow : MachineValue → AheadValue → List (Option ℕ) → MachineValue → AheadValue → List (Option ℕ) → Type 0
KeepsLow m a keys n b news = (claims : List (Option Pending)) → AreLow m a claims keys → AreLow n b claims news

-- a plan with its leaf
abbrev pub with_leaf : LeafId → Option Plan → Option (LeafId × Plan)
with_leaf leaf None = None
with_leaf leaf (Some plan) = Some (leaf, plan)
