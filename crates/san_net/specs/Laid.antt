-- What is known of a network that can be run: how its parts and its rewards fit together.
use Rattle.std.specs.Prelude.{ℕ, ◌+◌, ◌≡◌, ◌≤◌, ◌<◌, nat_eq, Bool, false, ◌||◌, List, length, map, take, All, Option, Some, None, slice_get}
use Rattle.std.specs.List.{list_any, sum_by}
use Rattle.san_base.specs.declared.limits.TheConstants.{MAX_ACTS, MAX_HORIZON, MAX_LEAVES, MAX_PLACES}
use Rattle.san_net.specs.Accepted.{IsAccepted, rewards_of}
use Rattle.san_net.specs.Apart.{AreApart}
use Rattle.san_net.specs.Network.{Network}
use Rattle.san_net.specs.Numbering.{all_of, counting, ordered, repeated}
use Rattle.san_net.specs.declared.part.TheConstants.{MAX_REWARDS}
use Rattle.san_net.specs.declared.part.Part.{Part}
use Rattle.san_net.specs.declared.part.Reward.{Reward}
use Rattle.san_net.specs.declared.part.Slot.{Slot}
use Rattle.san_net.specs.declared.part.Slot.TheVariants.{Private, Shared}
use Rattle.san_net.specs.declared.part.Span.{Span}
use Rattle.san_net.specs.declared.part.Span.TheVariants as span

-- the place of a slot
abbrev pub place_of : Slot → ℕ
place_of (Private place) = place.0
place_of (Shared place) = place.0

-- the places of a part's cells
abbrev pub places_of : Part → List ℕ
places_of p = map place_of p.slots

-- the places of all cells, leaf by leaf
abbrev pub all_places : List Part → List ℕ
all_places parts = all_of (map places_of parts)

-- the number of activities of some parts
abbrev pub acts_of : List Part → ℕ
acts_of parts = sum_by (λ p. length p.atomic.acts) parts

-- of each part by its number
abbrev pub EachPart : List Part → (ℕ → Part → Type 0) → Type 0
EachPart parts Holds = (n : ℕ) (p : Part) → slice_get parts n ≡ Some p → Holds n p

-- places below the number of shared ones are shared, the others are private
abbrev pub IsTagged : ℕ → Slot → Type 0
IsTagged shared (Private place) = shared ≤ place.0
IsTagged shared (Shared place) = place.0 < shared

-- one slot per cell, no two of them equal
pub record IsSlotted (shared : ℕ) (p : Part) : Type 0 where
  pub each : length p.slots ≡ length p.atomic.initial
  pub apart : AreApart (places_of p)
  pub tagged : All (IsTagged shared) p.slots

-- a place has the initial value that the atomic gives
abbrev pub IsValued : List ℕ → Part → Type 0
IsValued initial p = (i place : ℕ) → slice_get (places_of p) i ≡ Some place → slice_get initial place ≡ slice_get p.atomic.initial i

-- space, tab, line feed, carriage return
abbrev pub is_blank : ℕ → Bool
is_blank b = nat_eq b 32 || (nat_eq b 9 || (nat_eq b 10 || nat_eq b 13))

-- one path for each part, all different and without blanks
pub record ArePaths (n : Network) : Type 0 where
  pub each : length n.paths ≡ length n.parts
  pub apart : AreApart n.paths
  pub unbroken : All (λ path. list_any is_blank path ≡ false) n.paths

-- at least one tick, within the greatest horizon
abbrev pub IsSpan : Span → Type 0
IsSpan (span.Over from to) = (from.0 < to.0) × (to.0 ≤ MAX_HORIZON + 1)
IsSpan (span.Mean from to) = (from.0 < to.0) × (to.0 ≤ MAX_HORIZON + 1)
IsSpan (span.At tick) = tick.0 ≤ MAX_HORIZON

-- an interval, and no single tick
abbrev pub IsInterval : Span → Type 0
IsInterval (span.Over from to) = Unit {0}
IsInterval (span.Mean from to) = Unit {0}
IsInterval (span.At tick) = ⊥

-- a reward at one tick has no impulse terms
abbrev pub TakesImpulses : Option Reward → Type 0
TakesImpulses None = Unit {0}
TakesImpulses (Some r) = IsInterval r.span

-- at most `MAX_REWARDS` rewards, each over a span; each term's reward is one of them
pub record AreRewarded (n : Network) : Type 0 where
  pub few : length n.rewards ≤ MAX_REWARDS
  pub spans : All (λ r. IsSpan r.span) n.rewards
  pub known : EachPart n.parts (λ _ p. All (λ r. r < length n.rewards) (rewards_of p.atomic))
  pub intervals : EachPart n.parts (λ _ p. All (λ t. TakesImpulses (slice_get n.rewards t.reward)) p.atomic.impulses)

-- parts are numbered in order, activities part by part, and places by first appearance, the shared ones first
pub record AreNumbered (n : Network) : Type 0 where
  pub leaves : EachPart n.parts (λ k p. p.leaf.0 ≡ k)
  pub acts : EachPart n.parts (λ k p. p.first.0 ≡ acts_of (take k n.parts))
  pub places : ordered nat_eq (all_places n.parts) ≡ counting 0 (length n.initial)

-- the limits of a network
pub record IsWithinLimits (n : Network) : Type 0 where
  pub leaves : length n.parts ≤ MAX_LEAVES
  pub places : length n.initial ≤ MAX_PLACES
  pub acts : acts_of n.parts ≤ MAX_ACTS

pub record IsNetwork (n : Network) : Type 0 where
  pub accepted : EachPart n.parts (λ _ p. IsAccepted p.atomic)
  pub rewarded : AreRewarded n
  pub slotted : EachPart n.parts (λ _ p. IsSlotted n.shared p)
  pub valued : EachPart n.parts (λ _ p. IsValued n.initial p)
  pub paths : ArePaths n
  pub numbered : AreNumbered n
  -- the places that two or more parts have
  pub shared : n.shared ≡ length (repeated nat_eq (all_places n.parts))
  pub small : IsWithinLimits n
