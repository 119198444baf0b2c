-- When a state, a kind and a time fit a part.
use Rattle.std.specs.Prelude.{ℕ, ◌+◌, ◌-◌, ◌^◌, ◌≡◌, ◌≤◌, ◌<◌, ◌⊎◌, [], All, length, Some, None, slice_get}
use Rattle.san_base.specs.declared.limits.TheConstants.{MAX_ACTS, MAX_HORIZON, MAX_TOKENS}
use Rattle.san_base.specs.declared.piece.Kind.{Kind}
use Rattle.san_law.specs.Net.{Timer}
use Rattle.san_law.specs.Piece.{LeafState, privates}
use Rattle.san_net.specs.Accepted.{IsAccepted}
use Rattle.san_net.specs.Apart.{AreApart}
use Rattle.san_net.specs.Instants.{Named}
use Rattle.san_net.specs.Laid.{places_of}
use Rattle.san_net.specs.declared.activity.ActKind.{ActKind}
use Rattle.san_net.specs.declared.part.Part.{Part}
use Rattle.san_base.specs.declared.piece.Kind.TheVariants as piece
use Rattle.san_net.specs.declared.activity.ActKind.TheVariants as kind
use Rattle.san_leaf.specs.Claimed.{Claimed}
use Rattle.san_leaf.specs.Pieces.{slots_in}

abbrev pub IsTimed : ActKind → Type 0
IsTimed (kind.Timed delay pair) = Unit {0}
IsTimed (kind.Instant priority) = ⊥

-- it has an activation and a reactivation predicate
abbrev pub IsPaired : ActKind → Type 0
IsPaired (kind.Timed delay (Some pair)) = Unit {0}
IsPaired (kind.Timed delay None) = ⊥
IsPaired (kind.Instant priority) = ⊥

-- how many draws of a stream a state may have taken: half of all numbers, so that a piece has room for its own
abbrev pub MAX_LEAF_DRAWS : ℕ
MAX_LEAF_DRAWS = 2 ^ 39

pub record StateFits (p : Part) (s : LeafState) : Type 0 where
  -- one for each private place, each a number of tokens
  pub values : length s.values ≡ length (privates (slots_in p))
  pub small : All (λ v. v ≤ MAX_TOKENS) s.values
  -- one for each activity
  pub timers : length s.row.timers ≡ length p.atomic.acts
  pub delays : length s.row.delays ≡ length p.atomic.acts
  pub cases : length s.row.cases ≡ length p.atomic.acts
  pub delay_numbers : All (λ n. n < MAX_LEAF_DRAWS) s.row.delays
  pub case_numbers : All (λ n. n < MAX_LEAF_DRAWS) s.row.cases
  -- nothing, or a value for each place; where an activity with a pair has a timer, the latter
  pub seen : (s.seen ≡ []) ⊎ (length s.seen ≡ length p.atomic.initial)
  pub paired : (k : ℕ) (a : Named) (t : Timer) → slice_get p.atomic.acts k ≡ Some a → IsPaired a.1.kind → slice_get s.row.timers k ≡ Some (Some t) → length s.seen ≡ length p.atomic.initial

-- what fires is a timed activity of the part
abbrev pub KindFits : Part → Kind → Type 0
KindFits p (piece.Fire act) = (p.first.0 ≤ act.0) × ((a : Named) × (slice_get p.atomic.acts (act.0 - p.first.0) ≡ Some a) × IsTimed a.1.kind)
KindFits p piece.Settle = Unit {0}
KindFits p piece.Refresh = Unit {0}

pub record Fits (c : Claimed) : Type 0 where
  pub base : StateFits c.part c.base
  pub kind : KindFits c.part c.kind
  pub time : c.time ≤ MAX_HORIZON
  pub accepted : IsAccepted c.part.atomic
  pub few : c.part.first.0 + length c.part.atomic.acts ≤ MAX_ACTS
  -- one slot for each place, no two of them equal
  pub each : length c.part.slots ≡ length c.part.atomic.initial
  pub apart : AreApart (places_of c.part)
