-- A leaf's cells, with those that were looked at.
use Rattle.std.specs.Prelude.{ℕ, ◌≡◌, ◌≤◌, nat_le, if◌then◌else◌, Bool, true, false, List, [], length, Option, Some, None, slice_get, slice_index}
use Rattle.san_base.specs.declared.limits.TheConstants.{MAX_TOKENS}
use Rattle.san_base.specs.declared.numbers.PlaceId.{PlaceId}
use Rattle.san_expr.specs.View.{ViewState}
use Rattle.san_net.specs.declared.part.Slot.{Slot}
use Rattle.san_net.specs.declared.part.Slot.TheVariants.{Private}

pub record Looked : Type 0 where
  pub values : List ℕ
  pub looked : List Bool

-- a value, up to the greatest that there is
abbrev pub capped : ℕ → ℕ
capped v = if nat_le v MAX_TOKENS then v else MAX_TOKENS

-- a cell's value, if it was looked at
abbrev pub noted : Option Bool → ℕ → Option ℕ
noted None v = None
noted (Some false) v = None
noted (Some true) v = Some (capped v)

-- nothing is the view's own, and what was looked at is known
abbrev pub view_state_of : Looked → ViewState
view_state_of s = record { places = length s.values; first = λ p. noted (slice_get s.looked p) (slice_index s.values p); own = λ p. None; behind = []; kept = s.values }

-- a cell of a place that no other leaf has, with a value that is not too great
pub record IsOwn (slots : List Slot) (values : List ℕ) (k : ℕ) : Type 0 where
  pub place : PlaceId
  pub private : slice_get slots k ≡ Some (Private place)
  pub small : slice_index values k ≤ MAX_TOKENS

-- just such cells were looked at
abbrev pub SawOwn : List Slot → Looked → Type 0
SawOwn slots s = (k : ℕ) → slice_get s.looked k ≡ Some true → IsOwn slots s.values k
