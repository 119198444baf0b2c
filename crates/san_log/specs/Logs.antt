-- The first values that were read of some places.
use Rattle.std.specs.Prelude.{ℕ, ◌≡◌, ◌++◌, nat_eq, List, [], ◌∷◌, Option, Some, None, Bool, true, false, slice_get}
use Rattle.san_base.specs.declared.numbers.PlaceId.{PlaceId}

-- a place and its value
abbrev pub Entry : Type 0
Entry = PlaceId × ℕ

-- the entries in the order of noting, and for how many there is room
pub record LogValue : Type 0 where
  pub entries : List Entry
  pub room : ℕ

abbrev pub found_by : Bool → ℕ → Option ℕ → Option ℕ
found_by true v rest = Some v
found_by false v rest = rest

-- the value of a place
abbrev pub find : ℕ → List Entry → Option ℕ
find place [] = None
find place (e ∷ es) = found_by (nat_eq e.0.0 place) e.1 (find place es)

abbrev pub noted_by : Option ℕ → Entry → List Entry → List Entry
noted_by (Some v) e es = es
noted_by None e es = es ++ e ∷ []

-- a place that has no value gets one
abbrev pub noted : PlaceId → ℕ → List Entry → List Entry
noted place v es = noted_by (find place.0 es) (place, v) es

-- each place is in the list and has the entry's value there
abbrev pub AreEntriesOf : List Entry → List ℕ → Type 0
AreEntriesOf [] shared = Unit {0}
AreEntriesOf (e ∷ es) shared = (slice_get shared e.0.0 ≡ Some e.1) × AreEntriesOf es shared
