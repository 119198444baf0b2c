-- A leaf's cells over a lent view of the shared places.
use Rattle.std.specs.Prelude.{ℕ, suc, ◌≡◌, List, [], ◌∷◌, ◌++◌, length, map, Option, Some, None, slice_index, slice_index_or}
use Rattle.san_expr.specs.View.{Known, ViewState}

-- values that are known of some cells, as a map
abbrev pub known : List (Option ℕ) → Known
known cells p = slice_index_or cells p None

-- the places of the cells, the values of the leaf's own cells and of those that were assigned, the first values that were read, and what the lent view records and keeps
pub record Seeing : Type 0 where
  pub places : List ℕ
  pub own : List (Option ℕ)
  pub first : List (Option ℕ)
  pub marking : Option (List ℕ)
  pub kept : List ℕ

pub record IsSeeing (cells : ℕ) (own_values first_values : List (Option ℕ)) : Type 0 where
  pub own : length own_values ≡ cells
  pub first : length first_values ≡ cells

-- what is recorded of some places
abbrev pub behind_of : List ℕ → Option (List ℕ) → List ℕ
behind_of places None = []
behind_of places (Some m) = map (λ q. slice_index m q) places

-- a marking as a list of numbers
abbrev pub code_of : Option (List ℕ) → List ℕ
code_of None = 0 ∷ []
code_of (Some m) = suc (length m) ∷ m

-- no call changes the places, or what the lent view records and keeps
abbrev pub kept_of : Seeing → List ℕ
kept_of s = s.places ++ (code_of s.marking ++ s.kept)

abbrev pub view_state_of : Seeing → ViewState
view_state_of s = record { places = length s.places; first = known s.first; own = known s.own; behind = behind_of s.places s.marking; kept = kept_of s }
