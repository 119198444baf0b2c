-- A leaf's values, from its own ones and what was read of the shared places.
use Rattle.std.specs.Prelude.{ℕ, ◌≤◌, List, [], ◌∷◌, slice_index_or}
use Rattle.san_base.specs.declared.limits.TheConstants.{MAX_TOKENS}
use Rattle.san_base.specs.declared.numbers.PlaceId.{PlaceId}
use Rattle.san_law.specs.Net.{Private, Shared, Slot}

abbrev pub place_in : PlaceId × ℕ → ℕ
place_in x = x.0.0

-- the shared places
abbrev pub shared_of : List Slot → List ℕ
shared_of [] = []
shared_of (Private q ∷ ss) = shared_of ss
shared_of (Shared q ∷ ss) = q ∷ shared_of ss

-- in the order of the slots
abbrev pub joined : List Slot → List ℕ → List (ℕ × ℕ) → List ℕ
joined [] own log = []
joined (Private q ∷ ss) [] log = 0 ∷ joined ss [] log
joined (Private q ∷ ss) (v ∷ own) log = v ∷ joined ss own log
joined (Shared q ∷ ss) own [] = 0 ∷ joined ss own []
joined (Shared q ∷ ss) own (r ∷ log) = r.1 ∷ joined ss own log

-- each value that was read is a number of tokens
abbrev pub HasTokens : List (ℕ × ℕ) → Type 0
HasTokens log = (i : ℕ) → (slice_index_or log i (0, 0)).1 ≤ MAX_TOKENS
