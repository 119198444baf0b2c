-- Places in the order of their numbers, with values.
use Rattle.std.specs.Prelude.{ℕ, ◌≡◌, ◌≤◌, ◌<◌, nat_eq, List, [], ◌∷◌, length, Result, Ok, Err, slice_index, if◌then◌else◌}
use Rattle.san_base.specs.declared.limits.TheConstants.{MAX_TOKENS}

-- a number is below each of a list
abbrev pub IsBelowAll : ℕ → List ℕ → Type 0
IsBelowAll q [] = Unit {0}
IsBelowAll q (x ∷ xs) = (q < x) × IsBelowAll q xs

-- and so is each number of a list below those behind it
abbrev pub AreAscending : List ℕ → Type 0
AreAscending [] = Unit {0}
AreAscending (x ∷ xs) = IsBelowAll x xs × AreAscending xs

-- where a number stands in an ascending list, or else where it belongs
abbrev pub IsIndexOf : ℕ → List ℕ → Result ℕ ℕ → Type 0
IsIndexOf q xs (Ok i) = (i < length xs) × (slice_index xs i ≡ q)
IsIndexOf q xs (Err i) = (i ≤ length xs) × ((k : ℕ) → k < i → slice_index xs k < q) × ((k : ℕ) → i ≤ k → k < length xs → q < slice_index xs k)

-- each is a number of tokens
abbrev pub AreTokens : List ℕ → Type 0
AreTokens [] = Unit {0}
AreTokens (v ∷ vs) = (v ≤ MAX_TOKENS) × AreTokens vs

-- the value of a place, and 0 where it isn't there
abbrev pub value_in : ℕ → List ℕ → List ℕ → ℕ
value_in q [] vs = 0
value_in q (x ∷ xs) [] = 0
value_in q (x ∷ xs) (v ∷ vs) = if nat_eq x q then v else value_in q xs vs

pub record IsSnapshot (places values : List ℕ) : Type 0 where
  pub ascending : AreAscending places
  pub long : length values ≡ length places
  pub small : AreTokens values
