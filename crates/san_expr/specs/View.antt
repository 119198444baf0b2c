-- What a view shows of a marking, and what a read and an assignment do to it.
use Rattle.std.specs.Prelude.{ℕ, suc, ◌≡◌, ◌<◌, ◌≤◌, nat_eq, List, [], ◌∷◌, length, slice_index, slice_get, Option, Some, None, Bool, true, false, IsTrue, if◌then◌else◌}
use Rattle.san_base.specs.declared.limits.TheConstants.{MAX_TOKENS}

-- a finite map from cells to numbers
abbrev pub Known : Type 0
Known = ℕ → Option ℕ

-- a view as contracts see it: how many cells there are, the values that were read, the values that the view has of
-- itself, the marking behind it where that is known, and numbers of the implementation's choice
pub record ViewState : Type 0 where
  pub places : ℕ
  pub first : Known
  pub own : Known
  pub behind : List ℕ
  pub kept : List ℕ

abbrev pub is_known : Option ℕ → Bool
is_known (Some v) = true
is_known None = false

abbrev pub or_else : Option ℕ → ℕ → ℕ
or_else (Some v) n = v
or_else None n = n

-- a map put over a marking
abbrev pub over : Known → List ℕ → List ℕ
over own [] = []
over own (x ∷ m) = or_else (own 0) x ∷ over (λ p. own (suc p)) m

-- a map with one cell put in
abbrev pub with : Known → ℕ → ℕ → Known
with own p v q = if nat_eq q p then Some v else own q

abbrev pub IsAt : Option ℕ → ℕ → Type 0
IsAt (Some v) n = v ≡ n
IsAt None n = Unit {0}

-- a marking of these cells that has the values that were read
pub record Agrees (s : ViewState) (m : List ℕ) : Type 0 where
  pub sized : length m ≡ s.places
  pub has : (p : ℕ) → IsAt (s.first p) (slice_index m p)

-- everything that was known is known
abbrev pub Grows : Known → Known → Type 0
Grows old new = (p v : ℕ) → old p ≡ Some v → new p ≡ Some v

-- the value of a cell in the marking behind, where that is known
abbrev pub IsBehind : List ℕ → ℕ → ℕ → Type 0
IsBehind [] p v = Unit {0}
IsBehind (x ∷ xs) p v = slice_index (x ∷ xs) p ≡ v

-- what a value that is read for the first time is
abbrev pub IsSeen : List ℕ → ℕ → ℕ → Type 0
IsSeen behind p v = (v ≤ MAX_TOKENS) × IsBehind behind p v

-- what a read answers, by the own value and the first one, and what it leaves
abbrev pub Answers : Option ℕ → Option ℕ → ViewState → ViewState → ℕ → ℕ → Type 0
Answers (Some w) first old new p v = (v ≡ w) × (new ≡ old)
Answers None (Some w) old new p v = (v ≡ w) × (new ≡ old)
Answers None None old new p v = IsSeen old.behind p v × (new ≡ record old { first = with old.first p v })

-- a read gives the own value, else the first one, else a value that it enters as the first one
abbrev pub ReadsCell : ViewState → ViewState → ℕ → ℕ → Type 0
ReadsCell old new p v = Answers (old.own p) (old.first p) old new p v

-- an assignment
abbrev pub assigned : ViewState → ℕ → ℕ → ViewState
assigned s p v = record s { own = with s.own p v }

-- a view of a whole marking: each cell is its own
abbrev pub plain : List ℕ → ViewState
plain values = record { places = length values; first = λ p. None; own = λ p. slice_get values p; behind = []; kept = [] }

-- each cell is the view's own
abbrev pub OwnsAll : ViewState → Type 0
OwnsAll s = (p : ℕ) → p < s.places → IsTrue (is_known (s.own p))
