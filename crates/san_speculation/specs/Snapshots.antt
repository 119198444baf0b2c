-- The values of a leaf's shared places, taken at once.
use Rattle.std.specs.Prelude.{ℕ, zero, suc, ◌≡◌, nat_eq, nat_lt, List, [], ◌∷◌, map, if◌then◌else◌}
use Rattle.san_base.specs.declared.piece.Stamp.{Stamp}
use Rattle.san_book.specs.Lines.{Line, seen_at}
use Rattle.san_book.specs.Nets.{or_zero}
use Rattle.san_law.specs.Net.{Private, Shared, Slot}
use Rattle.san_leaf.specs.Pieces.{slots_in}
use Rattle.san_net.specs.declared.part.Part.{Part}

-- places in the order of their numbers, with one more where it isn't there
abbrev pub added : ℕ → List ℕ → List ℕ
added q [] = q ∷ []
added q (x ∷ xs) = if nat_lt q x then q ∷ (x ∷ xs) else if nat_eq q x then x ∷ xs else x ∷ added q xs

-- with the shared ones among slots
abbrev pub shared_more : List ℕ → List Slot → List ℕ
shared_more qs [] = qs
shared_more qs (Private p ∷ ss) = shared_more qs ss
shared_more qs (Shared q ∷ ss) = shared_more (added q qs) ss

-- the shared places of a part, in the order of their numbers
abbrev pub shared_places : Part → List ℕ
shared_places p = shared_more [] (slots_in p)

-- places in the order of their numbers, and a value for each
pub record SnapshotValue : Type 0 where
  pub places : List ℕ
  pub values : List ℕ

-- each place with a value
abbrev pub filled : (ℕ → ℕ) → List ℕ → SnapshotValue
filled f qs = record { places = qs; values = map f qs }

-- it has a part's shared places
abbrev pub IsFor : Part → SnapshotValue → Type 0
IsFor p s = s.places ≡ shared_places p

-- a list with another value at an index; it is made as long as it has to be, by zeros
abbrev pub put_at : ℕ → ℕ → List ℕ → List ℕ
put_at zero v [] = v ∷ []
put_at zero v (x ∷ xs) = v ∷ xs
put_at (suc q) v [] = 0 ∷ put_at q v []
put_at (suc q) v (x ∷ xs) = x ∷ put_at q v xs

-- the marking that has these values at these places, and 0 elsewhere
abbrev pub marking_of : List ℕ → List ℕ → List ℕ
marking_of [] vs = []
marking_of (q ∷ qs) [] = []
marking_of (q ∷ qs) (v ∷ vs) = put_at q v (marking_of qs vs)

-- what lines show of a place at a stamp; a place without a line has 0
abbrev pub shown_at : List Line → Stamp → ℕ → ℕ
shown_at lines stamp q = or_zero (seen_at lines stamp q)
