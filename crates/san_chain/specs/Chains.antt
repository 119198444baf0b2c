-- Pieces that are joined end to base.
use Rattle.std.specs.Prelude.{ℕ, ◌≡◌, List, [], ◌∷◌, Option, Some, None}

-- the end of the last piece, or another
abbrev pub end_from : {P S : Type 0} → (P → S) → S → List (ℕ × P) → S
end_from end e [] = e
end_from end e (x ∷ xs) = end_from end (end x.1) xs

-- the end of the last piece, where there is one
abbrev pub end_of : {P S : Type 0} → (P → S) → List (ℕ × P) → Option S
end_of end [] = None
end_of end (x ∷ xs) = Some (end_from end (end x.1) xs)

-- a piece goes on from an end, where there is one
abbrev pub GoesOn : {S : Type 0} → S → Option S → Type 0
GoesOn b None = Unit {0}
GoesOn b (Some e) = b ≡ e

-- the pieces with their numbers, and how many more find room without memory
pub record ChainValue (P : Type 0) : Type 0 where
  pub pieces : List (ℕ × P)
  pub spare : ℕ
