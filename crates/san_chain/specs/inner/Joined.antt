-- Pieces that are joined end to base.
use Rattle.std.specs.Prelude.{ℕ, ◌≡◌, List, [], ◌∷◌}

-- from an end on, each piece begins where the one before it ends
abbrev pub JoinsFrom : {P S : Type 0} → (P → S) → (P → S) → S → List (ℕ × P) → Type 0
JoinsFrom base end e [] = Unit {0}
JoinsFrom base end e (x ∷ xs) = (base x.1 ≡ e) × JoinsFrom base end (end x.1) xs

-- each piece but the first begins where the one before it ends
abbrev pub Joins : {P S : Type 0} → (P → S) → (P → S) → List (ℕ × P) → Type 0
Joins base end [] = Unit {0}
Joins base end (x ∷ xs) = JoinsFrom base end (end x.1) xs
