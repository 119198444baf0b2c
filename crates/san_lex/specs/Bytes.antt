-- Kinds of bytes, and the bytes at the front of a text that are of one kind.
use Rattle.std.specs.Prelude.{ℕ, Bool, true, false, cond, ◌||◌, nat_eq, List, [], ◌∷◌}

-- space, line feed, tab and carriage return
abbrev pub is_blank : ℕ → Bool
is_blank b = nat_eq b 32 || (nat_eq b 10 || (nat_eq b 9 || nat_eq b 13))

abbrev pub is_in_line : ℕ → Bool
is_in_line b = cond (nat_eq b 10) false true

-- the bytes at the front that pass a test
unfoldable pub run : (ℕ → Bool) → List ℕ → List ℕ
run p [] = []
run p (b ∷ bs) = cond (p b) (b ∷ run p bs) []

abbrev pub first : List ℕ → ℕ
first [] = 0
first (b ∷ bs) = b
