-- The form of names.
use Rattle.std.specs.Prelude.{ℕ, Bool, true, false, ◌&&◌, ◌||◌, nat_eq, nat_lt, List, [], ◌∷◌}
use Rattle.std.specs.Char.{digit_value}

-- a to z
abbrev pub is_letter : ℕ → Bool
is_letter b = nat_lt 96 b && nat_lt b 123

-- 0 to 9
abbrev pub is_digit : ℕ → Bool
is_digit b = nat_lt (digit_value b) 10

-- letters, digits and `_`
abbrev pub is_in_name : ℕ → Bool
is_in_name b = is_letter b || (is_digit b || nat_eq b 95)

-- every byte passes
abbrev pub each : (ℕ → Bool) → List ℕ → Bool
each p [] = true
each p (b ∷ bs) = p b && each p bs

-- a letter, then letters, digits and `_`
abbrev pub is_name : List ℕ → Bool
is_name [] = false
is_name (b ∷ bs) = is_letter b && each is_in_name bs
