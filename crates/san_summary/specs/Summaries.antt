-- What numbers come to: how many they are, their sum, the sum of their squares, the least and the greatest.
use Rattle.std.specs.Prelude.{ℤ, pos, ◌+ℤ◌, ◌*ℤ◌, unsigned_abs, nat_lt, Bool, cond, List, [], ◌∷◌, length, map, Option, Some, None}
use Rattle.std.specs.List.{list_any}
use Rattle.std.specs.Int.{int_min, int_max}
use Rattle.san_summary.specs.declared.summary.TheConstants.{MAX_SQUARED}
use Rattle.san_summary.specs.declared.summary.Summary.{Summary}
use Rattle.san_summary.specs.declared.summary.Squares.{Squares}
use Rattle.san_summary.specs.declared.summary.Squares.TheVariants as squares

abbrev pub total : List ℤ → ℤ
total [] = pos 0
total (x ∷ xs) = x +ℤ total xs

-- outside of -10^17 to 10^17
abbrev pub is_wide : ℤ → Bool
is_wide x = nat_lt MAX_SQUARED (unsigned_abs x)

-- one wide number is enough
abbrev pub squares_of : List ℤ → Squares
squares_of xs = cond (list_any is_wide xs) squares.Wide (squares.Sum (total (map (λ x. x *ℤ x) xs)))

abbrev pub lesser : Option ℤ → Option ℤ → Option ℤ
lesser None b = b
lesser (Some x) None = Some x
lesser (Some x) (Some y) = Some (int_min x y)

abbrev pub greater : Option ℤ → Option ℤ → Option ℤ
greater None b = b
greater (Some x) None = Some x
greater (Some x) (Some y) = Some (int_max x y)

abbrev pub least_of : List ℤ → Option ℤ
least_of [] = None
least_of (x ∷ xs) = lesser (Some x) (least_of xs)

abbrev pub greatest_of : List ℤ → Option ℤ
greatest_of [] = None
greatest_of (x ∷ xs) = greater (Some x) (greatest_of xs)

abbrev pub summary_of : List ℤ → Summary
summary_of xs = record { count = length xs; sum = total xs; squares = squares_of xs; least = least_of xs; greatest = greatest_of xs }
