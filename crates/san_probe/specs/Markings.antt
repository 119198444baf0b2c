-- The markings of a network of so many places.
use Rattle.std.specs.Prelude.{ℕ, ◌≡◌, List, length}
use Rattle.san_expr.specs.Concerns.{IsMarking}

-- each value is at most 2147483647
pub record IsMarkingOf (places : ℕ) (m : List ℕ) : Type 0 where
  pub sized : length m ≡ places
  pub values : IsMarking m
