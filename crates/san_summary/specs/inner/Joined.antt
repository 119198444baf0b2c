-- Summaries put together.
use Rattle.std.specs.Prelude.{ℕ, ◌+◌, ◌*◌, ◌≤◌, ◌<◌, ℤ, pos, ◌+ℤ◌, ◌*ℤ◌, unsigned_abs, cond, Option, Some, None}
use Rattle.san_summary.specs.declared.summary.TheConstants.{MAX_SQUARED}
use Rattle.san_base.specs.declared.limits.TheConstants.{MAX_WORTH}
use Rattle.san_summary.specs.Summaries.{greater, is_wide, lesser}
use Rattle.san_summary.specs.declared.batch.TheConstants.{MAX_RUNS}
use Rattle.san_summary.specs.declared.summary.Summary.{Summary}
use Rattle.san_summary.specs.declared.summary.Squares.{Squares}
use Rattle.san_summary.specs.declared.summary.Squares.TheVariants as squares

abbrev pub square_of : ℤ → Squares
square_of x = cond (is_wide x) squares.Wide (squares.Sum (x *ℤ x))

abbrev pub squares_and : Squares → Squares → Squares
squares_and (squares.Sum x) (squares.Sum y) = squares.Sum (x +ℤ y)
squares_and (squares.Sum x) squares.Wide = squares.Wide
squares_and squares.Wide b = squares.Wide

abbrev pub one : ℤ → Summary
one x = record { count = 1; sum = x; squares = square_of x; least = Some x; greatest = Some x }

abbrev pub none : Summary
none = record { count = 0; sum = pos 0; squares = squares.Sum (pos 0); least = None; greatest = None }

abbrev pub joined : Summary → Summary → Summary
joined a b = record { count = a.count + b.count; sum = a.sum +ℤ b.sum; squares = squares_and a.squares b.squares; least = lesser a.least b.least; greatest = greater a.greatest b.greatest }

-- the squares of so many numbers, none of them greater than MAX_SQUARED in size
abbrev pub squares_small : ℕ → Squares → Type 0
squares_small n (squares.Sum x) = unsigned_abs x ≤ n * (MAX_SQUARED * MAX_SQUARED)
squares_small n squares.Wide = Unit {0}

pub record IsSmall (s : Summary) : Type 0 where
  pub count : s.count ≤ MAX_RUNS
  pub sum : unsigned_abs s.sum ≤ s.count * MAX_WORTH
  pub squares : squares_small s.count s.squares

-- two of them have a summary together
pub record CanJoinOne (a b : Summary) : Type 0 where
  pub first : IsSmall a
  pub second : IsSmall b
  pub few : a.count + b.count ≤ MAX_RUNS

-- a number more
pub record CanCountOne (a : Summary) (x : ℤ) : Type 0 where
  pub first : IsSmall a
  pub small : unsigned_abs x ≤ MAX_WORTH
  pub few : a.count < MAX_RUNS

abbrev pub CanCount : Summary → Option ℤ → Type 0
CanCount a None = Unit {0}
CanCount a (Some x) = CanCountOne a x

abbrev pub counted : Summary → Option ℤ → Summary
counted a None = a
counted a (Some x) = joined a (one x)
