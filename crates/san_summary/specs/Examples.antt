-- Worked values of the definitions.
use Rattle.std.specs.Prelude.{◌≡◌, refl, pos, negsuc, List, [], ◌∷◌, Some, None, true, false}
use Rattle.san_summary.specs.Batches.{Outcome, sums_of}
use Rattle.san_summary.specs.Summaries.{squares_of, summary_of}
use Rattle.san_summary.specs.declared.summary.Squares.TheVariants as squares

-- of 3, -1 and 4
pub three_numbers : summary_of (pos 3 ∷ negsuc 0 ∷ pos 4 ∷ []) ≡ record { count = 3; sum = pos 6; squares = squares.Sum (pos 26); least = Some (negsuc 0); greatest = Some (pos 4) }
three_numbers = refl

-- 10^17 is squared, one more is not
pub widest : squares_of (pos 100000000000000000 ∷ []) ≡ squares.Sum (pos 10000000000000000000000000000000000)
widest = refl

pub too_wide : squares_of (pos 1 ∷ negsuc 100000000000000000 ∷ []) ≡ squares.Wide
too_wide = refl

-- two runs for one reward, of which the second stopped
pub two_runs : (let os : List Outcome = record { stopped = false; numbers = Some (pos 5) ∷ [] } ∷ record { stopped = true; numbers = None ∷ [] } ∷ [] in sums_of 1 os)
    ≡ record { runs = 2; stopped = 1; rewards = record { count = 1; sum = pos 5; squares = squares.Sum (pos 25); least = Some (pos 5); greatest = Some (pos 5) } ∷ [] }
two_runs = refl
