-- The text of a batch: a line for the runs, and one for each reward. Each ends with a line feed.
use Rattle.std.specs.Prelude.{ℕ, ℤ, List, [], ◌∷◌, ◌++◌, codes, Option, Some, None}
use Rattle.std.specs.Fmt.{decimal, signed_decimal}
use Rattle.san_net.specs.Network.{Network}
use Rattle.san_net.specs.declared.part.Reward.{Reward}
use Rattle.san_report.specs.Lines.{joined}
use Rattle.san_summary.specs.Batches.{Sums}
use Rattle.san_summary.specs.declared.summary.Squares.{Squares}
use Rattle.san_summary.specs.declared.summary.Squares.TheVariants as squares
use Rattle.san_summary.specs.declared.summary.Summary.{Summary}

-- `runs N stopped K`
unfoldable pub runs_line : ℕ → ℕ → List ℕ
runs_line runs stopped = joined (codes "runs " ∷ decimal runs ∷ codes " stopped " ∷ decimal stopped ∷ codes "\n" ∷ [])

abbrev pub squares_text : Squares → List ℕ
squares_text (squares.Sum x) = signed_decimal x
squares_text squares.Wide = codes "wide"

abbrev pub number_text : Option ℤ → List ℕ
number_text None = codes "none"
number_text (Some x) = signed_decimal x

-- `batch NAME COUNT SUM SQUARES LEAST GREATEST`
unfoldable pub batch_line : List ℕ → Summary → List ℕ
batch_line name s = joined (codes "batch " ∷ name ∷ codes " " ∷ decimal s.count ∷ codes " " ∷ signed_decimal s.sum ∷ codes " " ∷ squares_text s.squares ∷ codes " " ∷ number_text s.least ∷ codes " " ∷ number_text s.greatest ∷ codes "\n" ∷ [])

-- a line for each reward
abbrev pub batch_lines : List Reward → List Summary → List ℕ
batch_lines [] ss = []
batch_lines (r ∷ rs) [] = []
batch_lines (r ∷ rs) (s ∷ ss) = batch_line r.name s ++ batch_lines rs ss

abbrev pub batch_text : Network → Sums → List ℕ
batch_text n b = runs_line b.runs b.stopped ++ batch_lines n.rewards b.rewards
