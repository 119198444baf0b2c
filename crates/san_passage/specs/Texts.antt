-- The text of passages: two lines, each of which ends with a line feed.
use Rattle.std.specs.Prelude.{ℕ, List, [], ◌∷◌, ◌++◌, codes, Option, Some, None}
use Rattle.std.specs.Fmt.{decimal}
use Rattle.san_base.specs.declared.numbers.Tick.{Tick}
use Rattle.san_report.specs.Lines.{joined}
use Rattle.san_passage.specs.declared.totals.Passages.{Passages}

abbrev pub tick_text : Option Tick → List ℕ
tick_text None = codes "none"
tick_text (Some t) = decimal t.0

-- `runs N reached A never B stopped C`
unfoldable pub counts_line : ℕ → Passages → List ℕ
counts_line runs p = joined (codes "runs " ∷ decimal runs ∷ codes " reached " ∷ decimal p.reached ∷ codes " never " ∷ decimal p.never ∷ codes " stopped " ∷ decimal p.stopped ∷ codes "\n" ∷ [])

-- `first SUM LEAST GREATEST`
unfoldable pub first_line : Passages → List ℕ
first_line p = joined (codes "first " ∷ decimal p.sum ∷ codes " " ∷ tick_text p.least ∷ codes " " ∷ tick_text p.greatest ∷ codes "\n" ∷ [])

-- of so many runs
abbrev pub passages_text : ℕ → Passages → List ℕ
passages_text runs p = counts_line runs p ++ first_line p
