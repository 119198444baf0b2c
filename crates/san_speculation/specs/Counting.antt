-- What a core's steps count.
use Rattle.std.specs.Prelude.{ℕ, List}
use Rattle.san_book.specs.Cores as book
use Rattle.san_book.specs.Journals.{commits, counted, is_claim, is_late, is_redo}
use Rattle.san_law.specs.Core as law
use Rattle.san_leaf.specs.Pieces.{PieceValue}
use Rattle.san_speculation.specs.declared.counting.Counts.{Counts}

abbrev pub counts_in : List book.Step → ℕ → Counts
counts_in steps rollbacks = record { claims = counted is_claim steps; late = counted is_late steps; rollbacks = rollbacks; committed = counted commits steps; redone = counted is_redo steps }

abbrev pub counts_of : book.Core law.Core PieceValue → Counts
counts_of c = counts_in c.journal c.rollbacks
