use Rattle.std.proofs.Common.{◌≡◌, drop}
use Rattle.std.specs.Prelude.{slice_get}
use Rattle.san_book.specs.Lines.{agrees}
use Rattle.san_speculation.proofs.need.agrees.Given as goal

abbrev pub invariant-read : goal.invariant-read
invariant-read l = agrees (slice_get l.shared) (drop l.entry-index l.log) ≡ agrees (slice_get l.shared) l.log
