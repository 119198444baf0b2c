use Rattle.std.proofs.Common.{◌+◌, ◌++◌, ◌≡◌, ◌≤◌, drop, map}
use Rattle.std.specs.Prelude.{vec_capacity, vec_len}
use Rattle.san_speculation.specs.inner.Going.{read_step}
use Rattle.san_speculation.proofs.pushing.book_reads.Given as goal

abbrev pub invariant-reads : goal.invariant-reads
invariant-reads l = record {
  items : l.journal.items ++ map (read_step l.worker) (drop l.read-index l.log) ≡ l.fn.journal.items ++ map (read_step l.worker) l.log;
  len : vec_len l.journal ≡ vec_len l.fn.journal + l.read-index;
  room : vec_capacity l.fn.journal ≤ vec_capacity l.journal;
}
