use Rattle.std.proofs.Common.{◌≡◌, ◌++◌, replicate}
use Rattle.san_net.proofs.tables.push_times.Given as goal

abbrev pub invariant-times : goal.invariant-times
invariant-times l = l.table.items ≡ l.initial.table.items ++ replicate l.counter l.leaf
