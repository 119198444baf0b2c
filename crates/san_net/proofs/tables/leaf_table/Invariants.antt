use Rattle.std.proofs.Common.{◌≡◌, take}
use Rattle.san_net.specs.Tables.{leaves_of_acts}
use Rattle.san_net.proofs.tables.leaf_table.Given as goal

abbrev pub invariant-parts : goal.invariant-parts
invariant-parts l = l.table.items ≡ leaves_of_acts (take l.part-index l.parts)
