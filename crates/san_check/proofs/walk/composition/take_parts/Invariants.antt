use Rattle.std.proofs.Common.{◌≡◌, drop}
use Rattle.san_check.specs.Tables.{all_paired}
use Rattle.san_check.proofs.walk.composition.take_parts.Given as goal

abbrev pub invariant-parts : goal.invariant-parts
invariant-parts l = all_paired l.taken (drop l.part-index l.parts) ≡ all_paired l.fn.taken l.parts
