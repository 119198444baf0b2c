use Rattle.std.proofs.Common.{◌≡◌, ◌+◌, ◌++◌, drop}
use Rattle.san_flat.specs.inner.Models.{acts_in, parts_from}
use Rattle.san_flat.proofs.parts.parts_of.Given as goal

abbrev pub invariant-leaves : goal.invariant-leaves
invariant-leaves l =
    record {
      sofar : l.parts.items ++ parts_from l.model l.at l.first (drop l.at l.leaves) ≡ parts_from l.model 0 0 l.leaves;
      acts : l.first + acts_in l.model (drop l.at l.leaves) ≡ acts_in l.model l.leaves;
    }
