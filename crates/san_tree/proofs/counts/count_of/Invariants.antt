-- The total so far is that of the children passed.
use Rattle.std.proofs.Common.{◌≡◌, take}
use Rattle.std.specs.Prelude.{slice_index}
use Rattle.std.specs.List.{sum_by}
use Rattle.san_tree.specs.Instances.{capped}
use Rattle.san_tree.proofs.counts.count_of.Given as goal

abbrev pub invariant-loop-child : goal.invariant-loop-child
invariant-loop-child l = l.total ≡ capped (sum_by (λ child. slice_index l.counts child.1) (take l.child-index l.child-items))
