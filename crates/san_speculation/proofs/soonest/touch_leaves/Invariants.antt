use Rattle.std.proofs.Common.{All, ◌≡◌, ◌<◌, drop, length}
use Rattle.san_base.specs.declared.numbers.LeafId.{LeafId}
use Rattle.san_speculation.specs.inner.Soonest.{touched}
use Rattle.san_speculation.proofs.soonest.touch_leaves.Given as goal

abbrev pub invariant-leaves : goal.invariant-leaves
invariant-leaves l = record {
  there : All (λ (leaf : LeafId). leaf.0 < length l.soonest) (drop l.leaf-index l.leaves);
  done : touched (drop l.leaf-index l.leaves) l.soonest ≡ touched l.leaves l.fn.soonest;
}
