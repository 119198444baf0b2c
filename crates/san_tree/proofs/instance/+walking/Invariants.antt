use Rattle.std.proofs.Common.{◌≡◌, ◌+◌, ◌*◌, ◌++◌, map, take, []}
use Rattle.std.specs.Prelude.{slice_index_or}
use Rattle.san_tree.specs.Instances.{joined, copied, onto}
use Rattle.san_tree.specs.inner.Walks.{earlier}
use Rattle.san_tree.proofs.instance.+walking.Given as goal

abbrev pub decreases-walk_child : goal.decreases-walk_child
decreases-walk_child l = 2 * l.n

abbrev pub decreases-walk : goal.decreases-walk
decreases-walk l = 2 * l.n + 1

abbrev pub invariant-walk-children : goal.invariant-walk-children
invariant-walk-children l =
    record {
      way : l.path.items ≡ l.fn.path.items;
      sofar : l.out.items ≡ l.fn.out.items ++ map (onto l.fn.path.items) (joined (earlier l.nodes l.n) 0 (take l.c l.child-items));
    }

abbrev pub invariant-walk-copies : goal.invariant-walk-copies
invariant-walk-copies l =
    record {
      way : l.path.items ≡ l.fn.path.items;
      sofar : l.out.items ≡ l.fn.out.items ++ map (onto l.fn.path.items) (copied (slice_index_or (earlier l.nodes l.n) l.node []) 0 l.c);
    }
