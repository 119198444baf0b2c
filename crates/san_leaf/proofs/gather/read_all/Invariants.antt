use Rattle.std.proofs.Common.{◌≡◌, ◌++◌, drop, map}
use Rattle.san_net.specs.Leaf.{slot_in}
use Rattle.san_leaf.specs.Claimed.{IsReadFrom}
use Rattle.san_leaf.specs.States.{pair_in}
use Rattle.san_leaf.specs.inner.Gathers.{HasTokens, place_in, shared_of}
use Rattle.san_leaf.proofs.gather.read_all.Given as goal

abbrev pub invariant-slots : goal.invariant-slots
invariant-slots g l =
    record {
      places : map place_in l.log.items ++ shared_of (map slot_in (drop l.slot-index l.slots)) ≡ shared_of (map slot_in l.slots);
      read : IsReadFrom (g.V.View.marking l.fn.view) (map pair_in l.log.items);
      small : HasTokens (map pair_in l.log.items);
      marking : g.V.View.marking l.view ≡ g.V.View.marking l.fn.view;
      kept : g.V.View.kept l.view ≡ g.V.View.kept l.fn.view;
    }
