use Rattle.san_check.specs.build.Composition.{share_of}
use Rattle.san_check.proofs.LoopLemmas.{map_turn}
use Rattle.san_check.proofs.build.composition.shares_of.Goals as goal

pub shares-preserved : goal.shares-preserved
shares-preserved c =
    map_turn (share_of c.args.children.now) c.args.shares.now c.shares.share-index c.share-item.result c.shares.found.items c.push.new.self.items c.in_ok-made.made c.shares-test.true c.share-item.is c.in_ok-push.ensures.items (c.in_ok-made.ensures) c.shares.invariant
