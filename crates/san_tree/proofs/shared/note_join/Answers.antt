use Rattle.std.proofs.Common.{nat_eq}
use Rattle.indexmap.specs.IndexMap.{get}
use Rattle.san_tree.proofs.SharedLemmas.{item_more}
use Rattle.san_tree.specs.Places.{names}
use Rattle.san_tree.specs.inner.Shared.{same_part}
use Rattle.san_tree.proofs.shared.note_join.Goals as goal

pub shares-preserved : goal.shares-preserved
shares-preserved c =
    item_more (get same_part c.args.table.now) (get same_part c.shares.table) (get same_part c.note_share.new.table) (λ a p share. names a p share) (λ k a. nat_eq c.args.node k)
    c.args.shares.now c.shares.place c.index-shares-place.result c.index-shares-place.result c.shares-test.true c.index-shares-place.is c.shares.invariant c.in_ok-note_share.ensures
