use Rattle.std.proofs.Common.{refl, ◌&&◌, nat_eq, slice_index}
use Rattle.indexmap.specs.IndexMap.{get}
use Rattle.san_tree.proofs.SharedLemmas.{item_more}
use Rattle.san_tree.specs.inner.Shared.{same_part}
use Rattle.san_tree.proofs.shared.note_rep.Goals as goal

pub shares-preserved : goal.shares-preserved
shares-preserved c =
    item_more (get same_part c.args.table.now) (get same_part c.shares.table) (get same_part c.note.new.table) (λ a p q. nat_eq q p) (λ k a. nat_eq c.args.node k && nat_eq 0 a)
    c.args.shares.now c.shares.place (slice_index c.args.shares.now c.shares.place) 0 c.shares-test.true refl c.shares.invariant (λ k a p. c.in_ok-note.ensures (k, a, p))
