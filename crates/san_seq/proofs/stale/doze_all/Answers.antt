use Rattle.std.proofs.Common.{arith}
use Rattle.std.proofs.lemmas.Option.{slice_get-get_or, slice_get_within}
use Rattle.san_seq.proofs.stale.doze_all.Goals as goal

pub overflow_cast-leaf : goal.overflow_cast-leaf
overflow_cast-leaf c =
    let here = slice_get-get_or c.list-list.result.now c.leaves.k 0 c.leaves-test.true in
    omega (arith, slice_get_within c.args.leaves.now _ _ (c.list-list.ensures.up c.leaves.k _ here), c.requires.leaves, c.is_network.ensures.network.small.leaves)

pub doze-requires-clause-leaf : goal.doze-requires-clause-leaf
doze-requires-clause-leaf c =
    let here = slice_get-get_or c.list-list.result.now c.leaves.k 0 c.leaves-test.true in
    omega (arith, slice_get_within c.args.leaves.now _ _ (c.list-list.ensures.up c.leaves.k _ here), c.requires.leaves)
