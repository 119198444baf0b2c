use Rattle.san_seq.proofs.DueLemmas.{keys_begin}
use Rattle.san_seq.proofs.rows.Rows.open.Goals as goal

pub invariant_of-result : goal.invariant_of-result
invariant_of-result c = keys_begin c.args.flat.now.parts c.in_ok-dues.dues _ c.in_ok-rows.rows.items c.in_ok-dues.ensures c.leaves.ensures c.in_ok-rows.ensures
