use Rattle.std.proofs.Common.{slice_index_or}
use Rattle.std.proofs.lemmas.Option.{slice_get-get_or}
use Rattle.san_base.specs.declared.numbers.LeafId.{LeafId}
use Rattle.san_plain.proofs.RateLemmas.{leaf_more}
use Rattle.san_plain.proofs.rates.rate_leaves.Goals as goal

pub leaves-preserved : goal.leaves-preserved
leaves-preserved c =
    let none : LeafId = record { 0 = 0 } in
    leaf_more c.args.flat.now c.args.marking.now c.args.leaves.now c.args.except.0 c.leaves.k (slice_index_or c.args.leaves.now c.leaves.k none) c.args.tally.now c.leaves.tally c.rate_other.new.tally
    (slice_get-get_or c.args.leaves.now c.leaves.k none c.leaves-test.true) c.leaves.invariant c.rate_other.ensures.follows c.rate_other.ensures.anew
