use Rattle.std.proofs.Common.{◌∙◌, ap, slice_index_or, unwrap_or, Option}
use Rattle.std.specs.Option.{option_map}
use Rattle.san_seq.specs.declared.next.Next.{Next}
use Rattle.san_seq.specs.inner.Nexts.{next_in}
use Rattle.san_seq.proofs.SearchLemmas.{earlier_all, earlier_more, leaf_at}
use Rattle.san_seq.proofs.next.first_among.Goals as goal

pub leaves-preserved : goal.leaves-preserved
leaves-preserved c =
    earlier_more c.args.flat.now.parts c.args.marking.now c.args.leaves.now c.leaves.k (slice_index_or c.args.leaves.now c.leaves.k (record { 0 = 0 })) (leaf_at c.args.leaves.now c.leaves.k (record { 0 = 0 }) c.leaves-test.true)
    (λ rest. c.first_at.ensures rest ∙ ap (λ (o : Option Next). unwrap_or (option_map next_in o) rest) c.in_default.is) c.leaves.invariant

pub returns-clause-none : goal.returns-clause-none
returns-clause-none c = earlier_all c.args.flat.now.parts c.args.marking.now c.args.leaves.now c.leaves.k c.args.first.leaf.0 c.leaves-test.false c.leaves.invariant
