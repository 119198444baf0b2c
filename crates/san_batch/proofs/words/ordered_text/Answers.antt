use Rattle.std.proofs.Common.{◌∙◌, ap, length}
use Rattle.san_summary.proofs.BatchLemmas.{sums_long}
use Rattle.san_summary.specs.Batches.{Sums}
use Rattle.san_batch.specs.Outcomes.{outcomes_of}
use Rattle.san_batch.proofs.words.ordered_text.Goals as goal

pub batch_text-requires : goal.batch_text-requires
batch_text-requires g c =
    ap (λ (s : Sums). length s.rewards) c.in_ok-batch.ensures
    ∙ sums_long (length c.args.flat.now.rewards) (outcomes_of c.args.flat.now c.args.orders.limits c.args.orders.seed c.args.orders.runs)
