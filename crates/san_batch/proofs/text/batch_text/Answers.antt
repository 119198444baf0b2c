use Rattle.std.proofs.Common.{◌∙◌, ap, arith, length, slice_index_or, List}
use Rattle.san_net.specs.declared.part.Reward.{Reward}
use Rattle.san_summary.specs.Batches.{Sums}
use Rattle.san_batch.specs.Texts.{runs_line}
use Rattle.san_batch.proofs.TextLemmas.{line_more}
use Rattle.san_batch.proofs.text.batch_text.Goals as goal

pub rewards-preserved : goal.rewards-preserved
rewards-preserved c =
    let many = ap length c.rewards-rewards.ensures in
    line_more c.args.flat.now.rewards c.args.batch.now.rewards c.rewards.r c.index-rewards-r.result c.index.result.now (runs_line c.args.batch.now.runs c.args.batch.now.stopped) c.rewards.text.items c.push_summary.new.text.items
    (omega (arith, c.rewards-test.true, many)) (omega (arith, c.rewards-test.true, many, c.requires))
    (c.index-rewards-r.is ∙ ap (λ (xs : List Reward). slice_index_or xs c.rewards.r c.index-rewards-r.result) c.rewards-rewards.ensures)
    (c.index.ensures ∙ ap (λ (s : Sums). slice_index_or s.rewards c.rewards.r c.index.result.now) c.batch.view_is)
    c.rewards.invariant c.in_ok-push_summary.ensures
