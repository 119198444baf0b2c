use Rattle.std.proofs.Common.{◌∙◌, sym, subst}
use Rattle.san_summary.specs.Batches.{Sums}
use Rattle.san_summary.specs.inner.Places.{CanCountAll}
use Rattle.san_summary.proofs.BatchLemmas.{added_parts, byte_is, can_count_all}
use Rattle.san_summary.proofs.batch.Batch.add.Goals as goal

pub count_all-requires : goal.count_all-requires
count_all-requires c = subst (λ (s : Sums). CanCountAll s.rewards c.args.numbers.now) (sym c.self.view_is) (can_count_all c.args.self.now c.args.numbers.now c.requires)

pub returns : goal.returns
returns c =
    added_parts c.args.self.now c.self.inside.runs c.self.inside.stopped c.from.result c.self.inside.rewards.items c.count_all.new.mine.items c.args.stopped c.args.numbers.now
    c.self.view_is (c.from.ensures ∙ byte_is c.args.stopped) c.count_all.ensures
