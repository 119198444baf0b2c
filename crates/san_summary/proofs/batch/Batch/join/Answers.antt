use Rattle.std.proofs.Common.{◌∙◌, sym, subst, ap, List}
use Rattle.san_summary.specs.Batches.{Sums}
use Rattle.san_summary.specs.declared.summary.Summary.{Summary}
use Rattle.san_summary.specs.inner.Places.{CanJoinAll}
use Rattle.san_summary.proofs.BatchLemmas.{joined_parts, can_join_all}
use Rattle.san_summary.proofs.batch.Batch.join.Goals as goal

pub join_all-requires : goal.join_all-requires
join_all-requires c =
    let f = c.as_slice.ensures.value ∙ ap (λ (s : Sums). s.rewards) c.other.view_is in
    subst (λ (s : Sums). CanJoinAll s.rewards c.as_slice.result.now) (sym c.self.view_is) (subst (λ (ss : List Summary). CanJoinAll c.args.self.now.rewards ss) (sym f) (can_join_all c.args.self.now c.args.other.now c.requires))

pub returns : goal.returns
returns c =
    joined_parts c.args.self.now c.args.other.now c.self.inside.runs c.other.inside.runs c.self.inside.stopped c.other.inside.stopped c.self.inside.rewards.items c.other.inside.rewards.items c.as_slice.result.now c.join_all.new.mine.items
    c.self.view_is c.other.view_is c.as_slice.ensures.value c.join_all.ensures
