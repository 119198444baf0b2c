use Rattle.std.proofs.Common.{rules}
use Rattle.std.proofs.lemmas.List.Sorted.{IsPartitionPoint-from_clause}
use Rattle.san_line.specs.inner.Searches.{reaches}
use Rattle.san_line.proofs.Searches.{reach_parts, seen_of_front, unreached_unseen}
use Rattle.std.proofs.Common.{get_or}
use Rattle.san_line.proofs.line.reached.Goals as goal

pub returns-clause-value : goal.returns-clause-value
returns-clause-value c count =
    let point = IsPartitionPoint-from_clause (reaches c.args.stamp) _ _ c.partition_point.ensures.partitioned (reach_parts c.args.stamp c.args.versions.now c.requires) (λ a r q k. search rules) in
    seen_of_front c.args.stamp count c.args.versions.now c.partition_point.result (λ k d a l. unreached_unseen c.args.stamp (get_or c.args.versions.now k d) (point.1 k d a l))
