use Rattle.std.proofs.Common.{rules, not}
use Rattle.std.proofs.lemmas.List.Sorted.{IsPartitionPoint-from_clause}
use Rattle.san_line.specs.Lines.{before}
use Rattle.san_line.specs.declared.version.Version.{Version}
use Rattle.san_line.proofs.Searches.{behind_parts, inserted_at}
use Rattle.san_line.proofs.line.index_of.Goals as goal

pub returns-clause-there : goal.returns-clause-there
returns-clause-there c =
    let point = IsPartitionPoint-from_clause (λ (w : Version). not (before c.args.v.now w)) _ _ c.partition_point.ensures.partitioned (behind_parts c.args.v.now c.args.versions.now c.requires) (λ a r q k. search rules) in
    inserted_at c.args.v.now c.args.versions.now c.partition_point.result c.partition_point.ensures.bound point
