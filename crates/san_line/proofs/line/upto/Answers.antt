use Rattle.std.proofs.Common.{rules, nat_le}
use Rattle.std.proofs.lemmas.List.Sorted.{IsPartitionPoint-from_clause}
use Rattle.san_line.specs.declared.version.Version.{Version}
use Rattle.san_line.proofs.Searches.{later_of_rest, time_parts}
use Rattle.std.proofs.Common.{arith}
use Rattle.san_line.proofs.line.upto.Goals as goal

pub returns-clause-later : goal.returns-clause-later
returns-clause-later c leaf =
    let point = IsPartitionPoint-from_clause (λ (v : Version). nat_le v.time.0 c.args.after) _ _ c.partition_point.ensures.partitioned (time_parts c.args.after c.args.versions.now c.requires) (λ a r q k. search rules) in
    later_of_rest leaf c.args.after c.args.versions.now c.partition_point.result (λ k d l. point.0 k d (omega arith) l) c.partition_point.ensures.bound
