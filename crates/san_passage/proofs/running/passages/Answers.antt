use denote.Param.Send.{IsSync, sendable}
use denote.Struct.Field.{u32-field}
use Rattle.std.proofs.Crossing.{crosses, sync}
use Rattle.san_base.specs.contracts.limits.Limits as limits
use Rattle.san_net.proofs.ShareLemmas.{flat_sync}
use Rattle.san_passage.specs.contracts.worker.Seeds as seeds
use Rattle.san_passage.proofs.running.passages.Goals as goal

-- what the closure lends: the heap, the network, the seeds, the limits, the runs of each worker and the condition
pub map_indices-requires-sync-F : goal.map_indices-requires-sync-F
map_indices-requires-sync-F g c κs within =
    let condition : IsSync g.row.C = record { shared = c.type_bounds.sync-C.shared } in
    let first : IsSync seeds.the_row = search (sendable, crosses) depth 40 in
    let most : IsSync limits.the_row = search (sendable, crosses) depth 40 in
    let number : IsSync (u32-field).row = search sendable in
    record {
      shared = λ x b o κ. (
        (
          ((λ q. tt), sync.shared x.0.now x.0.ref_ptr.0 x.0.ref_ptr.1 κ),
          (
            ((λ q. tt), flat_sync.shared x.1.now x.1.ref_ptr.0 x.1.ref_ptr.1 _),
            (
              ((λ q. tt), first.shared x.2.now x.2.ref_ptr.0 x.2.ref_ptr.1 κ),
              (
                ((λ q. tt), most.shared x.3.now x.3.ref_ptr.0 x.3.ref_ptr.1 κ),
                (
                  ((λ q. tt), number.shared x.4.now x.4.ref_ptr.0 x.4.ref_ptr.1 κ),
                  (((λ q. tt), condition.shared x.5.now x.5.ref_ptr.0 x.5.ref_ptr.1 _), tt),
                ),
              ),
            ),
          ),
        ),
        λ q. tt,
      );
    }
