use denote.Param.Send.{IsSync, given_sync, sendable}
use denote.Struct.Field.{u64-field}
use Rattle.std.proofs.Crossing.{sync}
use Rattle.san_net.proofs.ShareLemmas.{flat_sync}
use Rattle.san_delay.proofs.tables.DelayTables.TheSendSync as tables
use Rattle.san_work.proofs.stretching.work_all.Goals as goal

-- what the closure lends: the heap, the board, the network, the seed, the tables and the gate
pub for_each_mut-requires-sync-F : goal.for_each_mut-requires-sync-F
for_each_mut-requires-sync-F g c κs within =
    let board : IsSync g.row.B = given_sync 1 g.row.B c.type_bounds.sync-B in
    let gate : IsSync g.row.G = given_sync 2 g.row.G c.type_bounds.sync-G in
    let number : IsSync (u64-field).row = search sendable in
    record {
      shared = λ x b o κ. (
        (
          ((λ q. tt), sync.shared x.0.now x.0.ref_ptr.0 x.0.ref_ptr.1 κ),
          (
            ((λ q. tt), board.shared x.1.now x.1.ref_ptr.0 x.1.ref_ptr.1 _),
            (
              ((λ q. tt), flat_sync.shared x.2.now x.2.ref_ptr.0 x.2.ref_ptr.1 _),
              (
                ((λ q. tt), number.shared x.3.now x.3.ref_ptr.0 x.3.ref_ptr.1 κ),
                (
                  ((λ q. tt), tables.the_sync.shared x.4.now x.4.ref_ptr.0 x.4.ref_ptr.1 _),
                  (((λ q. tt), gate.shared x.5.now x.5.ref_ptr.0 x.5.ref_ptr.1 _), tt),
                ),
              ),
            ),
          ),
        ),
        λ q. tt,
      );
    }
