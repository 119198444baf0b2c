-- Threads may share a network.
use denote.Param.Send.{IsSync, IsSend, sendable}
use Rattle.std.proofs.Crossing.{crosses}
use Rattle.sqlite_items.proofs.boxed.Boxed.TheSendSync as boxed
use Rattle.sqlite_items.proofs.items.Items.TheSendSync as items
use Rattle.san_base.proofs.name.Name.TheSendSync as name
use Rattle.san_expr.proofs.expr.Expr.TheLaws.TheKnot as expr
use Rattle.san_expr.proofs.stmt.Stmt.TheLaws.TheKnot as stmt
use Rattle.san_net.specs.contracts.activity.Activity as Activity
use Rattle.san_net.specs.contracts.atomic.Atomic as Atomic
use Rattle.san_net.specs.contracts.part.Part as Part
use Rattle.san_net.specs.contracts.flat.Flat as Flat
use Rattle.san_net.proofs.part.Reward.TheSendSync as reward
use Rattle.san_net.proofs.part.Slot.TheSendSync as slot
use Rattle.san_net.proofs.path.Path.TheSendSync as path

pub activity_send : IsSend Activity.the_row
activity_send = search (sendable, crosses, items.the_send, boxed.the_send, expr.crosses, stmt.crosses) depth 60 fits 5000

pub activity_sync : IsSync Activity.the_row
activity_sync = search (sendable, crosses, items.the_sync, boxed.the_sync, expr.crosses, stmt.crosses) depth 60 fits 5000

pub atomic_send : IsSend Atomic.the_row
atomic_send = search (sendable, crosses, items.the_send, name.the_send, activity_send, expr.crosses) depth 60 fits 5000

pub atomic_sync : IsSync Atomic.the_row
atomic_sync = search (sendable, crosses, items.the_sync, name.the_sync, activity_sync, expr.crosses) depth 60 fits 5000

pub part_sync : IsSync Part.the_row
part_sync = search (sendable, crosses, items.the_sync, slot.the_sync, atomic_send, atomic_sync) depth 60 fits 5000

pub part_send : IsSend Part.the_row
part_send = search (sendable, crosses, items.the_send, slot.the_send, atomic_send, atomic_sync) depth 60 fits 5000

pub flat_sync : IsSync Flat.the_row
flat_sync = search (sendable, crosses, part_send, part_sync, reward.the_sync, path.the_sync) depth 60 fits 5000
