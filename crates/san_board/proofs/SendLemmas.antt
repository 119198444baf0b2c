-- Threads may take a core over from one another.
use denote.Param.Send.{IsSend, sendable}
use Rattle.std.proofs.Crossing.{crosses}
use Rattle.san_ahead.specs.contracts.ahead.Ahead as Ahead
use Rattle.san_core.specs.contracts.committed.Committed as Committed
use Rattle.san_core.specs.contracts.machine.Machine as Machine
use Rattle.san_core.specs.contracts.maker.Maker as Maker
use Rattle.san_core.specs.contracts.start.Start as Start
use Rattle.san_draw.proofs.streams.Streams.TheSendSync as streams
use Rattle.san_leaf.proofs.state.LeafState.TheSendSync as state
use Rattle.san_leaf.specs.contracts.piece.Piece as Piece
use Rattle.san_line.proofs.line.Line.TheSendSync as line
use Rattle.san_net.proofs.ShareLemmas.{flat_sync, part_send, part_sync}
use Rattle.san_net.proofs.part.Reward.TheSendSync as reward
use Rattle.san_net.proofs.path.Path.TheSendSync as path
use Rattle.san_net.specs.contracts.flat.Flat as Flat
use Rattle.san_reward.proofs.tally.Tally.TheSendSync as tally
use Rattle.san_speculation.specs.contracts.speculation.Core as Core
use Rattle.san_turn.proofs.order.Order.TheSendSync as order

pub flat_send : IsSend Flat.the_row
flat_send = search (sendable, crosses, part_send, part_sync, reward.the_send, path.the_send) depth 60 fits 5000

pub piece_send : IsSend Piece.the_row
piece_send = search (sendable, crosses, part_send, part_sync, state.the_send, state.the_sync) depth 60 fits 5000

pub ahead_send : IsSend Ahead.the_row
ahead_send = search (sendable, crosses, piece_send, line.the_send) depth 60 fits 5000

pub start_send : IsSend Start.the_row
start_send = search (sendable, crosses, state.the_send, state.the_sync, order.the_send, tally.the_send) depth 60 fits 5000

pub committed_send : IsSend Committed.the_row
committed_send = search (sendable, crosses, state.the_send, state.the_sync, order.the_send, tally.the_send) depth 60 fits 5000

pub maker_send : IsSend Maker.the_row
maker_send = search (sendable, crosses, streams.the_send) depth 60 fits 5000

pub machine_send : IsSend Machine.the_row
machine_send = search (sendable, crosses, flat_send, flat_sync, start_send, committed_send, maker_send) depth 60 fits 5000

pub core_send : IsSend Core.the_row
core_send = search (sendable, crosses, machine_send, ahead_send) depth 60 fits 5000
