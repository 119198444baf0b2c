use Rattle.san_core.proofs.Retaking.{has_room, needed_then, redone}
use Rattle.san_core.proofs.machine.Machine.take_needed.Goals as goal

pub take-requires-clause-spare : goal.take-requires-clause-spare
take-requires-clause-spare c = has_room c.make.new.self c.reserve.new.self c.in_ok-reserve.ensures.ok

pub take-requires-clause-needed : goal.take-requires-clause-needed
take-requires-clause-needed c = needed_then c.args.self.now c.make.new.self c.reserve.new.self c.in_ok-piece.piece c.make.ensures.same c.in_ok-reserve.ensures.ok c.in_ok-piece.ensures.made

pub returns : goal.returns
returns c = redone c.args.self.now c.make.new.self c.reserve.new.self c.take.new.self c.in-Some.taking c.in_ok-piece.piece c.follows.ensures c.in-Some.ensures c.make.ensures.same c.in_ok-reserve.ensures.ok c.take.ensures.taken c.take.ensures.less
