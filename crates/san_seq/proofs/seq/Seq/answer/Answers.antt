use Rattle.san_seq.proofs.HeldLemmas.{goes_on}
use Rattle.san_seq.proofs.seq.Seq.answer.Goals as goal

pub step-answer-requires-clause-running : goal.step-answer-requires-clause-running
step-answer-requires-clause-running c =
    (goes_on c.self.inside.flat.now c.self.inside.limits c.self.inside.streams.streams c.self.inside.wakes c.self.inside.stale c.self.inside.state c.self.inside.over c.self.invariant c.in_default.is).0

pub step-answer-requires-clause-known : goal.step-answer-requires-clause-known
step-answer-requires-clause-known c =
    (goes_on c.self.inside.flat.now c.self.inside.limits c.self.inside.streams.streams c.self.inside.wakes c.self.inside.stale c.self.inside.state c.self.inside.over c.self.invariant c.in_default.is).1
