use Rattle.std.proofs.Common.{ap, ◌∙◌}
use Rattle.san_law.specs.Core as law
use Rattle.san_law.specs.Core.{leaf_of}
use Rattle.san_core.specs.Machines.{core_in}
use Rattle.san_speculation.specs.inner.Committing.{head_falls}
use Rattle.san_speculation.proofs.Redos.{falls_none, falls_some}
use Rattle.san_speculation.proofs.retaking.falls.Goals as goal

pub returns-in-Some : goal.returns-in-Some
returns-in-Some c =
    c.head_falls.ensures
    ∙ (ap (head_falls c.in-Some.piece.now c.args.taking) (c.get.ensures ∙ (c.state.ensures ∙ ap (λ (x : law.Core). leaf_of x c.args.taking.leaf.0) c.follows.ensures.held))
    ∙ falls_some c.args.machine.now c.args.ahead.now c.args.taking (leaf_of (core_in c.args.machine.now) c.args.taking.leaf.0) c.in-Some.piece.now c.in-Some.ensures)

pub returns-in-None : goal.returns-in-None
returns-in-None c = falls_none c.args.machine.now c.args.taking _ _ c.in-None.ensures
