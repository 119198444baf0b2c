use Rattle.std.proofs.Common.{sym, ◌∙◌}
use Rattle.san_law.specs.Core.{leaf_of}
use Rattle.san_core.specs.Machines.{core_in}
use Rattle.san_speculation.proofs.Published.{committed_end}
use Rattle.san_speculation.proofs.publish.chain_end.Goals as goal

pub returns-in-Some : goal.returns-in-Some
returns-in-Some c = sym (c.in-Some.ensures (leaf_of (core_in c.args.machine.now) c.args.leaf.0))

pub returns-in-None : goal.returns-in-None
returns-in-None c = committed_end c.args.machine.now c.args.ahead.now c.args.leaf.0 c.get.result.now c.follows.ensures (c.get.ensures ∙ c.state.ensures) c.in-None.ensures
