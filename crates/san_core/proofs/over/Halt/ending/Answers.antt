use Rattle.san_core.proofs.Stopping.{trapped_told}
use Rattle.san_core.proofs.over.Halt.ending.Goals as goal

pub returns-in-Trapped : goal.returns-in-Trapped
returns-in-Trapped c = λ firsts named. trapped_told firsts c.args.self.now.over c.args.self.now.time c.in-Trapped.field-0 c.in-Trapped.field-1 c.in-Trapped.act c.in-Trapped.trap c.in-Trapped.is named
