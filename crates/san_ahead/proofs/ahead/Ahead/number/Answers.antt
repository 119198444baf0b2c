use Rattle.san_ahead.proofs.NextLemmas.{number_is}
use Rattle.san_ahead.proofs.ahead.Ahead.number.Goals as goal

pub returns : goal.returns
returns c = number_is c.self.inside.chains.items c.self.inside.counters.items c.self.inside.lines.items c.args.self.now c.self.view_is c.args.leaf.0 c.index.result.now c.requires c.index.ensures
