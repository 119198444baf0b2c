use Rattle.san_clock.proofs.RowLemmas.{dropped}
use Rattle.san_clock.proofs.row.Row.drop_timer.Goals as goal

pub returns : goal.returns
returns c = dropped c.self.inside.timers.items c.self.inside.delays.items c.self.inside.cases.items c.args.self.now c.args.act c.self.view_is
