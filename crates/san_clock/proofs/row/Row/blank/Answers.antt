use Rattle.san_clock.proofs.RowLemmas.{blank_is}
use Rattle.san_clock.proofs.row.Row.blank.Goals as goal

pub returns : goal.returns
returns c = blank_is c.args.acts c.in_ok-timers.timers.items c.in_ok-delays.delays.items c.in_ok-cases.cases.items c.in_ok-timers.ensures c.in_ok-delays.ensures c.in_ok-cases.ensures
