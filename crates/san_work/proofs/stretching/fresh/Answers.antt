use Rattle.san_work.proofs.Finishing.{opened_ok, starts_same}
use Rattle.san_work.proofs.stretching.fresh.Goals as goal

pub open-requires-clause-start : goal.open-requires-clause-start
open-requires-clause-start c =
    let s = c.args.setting.now in
    starts_same s.flat.now c.in_ok-flat.flat s.seed s.limits s.start.now c.in_ok-start.start c.in_ok-flat.ensures c.in_ok-start.ensures c.requires.start

pub returns : goal.returns
returns c =
    let s = c.args.setting.now in
    opened_ok s.flat.now c.in_ok-flat.flat s.seed s.limits s.start.now c.in_ok-start.start c.in_ok-flat.ensures c.in_ok-start.ensures c.«open».result c.«open».ensures.opened
