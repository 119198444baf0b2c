use Rattle.san_work.proofs.stretching.core_of.Goals as goal

pub returns-then-is_own : goal.returns-then-is_own
returns-then-is_own g c = c.is_own.ensures c.if-is_own.true

pub returns : goal.returns
returns g c = c.fresh.ensures
