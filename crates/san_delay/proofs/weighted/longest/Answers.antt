use Rattle.std.proofs.Common.{sym, subst}
use Rattle.san_delay.specs.Sound.{IsDelay}
use Rattle.san_delay.proofs.TableLemmas.{greatest_end, greatest_within}
use Rattle.san_delay.proofs.weighted.longest.Goals as goal

pub returns-clause-within : goal.returns-clause-within
returns-clause-within c =
    let is = greatest_end c.args.entries.now c.loop-delay.most c.loop-delay.delay-index c.loop-delay-test.false c.loop-delay.invariant in
    subst IsDelay (sym is) (greatest_within c.args.entries.now c.requires)
