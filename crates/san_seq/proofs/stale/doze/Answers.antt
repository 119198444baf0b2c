use Rattle.std.proofs.Common.{sym, subst}
use Rattle.san_seq.specs.inner.Known.{AreAsleep}
use Rattle.san_seq.proofs.AwakeLemmas.{dozed}
use Rattle.san_seq.proofs.stale.doze.Goals as goal

pub returns-then-is_asleep-clause-asleep : goal.returns-then-is_asleep-clause-asleep
returns-then-is_asleep-clause-asleep c =
    subst (λ awake. AreAsleep c.args.flat.now awake c.args.marking.now) (sym c.set.ensures)
    (dozed c.args.flat.now c.args.awake.now c.args.marking.now c.args.leaf.0 c.requires.asleep (λ p is. c.is_asleep.ensures p is c.if-is_asleep.true))
