-- The one that can't come first is refused by a lemma.
use Rattle.san_legal.proofs.Computed.{slow_cannot_be_first}
use Rattle.san_legal.proofs.examples.a_small_race.Goals as goal

pub returns-clause-not_first : goal.returns-clause-not_first
returns-clause-not_first c = slow_cannot_be_first
