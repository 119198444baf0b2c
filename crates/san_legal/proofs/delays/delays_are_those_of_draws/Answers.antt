-- The law is a lemma.
use Rattle.san_legal.proofs.DelayLemmas.{delays_are_those}
use Rattle.san_legal.proofs.delays.delays_are_those_of_draws.Goals as goal

pub returns : goal.returns
returns c = delays_are_those
