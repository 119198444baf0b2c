-- The laws are lemmas.
use Rattle.san_legal.proofs.CaseLemmas.{cases_are_drawn, choices_trap_alike}
use Rattle.san_legal.proofs.DelayLemmas.{weights_are_drawn}
use Rattle.san_legal.proofs.delays.weighted_cases_are_drawn.Goals as goal

pub returns-clause-weights : goal.returns-clause-weights
returns-clause-weights c = weights_are_drawn

pub returns-clause-cases : goal.returns-clause-cases
returns-clause-cases c = cases_are_drawn

pub returns-clause-traps : goal.returns-clause-traps
returns-clause-traps c = choices_trap_alike
