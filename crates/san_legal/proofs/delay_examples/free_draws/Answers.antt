-- What is free, and what is not.
use Rattle.san_legal.proofs.Computed.{racing_free, slow_free}
use Rattle.san_legal.proofs.FreeValues.{one_draw_traps, three_ticks, twice_not_own, undecided_not_free, zero_ticks}
use Rattle.san_legal.proofs.delay_examples.free_draws.Goals as goal

pub returns-clause-delays : goal.returns-clause-delays
returns-clause-delays c = three_ticks

pub returns-clause-no_ticks : goal.returns-clause-no_ticks
returns-clause-no_ticks c = zero_ticks

pub returns-clause-some_trap : goal.returns-clause-some_trap
returns-clause-some_trap c = one_draw_traps

pub returns-clause-free : goal.returns-clause-free
returns-clause-free c = slow_free

pub returns-clause-undecided : goal.returns-clause-undecided
returns-clause-undecided c = undecided_not_free

pub returns-clause-own : goal.returns-clause-own
returns-clause-own c = racing_free.apart

pub returns-clause-not_own : goal.returns-clause-not_own
returns-clause-not_own c = twice_not_own
