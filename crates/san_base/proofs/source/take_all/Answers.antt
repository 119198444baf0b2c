use Rattle.std.proofs.Common.{length-take, arith, rules}
use Rattle.san_base.proofs.FlowLemmas.{takes_first, takes_at_most, takes_in_all}
use Rattle.san_base.proofs.source.take_all.Goals as goal

pub turns-preserved : goal.turns-preserved
turns-preserved g c =
    let more = c.in-More.ensures.answer in
    record {
      few = omega (arith, more.1, length-take c.min-room.result c.turns.buffer);
      later = search rules;
      taken = more.2 _ c.turns.invariant.taken;
    }

pub turns-smaller : goal.turns-smaller
turns-smaller g c =
    let more = c.in-More.ensures.answer in
    omega (arith, more.0, more.1)

pub returns-in-Failed-clause-cut : goal.returns-in-Failed-clause-cut
returns-in-Failed-clause-cut g c = λ _. takes_at_most _ _ _ _ _ c.turns.invariant.taken c.in-Failed.ensures.answer.0 (omega arith)

pub returns-in-NoMemory-clause-no_memory : goal.returns-in-NoMemory-clause-no_memory
returns-in-NoMemory-clause-no_memory g c = λ _. takes_in_all _ _ _ _ _ _ c.turns.invariant.taken c.in-NoMemory.ensures.answer (omega (arith, length-take c.min-room.result c.turns.buffer))

pub returns-clause-over : goal.returns-clause-over
returns-clause-over g c = λ _. takes_first _ _ _ _ c.turns.invariant.taken (omega arith)
