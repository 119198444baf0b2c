use Rattle.std.proofs.Common.{◌∙◌, sym}
use Rattle.san_seq.proofs.RunLemmas.{ahead_ends, ahead_more, fewer_left}
use Rattle.san_seq.proofs.seq.Seq.run_all.Goals as goal

pub steps-smaller : goal.steps-smaller
steps-smaller c = fewer_left c.steps.self c.answer.new.self c.in-Ok.event (sym c.answer.ensures.answered ∙ c.in-Ok.is) c.answer.ensures.left

pub steps-preserved : goal.steps-preserved
steps-preserved c =
    rw c.in_ok-push-in-Ok.ensures.ok
    (ahead_more c.steps.events c.steps.self c.answer.new.self c.args.self c.in-Ok.event (sym c.answer.ensures.answered ∙ c.in-Ok.is) c.answer.ensures.left c.steps.invariant)

pub returns-in-Err : goal.returns-in-Err
returns-in-Err c = ahead_ends c.steps.events c.steps.self c.args.self c.in-Err.ending (sym c.answer.ensures.answered ∙ c.in-Err.is) c.steps.invariant
