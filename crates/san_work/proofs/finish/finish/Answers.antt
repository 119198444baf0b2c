use Rattle.std.proofs.Common.{Ok, arith, subst}
use Rattle.san_core.specs.declared.redoing.Redoing.{Redoing}
use Rattle.san_speculation.specs.CoreCalls.{RedoBy}
use Rattle.san_work.proofs.Finishing.{ended_over, rested_over, run_itself, run_on, run_stays}
use Rattle.san_work.proofs.finish.finish.Goals as goal

pub pieces-init : goal.pieces-init
pieces-init c = run_itself c.args.core.now.machine

pub redo-requires : goal.redo-requires
redo-requires c = let h = c.keeps_the_law.ensures.replayed.claims in omega (arith, h)

pub pieces-smaller : goal.pieces-smaller
pieces-smaller c = (subst (λ (x : Redoing). RedoBy c.pieces.core 0 c.redo.new.self (Ok x)) c.in-Ok-Redone.field-0-is c.in-Ok-Redone.ensures).less

pub pieces-preserved : goal.pieces-preserved
pieces-preserved c = run_on c.args.core.now.machine c.pieces.core.machine c.redo.new.self.machine c.pieces.invariant (subst (λ (x : Redoing). RedoBy c.pieces.core 0 c.redo.new.self (Ok x)) c.in-Ok-Redone.field-0-is c.in-Ok-Redone.ensures).run

pub returns-in-Ok-Ended-clause-run : goal.returns-in-Ok-Ended-clause-run
returns-in-Ok-Ended-clause-run c = run_stays c.args.core.now.machine c.pieces.core c.redo.new.self c.pieces.invariant (subst (λ (x : Redoing). RedoBy c.pieces.core 0 c.redo.new.self (Ok x)) c.in-Ok-Ended.field-0-is c.in-Ok-Ended.ensures).0

pub returns-in-Ok-Ended-clause-over : goal.returns-in-Ok-Ended-clause-over
returns-in-Ok-Ended-clause-over c = ended_over c.pieces.core c.redo.new.self (subst (λ (x : Redoing). RedoBy c.pieces.core 0 c.redo.new.self (Ok x)) c.in-Ok-Ended.field-0-is c.in-Ok-Ended.ensures)

pub returns-in-Ok-Rested-clause-run : goal.returns-in-Ok-Rested-clause-run
returns-in-Ok-Rested-clause-run c = run_stays c.args.core.now.machine c.pieces.core c.redo.new.self c.pieces.invariant (subst (λ (x : Redoing). RedoBy c.pieces.core 0 c.redo.new.self (Ok x)) c.in-Ok-Rested.field-0-is c.in-Ok-Rested.ensures).0

pub returns-in-Ok-Rested-clause-over : goal.returns-in-Ok-Rested-clause-over
returns-in-Ok-Rested-clause-over c = rested_over c.pieces.core c.redo.new.self (subst (λ (x : Redoing). RedoBy c.pieces.core 0 c.redo.new.self (Ok x)) c.in-Ok-Rested.field-0-is c.in-Ok-Rested.ensures)

pub returns-in-Err-clause-run : goal.returns-in-Err-clause-run
returns-in-Err-clause-run c = run_stays c.args.core.now.machine c.pieces.core c.redo.new.self c.pieces.invariant c.in-Err.ensures
