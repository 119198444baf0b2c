use Rattle.std.proofs.Common.{sym, ◌∙◌}
use Rattle.san_core.proofs.Retaking.{failed_run, itself, redone_less, same_run}
use Rattle.san_core.proofs.machine.Machine.finish.Goals as goal

pub pieces-init : goal.pieces-init
pieces-init c = itself c.args.self.now

pub pieces-smaller : goal.pieces-smaller
pieces-smaller c = redone_less c.pieces.self c.take_needed.new.self c.in_ok-take_needed.field-0 c.in_ok-take_needed.ensures (sym c.outcome.ensures ∙ c.in_default.is)

pub pieces-preserved : goal.pieces-preserved
pieces-preserved c = same_run c.args.self.now c.pieces.self c.take_needed.new.self c.in_ok-take_needed.field-0 c.pieces.invariant c.in_ok-take_needed.ensures

pub returns-in_err-take_needed-clause-run : goal.returns-in_err-take_needed-clause-run
returns-in_err-take_needed-clause-run c = failed_run c.args.self.now c.pieces.self c.take_needed.new.self c.pieces.invariant c.in_err-take_needed.ensures
