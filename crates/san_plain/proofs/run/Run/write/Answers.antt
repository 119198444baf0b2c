use Rattle.std.proofs.Common.{◌≡◌, arith, subst, List, ℕ, Option, Some, None, Ok}
use Rattle.san_base.specs.declared.ending.Ending.{Ending}
use Rattle.san_plain.specs.inner.Progress.{IsUnderWay, TurnedTo}
use Rattle.san_plain.specs.Reports.{Opened, report_of}
use Rattle.san_plain.specs.declared.run.RunInProgress.{RunInProgress}
use Rattle.san_plain.proofs.OpenedLemmas.{begins}
use Rattle.san_plain.proofs.run.Run.write.Goals as goal

-- what a turn came to, by its answer
turned : (o : Opened) (first now : Option (List ℕ)) (old c : RunInProgress) (x y : Option Ending) → x ≡ y → TurnedTo o first (Ok x) now old c → TurnedTo o first (Ok y) now old c
turned o first now old c x y is = subst (λ (z : Option Ending). TurnedTo o first (Ok z) now old c) is

pub turns-init : goal.turns-init
turns-init g c = record {
  way = subst (λ (o : Opened). IsUnderWay o (g.K.Sink.held c.args.sink.now) (g.K.Sink.held c.args.sink.now) c.self.inside.progress) c.self.view_is (begins c.self.inside.progress c.is_network.ensures.network c.self.invariant (g.K.Sink.held c.args.sink.now));
  later = omega arith;
}

pub turns-smaller : goal.turns-smaller
turns-smaller g c =
    (turned c.args.self (g.K.Sink.held c.args.sink.now) (g.K.Sink.held c.turn.new.sink) c.turns.progress c.turn.new.progress c.in-Ok-None.field-0 None c.in-Ok-None.field-0-is (c.in-Ok-None.ensures.report c.args.self (g.K.Sink.held c.args.sink.now) c.turns.invariant.way)).1

pub turns-preserved : goal.turns-preserved
turns-preserved g c = record {
  way = (turned c.args.self (g.K.Sink.held c.args.sink.now) (g.K.Sink.held c.turn.new.sink) c.turns.progress c.turn.new.progress c.in-Ok-None.field-0 None c.in-Ok-None.field-0-is (c.in-Ok-None.ensures.report c.args.self (g.K.Sink.held c.args.sink.now) c.turns.invariant.way)).0;
  later = omega (arith, c.turns.invariant.later, c.turn.ensures.later);
}

pub finish-requires-clause-within : goal.finish-requires-clause-within
finish-requires-clause-within g c =
    (turned c.args.self (g.K.Sink.held c.args.sink.now) (g.K.Sink.held c.turn.new.sink) c.turns.progress c.turn.new.progress c.in-Ok-Some.field-0 (Some c.in-Ok-Some.ending) c.in-Ok-Some.field-0-is (c.in-Ok-Some.ensures.report c.args.self (g.K.Sink.held c.args.sink.now) c.turns.invariant.way)).within

pub finish-requires-clause-spans : goal.finish-requires-clause-spans
finish-requires-clause-spans g c =
    (turned c.args.self (g.K.Sink.held c.args.sink.now) (g.K.Sink.held c.turn.new.sink) c.turns.progress c.turn.new.progress c.in-Ok-Some.field-0 (Some c.in-Ok-Some.ending) c.in-Ok-Some.field-0-is (c.in-Ok-Some.ensures.report c.args.self (g.K.Sink.held c.args.sink.now) c.turns.invariant.way)).spans

pub returns-in-Ok-Some-clause-report : goal.returns-in-Ok-Some-clause-report
returns-in-Ok-Some-clause-report g c =
    c.finish.ensures.report c.args.self (report_of c.args.self) (g.K.Sink.held c.args.sink.now)
    (turned c.args.self (g.K.Sink.held c.args.sink.now) (g.K.Sink.held c.turn.new.sink) c.turns.progress c.turn.new.progress c.in-Ok-Some.field-0 (Some c.in-Ok-Some.ending) c.in-Ok-Some.field-0-is (c.in-Ok-Some.ensures.report c.args.self (g.K.Sink.held c.args.sink.now) c.turns.invariant.way))

pub returns-in-Err-clause-report : goal.returns-in-Err-clause-report
returns-in-Err-clause-report g c = c.in-Err.ensures.report c.args.self (g.K.Sink.held c.args.sink.now) c.turns.invariant.way
