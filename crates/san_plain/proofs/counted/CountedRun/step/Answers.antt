use Rattle.std.proofs.Common.{refl, arith, sym, subst, ◌<◌}
use Rattle.san_net.specs.Laid.{acts_of}
use Rattle.san_net.specs.Network.{Network}
use Rattle.san_plain.proofs.EndLemmas.{ended, stopped}
use Rattle.san_plain.proofs.TurnLemmas.{act_there, event_is, few, happened, happens, inside, next_fits, not_after, not_before, reaching, sized, stands_on, answered}
use Rattle.san_plain.proofs.counted.CountedRun.step.Goals as goal
use Rattle.san_seq.proofs.RunLemmas.{fewer_left}

pub count-requires-clause-act : goal.count-requires-clause-act
count-requires-clause-act c = let r = c.requires in act_there r.0 r.1 r.2 c.args.self.now r.3 c.in-Event.event c.in-Event.ensures.answered

pub count-requires-clause-time : goal.count-requires-clause-time
count-requires-clause-time c = let r = c.requires in not_before r.0 r.1 r.2 c.args.self.now r.3 c.in-Event.event c.in-Event.ensures.answered

pub count-requires-clause-horizon : goal.count-requires-clause-horizon
count-requires-clause-horizon c = let r = c.requires in not_after r.0 r.1 r.2 c.args.self.now r.3 c.in-Event.event c.in-Event.ensures.answered

pub count-requires-clause-few : goal.count-requires-clause-few
count-requires-clause-few c = let r = c.requires in few r.0 r.1 r.2 c.args.self.now r.3 c.in-Event.event c.in-Event.ensures.answered c.step.new.self c.marking.result.now c.step.ensures.left c.marking.ensures

pub count-requires-clause-sized : goal.count-requires-clause-sized
count-requires-clause-sized c = let r = c.requires in sized r.0 r.1 r.2 c.args.self.now r.3 c.in-Event.event c.in-Event.ensures.answered c.step.new.self c.marking.result.now c.step.ensures.left c.marking.ensures

pub count-requires-clause-reaches : goal.count-requires-clause-reaches
count-requires-clause-reaches c = let r = c.requires in reaching r.0 r.1 r.2 c.args.self.now r.3 c.in-Event.event c.in-Event.ensures.answered c.step.new.self c.marking.result.now c.step.ensures.left c.marking.ensures

pub overflow_add-self : goal.overflow_add-self
overflow_add-self c = let r = c.requires in omega (arith, next_fits r.0 r.1 r.2 c.args.self.now r.3 c.in-Event.event c.in-Event.ensures.answered)

pub returns-in-Event : goal.returns-in-Event
returns-in-Event c = λ o es s st.
    let old = c.args.self.now in
    let event = c.in-Event.event in
    let said = c.in-Event.ensures.answered in
    record {
      happened = happened o es s old st event said;
      happens = happens o es s old st event said;
      event_is = event_is o es s old st event said;
      stands = stands_on o es s old st event said c.step.new.self c.marking.result.now c.step.ensures.left c.marking.ensures _ refl refl refl c.count.ensures refl;
      fewer = fewer_left old.seq c.step.new.self event (answered o es s old st event said) c.step.ensures.left;
      inside = subst (λ (n : Network). event.act.0 < acts_of n.parts) (sym st.of_network) (inside o es s old st event said);
    }

pub returns-in-End : goal.returns-in-End
returns-in-End c = λ o es s st. ended o es s c.args.self.now st _ c.in-End.ensures.answered refl

pub returns-in-Stopped : goal.returns-in-Stopped
returns-in-Stopped c = λ o es s st. stopped o es s c.args.self.now st _ c.in-Stopped.stop c.in-Stopped.ensures.answered refl
