use Rattle.std.proofs.Common.{◌∙◌, ap, sym, refl, []}
use Rattle.san_base.specs.declared.ending.Ending.TheVariants as ending
use Rattle.san_law.specs.State.{opening_state}
use Rattle.san_probe.specs.inner.Progress.{net_by}
use Rattle.san_probe.proofs.ProgressLemmas.{stands_first}
use Rattle.san_seq.proofs.PublicAnswers.{end_answered, event_answered, stop_answered}
use Rattle.san_seq.proofs.RunLemmas.{fewer_left}
use Rattle.san_seq.specs.FlatRun.{opening, step_of}
use Rattle.san_passage.specs.Passages.{passage_from}
use Rattle.san_passage.proofs.PassageLemmas.{is_marking, moved, stands_at, turn_met, turn_on, turn_over}
use Rattle.san_passage.proofs.passage.first_passage.Goals as goal

pub steps-init : goal.steps-init
steps-init g c =
    let n = c.is_network.ensures in
    let first = stands_first c.args.flat.now c.args.seed c.args.limits n.network n.shared n.private in
    let start = opening_state (net_by c.args.flat.now c.args.seed c.args.limits) in (
      ([], start, 0, stands_at c.args.flat.now c.args.seed c.args.limits [] start (opening c.args.flat.now c.args.seed c.args.limits) c.in_ok-seq.seq 0 c.in_ok-seq.ensures first),
      ap (passage_from (g.M.Condition.holds c.args.until.now.0)) c.in_ok-seq.ensures,
    )

pub met-requires : goal.met-requires
met-requires g c =
    let i = c.steps.invariant.0 in
    is_marking c.args.flat.now c.args.seed c.args.limits (g.M.Condition.holds c.args.until.now.0) i.0 i.1 c.steps.seq i.2 i.3 c.args.until.now.1 c.requires.places

pub returns-in-Some : goal.returns-in-Some
returns-in-Some g c =
    let i = c.steps.invariant.0 in
    turn_met c.args.flat.now c.args.seed c.args.limits (g.M.Condition.holds c.args.until.now.0) i.0 i.1 c.steps.seq i.2 i.3 c.met.result c.in-Some.at c.met.ensures c.in-Some.is
    ∙ c.steps.invariant.1

pub steps-smaller : goal.steps-smaller
steps-smaller g c = fewer_left c.steps.seq c.step.new.self c.in-Event.field-0 (event_answered (step_of c.steps.seq).0 c.in-Event.field-0 (sym c.step.ensures.answered ∙ c.in-Event.is)) c.step.ensures.left

pub steps-preserved : goal.steps-preserved
steps-preserved g c =
    let i = c.steps.invariant.0 in
    let answered = event_answered (step_of c.steps.seq).0 c.in-Event.field-0 (sym c.step.ensures.answered ∙ c.in-Event.is) in (
      moved c.args.flat.now c.args.seed c.args.limits c.is_network.ensures.network c.steps.seq c.steps.seq c.step.new.self c.in-Event.field-0 refl answered c.step.ensures.left i,
      turn_on c.args.flat.now c.args.seed c.args.limits (g.M.Condition.holds c.args.until.now.0) i.0 i.1 c.steps.seq i.2 i.3 c.met.result c.steps.seq c.step.new.self c.in-Event.field-0 c.met.ensures c.in_default.is refl answered c.step.ensures.left
          ∙ c.steps.invariant.1,
    )

pub returns-in-End : goal.returns-in-End
returns-in-End g c =
    let i = c.steps.invariant.0 in
    let answered = end_answered (step_of c.steps.seq).0 (sym c.step.ensures.answered ∙ c.in-End.is) in
    turn_over c.args.flat.now c.args.seed c.args.limits (g.M.Condition.holds c.args.until.now.0) i.0 i.1 c.steps.seq i.2 i.3 c.met.result c.steps.seq (ending.End answered.0) c.met.ensures c.in_default.is refl answered.1
    ∙ c.steps.invariant.1

pub returns-in-Stopped : goal.returns-in-Stopped
returns-in-Stopped g c =
    let i = c.steps.invariant.0 in
    let answered = stop_answered (step_of c.steps.seq).0 c.in-Stopped.stop (sym c.step.ensures.answered ∙ c.in-Stopped.is) in
    turn_over c.args.flat.now c.args.seed c.args.limits (g.M.Condition.holds c.args.until.now.0) i.0 i.1 c.steps.seq i.2 i.3 c.met.result c.steps.seq (ending.Stop c.in-Stopped.stop) c.met.ensures c.in_default.is refl answered
    ∙ c.steps.invariant.1
