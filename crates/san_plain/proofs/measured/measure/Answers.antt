use Rattle.std.proofs.Common.{◌++◌, ◌∷◌, ◌∙◌, [], ap, sym, length, List, Option, Some}
use Rattle.san_reward.specs.Running.{Running}
use Rattle.san_reward.specs.declared.worth.Worth.{Worth}
use Rattle.san_report.specs.Closings.{worths_by}
use Rattle.san_plain.specs.Measures.{Measured, worths_from}
use Rattle.san_plain.specs.Reports.{Opened}
use Rattle.san_plain.proofs.MeasureLemmas.{begun, measured_is, spans_stay}
use Rattle.san_plain.proofs.SmallLemmas.{measured_small}
use Rattle.san_plain.proofs.measured.measure.Goals as goal

pub steps-init : goal.steps-init
steps-init c = begun (record { network = c.args.flat.now; seed = c.args.seed; limits = c.args.limits }) c.in_ok-run.run' c.is_network.ensures.network c.in_ok-run.ensures.opened c.in_ok-run.ensures.by

pub steps-preserved : goal.steps-preserved
steps-preserved c =
    let i = c.steps.invariant in
    let h = c.in-Ok.ensures (record { network = c.args.flat.now; seed = c.args.seed; limits = c.args.limits }) i.0 i.1 i.2 in
    (i.0 ++ h.happened ∷ [], _, h.stands)

pub steps-smaller : goal.steps-smaller
steps-smaller c =
    let i = c.steps.invariant in
    (c.in-Ok.ensures (record { network = c.args.flat.now; seed = c.args.seed; limits = c.args.limits }) i.0 i.1 i.2).fewer

pub put_worths-requires : goal.put_worths-requires
put_worths-requires c =
    let i = c.steps.invariant in
    let o : Opened = record { network = c.args.flat.now; seed = c.args.seed; limits = c.args.limits } in
    ap (λ (t : Running). length t.spans) c.tally.ensures ∙ spans_stay o i.0 i.1 c.steps.run i.2 c.in-Err.ending c.step.new.self (c.in-Err.ensures o i.0 i.1 i.2)

pub returns-in-Err-clause-measured : goal.returns-in-Err-clause-measured
returns-in-Err-clause-measured c =
    let i = c.steps.invariant in
    let o : Opened = record { network = c.args.flat.now; seed = c.args.seed; limits = c.args.limits } in
    let e = c.in-Err.ending in
    measured_is o i.0 i.1 c.steps.run i.2 e c.step.new.self (c.in-Err.ensures o i.0 i.1 i.2)
    ∙ ap (λ (ws : List (Option Worth)). (let m : Option Measured = Some (record { ending = e; worths = ws }) in m))
    (sym (c.in_ok-put_worths-in-Err.ensures ∙ ap (λ (t : Running). worths_from c.args.flat.now.rewards 0 (worths_by t e)) c.tally.ensures))

pub returns-in-Err-clause-small : goal.returns-in-Err-clause-small
returns-in-Err-clause-small c =
    let i = c.steps.invariant in
    let o : Opened = record { network = c.args.flat.now; seed = c.args.seed; limits = c.args.limits } in
    measured_small o i.0 i.1 c.steps.run i.2 c.in-Err.ending c.step.new.self (c.in-Err.ensures o i.0 i.1 i.2) c.put_worths.new.worths.items (returns-in-Err-clause-measured c)
