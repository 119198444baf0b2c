use Rattle.std.proofs.Common.{List, arith, Option, ℕ, map, [], ◌∷◌, ◌++◌, Some, None, ◌<◌, length, ap, refl, subst, sym, ◌∙◌}
use Rattle.std.proofs.lemmas.List.{length-set}
use Rattle.std.specs.Prelude.{slice_set}
use Rattle.san_net.specs.Network.{Network}
use Rattle.san_ahead.specs.Ahead.{AheadValue}
use Rattle.san_book.specs.Cores as book
use Rattle.san_book.specs.Cores.{claim_of}
use Rattle.san_leaf.specs.States.{pair_in}
use Rattle.san_law.specs.Piece as law
use Rattle.san_speculation.specs.Publishing.{publication}
use Rattle.san_speculation.specs.Speculating.{CoreValue, IsReplayed, core_by}
use Rattle.san_speculation.specs.declared.step.Step.{Step}
use Rattle.san_speculation.specs.declared.step.Step.TheVariants as step
use Rattle.san_speculation.proofs.Lows.{keys_long, late_kept, push_kept, push_places, touch_kept}
use Rattle.san_speculation.proofs.Keeping.{run_seen}
use Rattle.san_speculation.proofs.Published.{chain_there, claim_here, from_seen, joins, late_is, late_with, late_without, not_true, number_new, number_there, part_there, publish_is, reads_fit_seen, state_there, steps_are, writes_fit}
use Rattle.san_speculation.proofs.Seen.{leaves_seen, replayed_seen, same_machine, same_parts, step_seen}
use Rattle.san_speculation.proofs.Speculated.{is_run}
use Rattle.san_speculation.proofs.Stepping.{counter_fits, run_keeps, step_keeps}
use Rattle.san_speculation.proofs.speculation.Core.publish.Goals as goal

pub is_from-requires-clause-chain : goal.is_from-requires-clause-chain
is_from-requires-clause-chain c =
    let run = run_seen c.self.inside.machine c.args.self.now (ap (λ (x : CoreValue). x.machine) c.self.view_is) (is_run c.network.result.now c.self.inside.machine.network c.network.ensures c.is_network.ensures.network c.is_network.ensures.lawful c.is_network.ensures.laid c.is_network.ensures.shared c.is_network.ensures.private) in
    chain_there c.self.inside.machine c.self.inside.ahead c.self.inside.claims.items c.self.inside.journal.items c.self.inside.rollbacks c.args.self.now c.self.view_is c.keeps_the_law.ensures.machine run c.keeps_the_law.ensures.replayed c.args.worker c.in-Some.leaf (claim_here c.self.inside.machine c.self.inside.ahead c.self.inside.claims.items c.self.inside.journal.items c.self.inside.rollbacks c.args.worker (Some c.in-Some.leaf) _ (subst (λ (x : CoreValue). c.args.worker < length x.book.claims) (sym c.self.view_is) c.requires) (sym c.in-Some.is ∙ c.index.ensures))

pub is_from-requires-clause-state : goal.is_from-requires-clause-state
is_from-requires-clause-state c =
    let run = run_seen c.self.inside.machine c.args.self.now (ap (λ (x : CoreValue). x.machine) c.self.view_is) (is_run c.network.result.now c.self.inside.machine.network c.network.ensures c.is_network.ensures.network c.is_network.ensures.lawful c.is_network.ensures.laid c.is_network.ensures.shared c.is_network.ensures.private) in
    state_there c.self.inside.machine c.self.inside.ahead c.self.inside.claims.items c.self.inside.journal.items c.self.inside.rollbacks c.args.self.now c.self.view_is c.keeps_the_law.ensures.machine run c.keeps_the_law.ensures.replayed c.args.worker c.in-Some.leaf (claim_here c.self.inside.machine c.self.inside.ahead c.self.inside.claims.items c.self.inside.journal.items c.self.inside.rollbacks c.args.worker (Some c.in-Some.leaf) _ (subst (λ (x : CoreValue). c.args.worker < length x.book.claims) (sym c.self.view_is) c.requires) (sym c.in-Some.is ∙ c.index.ensures))

pub is_from-requires-clause-part : goal.is_from-requires-clause-part
is_from-requires-clause-part c =
    let run = run_seen c.self.inside.machine c.args.self.now (ap (λ (x : CoreValue). x.machine) c.self.view_is) (is_run c.network.result.now c.self.inside.machine.network c.network.ensures c.is_network.ensures.network c.is_network.ensures.lawful c.is_network.ensures.laid c.is_network.ensures.shared c.is_network.ensures.private) in
    part_there c.self.inside.machine c.self.inside.ahead c.self.inside.claims.items c.self.inside.journal.items c.self.inside.rollbacks c.args.self.now c.self.view_is c.keeps_the_law.ensures.machine run c.keeps_the_law.ensures.replayed c.args.worker c.in-Some.leaf (claim_here c.self.inside.machine c.self.inside.ahead c.self.inside.claims.items c.self.inside.journal.items c.self.inside.rollbacks c.args.worker (Some c.in-Some.leaf) _ (subst (λ (x : CoreValue). c.args.worker < length x.book.claims) (sym c.self.view_is) c.requires) (sym c.in-Some.is ∙ c.index.ensures))

pub push-requires-clause-leaf : goal.push-requires-clause-leaf
push-requires-clause-leaf c =
    let run = run_seen c.self.inside.machine c.args.self.now (ap (λ (x : CoreValue). x.machine) c.self.view_is) (is_run c.network.result.now c.self.inside.machine.network c.network.ensures c.is_network.ensures.network c.is_network.ensures.lawful c.is_network.ensures.laid c.is_network.ensures.shared c.is_network.ensures.private) in
    chain_there c.self.inside.machine c.self.inside.ahead c.self.inside.claims.items c.self.inside.journal.items c.self.inside.rollbacks c.args.self.now c.self.view_is c.keeps_the_law.ensures.machine run c.keeps_the_law.ensures.replayed c.args.worker c.in-Some.leaf (claim_here c.self.inside.machine c.self.inside.ahead c.self.inside.claims.items c.self.inside.journal.items c.self.inside.rollbacks c.args.worker (Some c.in-Some.leaf) _ (subst (λ (x : CoreValue). c.args.worker < length x.book.claims) (sym c.self.view_is) c.requires) (sym c.in-Some.is ∙ c.index.ensures))

pub push-requires-clause-number : goal.push-requires-clause-number
push-requires-clause-number c =
    let run = run_seen c.self.inside.machine c.args.self.now (ap (λ (x : CoreValue). x.machine) c.self.view_is) (is_run c.network.result.now c.self.inside.machine.network c.network.ensures c.is_network.ensures.network c.is_network.ensures.lawful c.is_network.ensures.laid c.is_network.ensures.shared c.is_network.ensures.private) in
    number_there c.self.inside.machine c.self.inside.ahead c.self.inside.claims.items c.self.inside.journal.items c.self.inside.rollbacks c.args.self.now c.self.view_is c.keeps_the_law.ensures.machine run c.keeps_the_law.ensures.replayed c.args.worker c.in-Some.leaf (claim_here c.self.inside.machine c.self.inside.ahead c.self.inside.claims.items c.self.inside.journal.items c.self.inside.rollbacks c.args.worker (Some c.in-Some.leaf) _ (subst (λ (x : CoreValue). c.args.worker < length x.book.claims) (sym c.self.view_is) c.requires) (sym c.in-Some.is ∙ c.index.ensures))

pub push-requires-clause-few : goal.push-requires-clause-few
push-requires-clause-few c =
    let run = run_seen c.self.inside.machine c.args.self.now (ap (λ (x : CoreValue). x.machine) c.self.view_is) (is_run c.network.result.now c.self.inside.machine.network c.network.ensures c.is_network.ensures.network c.is_network.ensures.lawful c.is_network.ensures.laid c.is_network.ensures.shared c.is_network.ensures.private) in
    counter_fits c.self.inside.machine c.self.inside.ahead c.self.inside.claims.items c.self.inside.journal.items c.self.inside.rollbacks c.args.self.now c.self.view_is c.keeps_the_law.ensures.machine run c.keeps_the_law.ensures.replayed c.in-Some.leaf.0

pub push-requires-clause-fit : goal.push-requires-clause-fit
push-requires-clause-fit c =
    let run = run_seen c.self.inside.machine c.args.self.now (ap (λ (x : CoreValue). x.machine) c.self.view_is) (is_run c.network.result.now c.self.inside.machine.network c.network.ensures c.is_network.ensures.network c.is_network.ensures.lawful c.is_network.ensures.laid c.is_network.ensures.shared c.is_network.ensures.private) in
    writes_fit c.self.inside.machine c.self.inside.ahead c.self.inside.claims.items c.self.inside.journal.items c.self.inside.rollbacks c.args.self.now c.self.view_is c.keeps_the_law.ensures.machine run c.keeps_the_law.ensures.replayed c.args.worker c.in-Some.leaf (claim_here c.self.inside.machine c.self.inside.ahead c.self.inside.claims.items c.self.inside.journal.items c.self.inside.rollbacks c.args.worker (Some c.in-Some.leaf) _ (subst (λ (x : CoreValue). c.args.worker < length x.book.claims) (sym c.self.view_is) c.requires) (sym c.in-Some.is ∙ c.index.ensures)) c.args.piece (c.is_from.ensures.0 c.if-not-is_from.false) c.is_sound.ensures c.fits.ensures c.is_noted.ensures

pub push-requires-clause-new : goal.push-requires-clause-new
push-requires-clause-new c =
    let run = run_seen c.self.inside.machine c.args.self.now (ap (λ (x : CoreValue). x.machine) c.self.view_is) (is_run c.network.result.now c.self.inside.machine.network c.network.ensures c.is_network.ensures.network c.is_network.ensures.lawful c.is_network.ensures.laid c.is_network.ensures.shared c.is_network.ensures.private) in
    number_new c.self.inside.machine c.self.inside.ahead c.self.inside.claims.items c.self.inside.journal.items c.self.inside.rollbacks c.args.self.now c.self.view_is c.keeps_the_law.ensures.machine run c.keeps_the_law.ensures.replayed c.args.worker c.in-Some.leaf (claim_here c.self.inside.machine c.self.inside.ahead c.self.inside.claims.items c.self.inside.journal.items c.self.inside.rollbacks c.args.worker (Some c.in-Some.leaf) _ (subst (λ (x : CoreValue). c.args.worker < length x.book.claims) (sym c.self.view_is) c.requires) (sym c.in-Some.is ∙ c.index.ensures))

pub push-requires-clause-goes_on : goal.push-requires-clause-goes_on
push-requires-clause-goes_on c =
    let run = run_seen c.self.inside.machine c.args.self.now (ap (λ (x : CoreValue). x.machine) c.self.view_is) (is_run c.network.result.now c.self.inside.machine.network c.network.ensures c.is_network.ensures.network c.is_network.ensures.lawful c.is_network.ensures.laid c.is_network.ensures.shared c.is_network.ensures.private) in
    joins c.self.inside.machine c.self.inside.ahead c.self.inside.claims.items c.self.inside.journal.items c.self.inside.rollbacks c.args.self.now c.self.view_is c.keeps_the_law.ensures.machine run c.keeps_the_law.ensures.replayed c.args.worker c.in-Some.leaf (claim_here c.self.inside.machine c.self.inside.ahead c.self.inside.claims.items c.self.inside.journal.items c.self.inside.rollbacks c.args.worker (Some c.in-Some.leaf) _ (subst (λ (x : CoreValue). c.args.worker < length x.book.claims) (sym c.self.view_is) c.requires) (sym c.in-Some.is ∙ c.index.ensures)) c.args.piece (c.is_from.ensures.0 c.if-not-is_from.false) c.is_sound.ensures c.fits.ensures c.is_noted.ensures

pub invariant_of-self-in-Ok : goal.invariant_of-self-in-Ok
invariant_of-self-in-Ok c =
    let run = run_seen c.self.inside.machine c.args.self.now (ap (λ (x : CoreValue). x.machine) c.self.view_is) (is_run c.network.result.now c.self.inside.machine.network c.network.ensures c.is_network.ensures.network c.is_network.ensures.lawful c.is_network.ensures.laid c.is_network.ensures.shared c.is_network.ensures.private) in
    let happens = replayed_seen (core_by c.self.inside.machine c.self.inside.ahead c.self.inside.claims.items c.self.inside.journal.items c.self.inside.rollbacks) c.args.self.now c.self.view_is (publication c.args.worker c.args.piece) _
    (publish_is c.self.inside.machine c.self.inside.ahead c.self.inside.claims.items c.self.inside.journal.items c.self.inside.rollbacks c.args.self.now c.self.view_is c.keeps_the_law.ensures.machine run c.keeps_the_law.ensures.replayed c.args.worker c.in-Some.leaf (claim_here c.self.inside.machine c.self.inside.ahead c.self.inside.claims.items c.self.inside.journal.items c.self.inside.rollbacks c.args.worker (Some c.in-Some.leaf) _ (subst (λ (x : CoreValue). c.args.worker < length x.book.claims) (sym c.self.view_is) c.requires) (sym c.in-Some.is ∙ c.index.ensures)) c.args.piece (c.is_from.ensures.0 c.if-not-is_from.false) c.is_sound.ensures c.fits.ensures c.is_noted.ensures c.push.new.ahead c.push.new.journal.items c.in-Ok.ensures.pushed (steps_are c.args.worker c.args.piece c.self.inside.journal.items c.push.new.journal.items c.in-Ok.ensures.steps)) in (
      run_keeps c.args.self.now (core_by c.self.inside.machine c.push.new.ahead (slice_set c.self.inside.claims.items c.args.worker None) c.push.new.journal.items c.self.inside.rollbacks) c.keeps_the_law.ensures.machine run c.keeps_the_law.ensures.replayed (publication c.args.worker c.args.piece) (reads_fit_seen c.self.inside.machine c.self.inside.ahead c.self.inside.claims.items c.self.inside.journal.items c.self.inside.rollbacks c.args.self.now c.self.view_is c.keeps_the_law.ensures.machine run c.keeps_the_law.ensures.replayed c.args.worker c.in-Some.leaf (claim_here c.self.inside.machine c.self.inside.ahead c.self.inside.claims.items c.self.inside.journal.items c.self.inside.rollbacks c.args.worker (Some c.in-Some.leaf) _ (subst (λ (x : CoreValue). c.args.worker < length x.book.claims) (sym c.self.view_is) c.requires) (sym c.in-Some.is ∙ c.index.ensures)) c.args.piece (c.is_from.ensures.0 c.if-not-is_from.false) c.is_sound.ensures c.fits.ensures c.is_noted.ensures) happens (same_machine (core_by c.self.inside.machine c.self.inside.ahead c.self.inside.claims.items c.self.inside.journal.items c.self.inside.rollbacks) c.args.self.now (core_by c.self.inside.machine c.push.new.ahead (slice_set c.self.inside.claims.items c.args.worker None) c.push.new.journal.items c.self.inside.rollbacks) c.self.view_is refl),
      push_kept c.self.inside.machine c.self.inside.ahead c.self.inside.claims.items c.self.inside.journal.items c.self.inside.rollbacks c.args.self.now c.self.view_is c.keeps_the_law.ensures.machine (run_seen c.self.inside.machine c.args.self.now (ap (λ (x : CoreValue). x.machine) c.self.view_is) (is_run c.network.result.now c.self.inside.machine.network c.network.ensures c.is_network.ensures.network c.is_network.ensures.lawful c.is_network.ensures.laid c.is_network.ensures.shared c.is_network.ensures.private)) c.keeps_the_law.ensures.replayed c.self.inside.soonest c.self.invariant.1 c.in-Some.leaf c.deref.result.now c.network-2.result.now c.network-2.ensures c.touch-2.new.soonest c.touch_written.new.soonest c.touch-2.ensures c.touch_written.ensures c.args.worker c.args.piece c.push.new.ahead (ap (map pair_in) c.deref.ensures.value ∙ ap (λ (o : law.Outcome). o.writes) c.outcome.ensures.same) (claim_here c.self.inside.machine c.self.inside.ahead c.self.inside.claims.items c.self.inside.journal.items c.self.inside.rollbacks c.args.worker (Some c.in-Some.leaf) _ (subst (λ (x : CoreValue). c.args.worker < length x.book.claims) (sym c.self.view_is) c.requires) (sym c.in-Some.is ∙ c.index.ensures)) c.in-Ok.ensures.pushed,
    )

pub returns-in-Ok : goal.returns-in-Ok
returns-in-Ok c =
    let run = run_seen c.self.inside.machine c.args.self.now (ap (λ (x : CoreValue). x.machine) c.self.view_is) (is_run c.network.result.now c.self.inside.machine.network c.network.ensures c.is_network.ensures.network c.is_network.ensures.lawful c.is_network.ensures.laid c.is_network.ensures.shared c.is_network.ensures.private) in
    let happens = replayed_seen (core_by c.self.inside.machine c.self.inside.ahead c.self.inside.claims.items c.self.inside.journal.items c.self.inside.rollbacks) c.args.self.now c.self.view_is (publication c.args.worker c.args.piece) _
    (publish_is c.self.inside.machine c.self.inside.ahead c.self.inside.claims.items c.self.inside.journal.items c.self.inside.rollbacks c.args.self.now c.self.view_is c.keeps_the_law.ensures.machine run c.keeps_the_law.ensures.replayed c.args.worker c.in-Some.leaf (claim_here c.self.inside.machine c.self.inside.ahead c.self.inside.claims.items c.self.inside.journal.items c.self.inside.rollbacks c.args.worker (Some c.in-Some.leaf) _ (subst (λ (x : CoreValue). c.args.worker < length x.book.claims) (sym c.self.view_is) c.requires) (sym c.in-Some.is ∙ c.index.ensures)) c.args.piece (c.is_from.ensures.0 c.if-not-is_from.false) c.is_sound.ensures c.fits.ensures c.is_noted.ensures c.push.new.ahead c.push.new.journal.items c.in-Ok.ensures.pushed (steps_are c.args.worker c.args.piece c.self.inside.journal.items c.push.new.journal.items c.in-Ok.ensures.steps)) in
    (happens, ap (λ (x : CoreValue). x.machine) c.self.view_is)

pub returns-in-Err : goal.returns-in-Err
returns-in-Err c =
    let back = c.in-Err.ensures.back in (
      back.0,
      ap (λ (x : AheadValue). core_by c.self.inside.machine x c.self.inside.claims.items c.push.new.journal.items c.self.inside.rollbacks) back.2
          ∙ (ap (λ (js : List Step). core_by c.self.inside.machine c.self.inside.ahead c.self.inside.claims.items js c.self.inside.rollbacks) back.1
          ∙ c.self.view_is),
    )

pub returns-in_default : goal.returns-in_default
returns-in_default c = (refl, late_without c.args.self.now c.args.worker c.args.piece (ap (λ (x : CoreValue). claim_of x.book.claims c.args.worker) (sym c.self.view_is) ∙ claim_here c.self.inside.machine c.self.inside.ahead c.self.inside.claims.items c.self.inside.journal.items c.self.inside.rollbacks c.args.worker None _ (subst (λ (x : CoreValue). c.args.worker < length x.book.claims) (sym c.self.view_is) c.requires) (sym c.in_default.is ∙ c.index.ensures)))

pub invariant_of-self : goal.invariant_of-self
invariant_of-self c = (
  subst IsReplayed (sym (same_parts c.self.inside.machine c.self.inside.machine c.self.inside.ahead c.self.inside.claims.items c.self.inside.journal.items c.reserve.new.self.items c.self.inside.rollbacks c.args.self.now c.self.view_is refl c.reserve.ensures.items)) c.keeps_the_law.ensures.replayed,
  c.self.invariant.1,
)

pub returns-then-is_err : goal.returns-then-is_err
returns-then-is_err c = (refl, (same_parts c.self.inside.machine c.self.inside.machine c.self.inside.ahead c.self.inside.claims.items c.self.inside.journal.items c.reserve.new.self.items c.self.inside.rollbacks c.args.self.now c.self.view_is refl c.reserve.ensures.items))

pub invariant_of-self-then-not-is_from : goal.invariant_of-self-then-not-is_from
invariant_of-self-then-not-is_from c =
    let run = run_seen c.self.inside.machine c.args.self.now (ap (λ (x : CoreValue). x.machine) c.self.view_is) (is_run c.network.result.now c.self.inside.machine.network c.network.ensures c.is_network.ensures.network c.is_network.ensures.lawful c.is_network.ensures.laid c.is_network.ensures.shared c.is_network.ensures.private) in
    let late = step_seen (core_by c.self.inside.machine c.self.inside.ahead c.self.inside.claims.items c.self.inside.journal.items c.self.inside.rollbacks) c.args.self.now c.self.view_is (book.Late c.args.worker) _
    (late_is c.self.inside.machine c.self.inside.ahead c.self.inside.claims.items c.self.inside.journal.items c.self.inside.rollbacks c.args.worker (record { leaf = c.in-Some.leaf.0; log = [] }) c.book.new.journal.items (claim_here c.self.inside.machine c.self.inside.ahead c.self.inside.claims.items c.self.inside.journal.items c.self.inside.rollbacks c.args.worker (Some c.in-Some.leaf) _ (subst (λ (x : CoreValue). c.args.worker < length x.book.claims) (sym c.self.view_is) c.requires) (sym c.in-Some.is ∙ c.index.ensures)) (c.book.ensures.items ∙ ap (λ (js : List Step). js ++ step.Late c.args.worker ∷ []) c.reserve.ensures.items)) in (
      step_keeps c.args.self.now (core_by c.self.inside.machine c.self.inside.ahead (slice_set c.self.inside.claims.items c.args.worker None) c.book.new.journal.items c.self.inside.rollbacks) c.keeps_the_law.ensures.machine run c.keeps_the_law.ensures.replayed (book.Late c.args.worker) tt late (same_machine (core_by c.self.inside.machine c.self.inside.ahead c.self.inside.claims.items c.self.inside.journal.items c.self.inside.rollbacks) c.args.self.now (core_by c.self.inside.machine c.self.inside.ahead (slice_set c.self.inside.claims.items c.args.worker None) c.book.new.journal.items c.self.inside.rollbacks) c.self.view_is refl),
      late_kept c.self.inside.machine c.self.inside.ahead c.self.inside.claims.items c.self.inside.journal.items c.self.inside.rollbacks c.args.self.now c.self.view_is c.keeps_the_law.ensures.machine (run_seen c.self.inside.machine c.args.self.now (ap (λ (x : CoreValue). x.machine) c.self.view_is) (is_run c.network.result.now c.self.inside.machine.network c.network.ensures c.is_network.ensures.network c.is_network.ensures.lawful c.is_network.ensures.laid c.is_network.ensures.shared c.is_network.ensures.private)) c.keeps_the_law.ensures.replayed c.self.inside.soonest c.self.invariant.1 c.args.worker c.in-Some.leaf c.touch.new.soonest (claim_here c.self.inside.machine c.self.inside.ahead c.self.inside.claims.items c.self.inside.journal.items c.self.inside.rollbacks c.args.worker (Some c.in-Some.leaf) _ (subst (λ (x : CoreValue). c.args.worker < length x.book.claims) (sym c.self.view_is) c.requires) (sym c.in-Some.is ∙ c.index.ensures)) c.touch.ensures,
    )

pub returns-then-not-is_from : goal.returns-then-not-is_from
returns-then-not-is_from c = (
  refl,
  late_with c.args.self.now (core_by c.self.inside.machine c.self.inside.ahead (slice_set c.self.inside.claims.items c.args.worker None) c.book.new.journal.items c.self.inside.rollbacks) c.args.worker c.args.piece (record { leaf = c.in-Some.leaf.0; log = [] })
      (ap (λ (x : CoreValue). claim_of x.book.claims c.args.worker) (sym c.self.view_is) ∙ (claim_here c.self.inside.machine c.self.inside.ahead c.self.inside.claims.items c.self.inside.journal.items c.self.inside.rollbacks c.args.worker (Some c.in-Some.leaf) _ (subst (λ (x : CoreValue). c.args.worker < length x.book.claims) (sym c.self.view_is) c.requires) (sym c.in-Some.is ∙ c.index.ensures)))
      (λ goes. not_true c.is_from.result (c.is_from.ensures.1 (from_seen c.self.inside.machine c.self.inside.ahead c.self.inside.claims.items c.self.inside.journal.items c.self.inside.rollbacks c.args.self.now c.self.view_is c.in-Some.leaf.0 c.args.piece goes)) c.if-not-is_from.true)
      (leaves_seen (core_by c.self.inside.machine c.self.inside.ahead c.self.inside.claims.items c.self.inside.journal.items c.self.inside.rollbacks) c.args.self.now (core_by c.self.inside.machine c.self.inside.ahead (slice_set c.self.inside.claims.items c.args.worker None) c.book.new.journal.items c.self.inside.rollbacks) c.self.view_is (book.Late c.args.worker)
      (late_is c.self.inside.machine c.self.inside.ahead c.self.inside.claims.items c.self.inside.journal.items c.self.inside.rollbacks c.args.worker (record { leaf = c.in-Some.leaf.0; log = [] }) c.book.new.journal.items (claim_here c.self.inside.machine c.self.inside.ahead c.self.inside.claims.items c.self.inside.journal.items c.self.inside.rollbacks c.args.worker (Some c.in-Some.leaf) _ (subst (λ (x : CoreValue). c.args.worker < length x.book.claims) (sym c.self.view_is) c.requires) (sym c.in-Some.is ∙ c.index.ensures)) (c.book.ensures.items ∙ ap (λ (js : List Step). js ++ step.Late c.args.worker ∷ []) c.reserve.ensures.items)) refl),
)

pub touch-requires : goal.touch-requires
touch-requires c =
    let run = run_seen c.self.inside.machine c.args.self.now (ap (λ (x : CoreValue). x.machine) c.self.view_is) (is_run c.network.result.now c.self.inside.machine.network c.network.ensures c.is_network.ensures.network c.is_network.ensures.lawful c.is_network.ensures.laid c.is_network.ensures.shared c.is_network.ensures.private) in
    let there = chain_there c.self.inside.machine c.self.inside.ahead c.self.inside.claims.items c.self.inside.journal.items c.self.inside.rollbacks c.args.self.now c.self.view_is c.keeps_the_law.ensures.machine run c.keeps_the_law.ensures.replayed c.args.worker c.in-Some.leaf (claim_here c.self.inside.machine c.self.inside.ahead c.self.inside.claims.items c.self.inside.journal.items c.self.inside.rollbacks c.args.worker (Some c.in-Some.leaf) _ (subst (λ (x : CoreValue). c.args.worker < length x.book.claims) (sym c.self.view_is) c.requires) (sym c.in-Some.is ∙ c.index.ensures)) in let long = c.self.invariant.1.long in omega (arith, there, long)

pub touch-requires-2 : goal.touch-requires-2
touch-requires-2 c =
    let run = run_seen c.self.inside.machine c.args.self.now (ap (λ (x : CoreValue). x.machine) c.self.view_is) (is_run c.network.result.now c.self.inside.machine.network c.network.ensures c.is_network.ensures.network c.is_network.ensures.lawful c.is_network.ensures.laid c.is_network.ensures.shared c.is_network.ensures.private) in
    let there = chain_there c.self.inside.machine c.self.inside.ahead c.self.inside.claims.items c.self.inside.journal.items c.self.inside.rollbacks c.args.self.now c.self.view_is c.keeps_the_law.ensures.machine run c.keeps_the_law.ensures.replayed c.args.worker c.in-Some.leaf (claim_here c.self.inside.machine c.self.inside.ahead c.self.inside.claims.items c.self.inside.journal.items c.self.inside.rollbacks c.args.worker (Some c.in-Some.leaf) _ (subst (λ (x : CoreValue). c.args.worker < length x.book.claims) (sym c.self.view_is) c.requires) (sym c.in-Some.is ∙ c.index.ensures)) in let long = c.self.invariant.1.long in omega (arith, there, long)

pub touch_written-requires-clause-places : goal.touch_written-requires-clause-places
touch_written-requires-clause-places c =
    let run = run_seen c.self.inside.machine c.args.self.now (ap (λ (x : CoreValue). x.machine) c.self.view_is) (is_run c.network.result.now c.self.inside.machine.network c.network.ensures c.is_network.ensures.network c.is_network.ensures.lawful c.is_network.ensures.laid c.is_network.ensures.shared c.is_network.ensures.private) in
    push_places c.self.inside.machine c.self.inside.ahead c.self.inside.claims.items c.self.inside.journal.items c.self.inside.rollbacks c.args.self.now c.self.view_is c.keeps_the_law.ensures.machine run c.keeps_the_law.ensures.replayed c.self.inside.soonest c.self.invariant.1 c.args.piece c.deref.result.now c.network-2.result.now c.network-2.ensures
    (writes_fit c.self.inside.machine c.self.inside.ahead c.self.inside.claims.items c.self.inside.journal.items c.self.inside.rollbacks c.args.self.now c.self.view_is c.keeps_the_law.ensures.machine run c.keeps_the_law.ensures.replayed c.args.worker c.in-Some.leaf (claim_here c.self.inside.machine c.self.inside.ahead c.self.inside.claims.items c.self.inside.journal.items c.self.inside.rollbacks c.args.worker (Some c.in-Some.leaf) _ (subst (λ (x : CoreValue). c.args.worker < length x.book.claims) (sym c.self.view_is) c.requires) (sym c.in-Some.is ∙ c.index.ensures)) c.args.piece (c.is_from.ensures.0 c.if-not-is_from.false) c.is_sound.ensures c.fits.ensures c.is_noted.ensures)
    (ap (map pair_in) c.deref.ensures.value ∙ ap (λ (o : law.Outcome). o.writes) c.outcome.ensures.same)

pub touch_written-requires-clause-keys : goal.touch_written-requires-clause-keys
touch_written-requires-clause-keys c =
    let run = run_seen c.self.inside.machine c.args.self.now (ap (λ (x : CoreValue). x.machine) c.self.view_is) (is_run c.network.result.now c.self.inside.machine.network c.network.ensures c.is_network.ensures.network c.is_network.ensures.lawful c.is_network.ensures.laid c.is_network.ensures.shared c.is_network.ensures.private) in
    ap (λ (ks : List (Option ℕ)). length ks) c.touch-2.ensures ∙ (length-set c.self.inside.soonest c.in-Some.leaf.0 (Some 0) ∙ (keys_long c.self.inside.machine c.self.inside.ahead c.self.inside.claims.items c.self.inside.journal.items c.self.inside.rollbacks c.args.self.now c.self.view_is c.keeps_the_law.ensures.machine run c.keeps_the_law.ensures.replayed c.self.inside.soonest c.self.invariant.1 ∙ ap (λ (n : Network). length n.parts) (sym c.network-2.ensures)))

pub invariant_of-self-in-Err : goal.invariant_of-self-in-Err
invariant_of-self-in-Err c =
    let run = run_seen c.self.inside.machine c.args.self.now (ap (λ (x : CoreValue). x.machine) c.self.view_is) (is_run c.network.result.now c.self.inside.machine.network c.network.ensures c.is_network.ensures.network c.is_network.ensures.lawful c.is_network.ensures.laid c.is_network.ensures.shared c.is_network.ensures.private) in
    let back = c.in-Err.ensures.back in
    let same = ap (λ (x : AheadValue). core_by c.self.inside.machine x c.self.inside.claims.items c.push.new.journal.items c.self.inside.rollbacks) back.2
    ∙ (ap (λ (js : List Step). core_by c.self.inside.machine c.self.inside.ahead c.self.inside.claims.items js c.self.inside.rollbacks) back.1
    ∙ c.self.view_is) in (
      subst IsReplayed (sym same) c.keeps_the_law.ensures.replayed,
      touch_kept c.self.inside.machine c.self.inside.ahead c.self.inside.claims.items c.self.inside.journal.items c.self.inside.rollbacks c.args.self.now c.self.view_is c.keeps_the_law.ensures.machine run c.keeps_the_law.ensures.replayed c.self.inside.soonest c.self.invariant.1 c.in-Some.leaf c.deref.result.now c.network-2.result.now c.network-2.ensures c.touch-2.new.soonest c.touch_written.new.soonest c.touch-2.ensures c.touch_written.ensures c.push.new.ahead back.2,
    )
