use Rattle.std.proofs.Common.{List, [], ◌∷◌, ◌++◌, Option, None, Some, map, ◌<◌, length, ap, arith, refl, subst, sym, ◌∙◌}
use Rattle.std.specs.Prelude.{slice_set}
use Rattle.san_base.specs.declared.limits.Limits.{Limits}
use Rattle.san_base.specs.declared.numbers.LeafId.{LeafId}
use Rattle.san_book.specs.Cores as book
use Rattle.san_speculation.specs.CoreCalls.{Stays}
use Rattle.san_speculation.specs.Speculating.{CoreValue, IsReplayed, claim_in, core_by}
use Rattle.san_speculation.specs.inner.Claiming.{PlannedBy}
use Rattle.san_speculation.specs.inner.Soonest.{AreLow}
use Rattle.san_speculation.specs.declared.step.Step.{Step}
use Rattle.san_speculation.specs.declared.step.Step.TheVariants as step
use Rattle.san_speculation.proofs.ClaimSteps.{all_plannable, claim_is, found_below, going, leaves_few, may_here, none_held, next_seen, number_below, plannable, planned_seen, stays_at_rest, stays_unplanned, stays_when_booked, stays_when_held, stays_when_rolled}
use Rattle.san_speculation.proofs.Lows.{claim_kept}
use Rattle.san_speculation.proofs.Keeping.{run_seen}
use Rattle.san_speculation.proofs.Published.{claim_here}
use Rattle.san_speculation.proofs.Seen.{leaves_seen, same_machine, same_parts, step_seen}
use Rattle.san_speculation.proofs.Speculated.{is_run}
use Rattle.san_speculation.proofs.Stepping.{step_keeps}
use Rattle.san_speculation.proofs.speculation.Core.claim.Goals as goal

pub returns-then-not-goes_on : goal.returns-then-not-goes_on
returns-then-not-goes_on c =
    let old = core_by c.self.inside.machine c.self.inside.ahead c.self.inside.claims.items c.self.inside.journal.items c.self.inside.rollbacks in
    stays_at_rest c.self.inside.machine c.self.inside.ahead c.self.inside.claims.items c.self.inside.journal.items c.self.inside.rollbacks c.args.self.now c.self.view_is c.args.worker (c.goes_on.ensures c.self.inside.ahead old.book ∙ c.if-not-goes_on.true)

pub returns-then-len-ge-MAX_STEPS_TO_CLAIM : goal.returns-then-len-ge-MAX_STEPS_TO_CLAIM
returns-then-len-ge-MAX_STEPS_TO_CLAIM c = stays_when_booked c.self.inside.machine c.self.inside.ahead c.self.inside.claims.items c.self.inside.journal.items c.self.inside.rollbacks c.args.self.now c.self.view_is c.args.worker (let l = c.len.ensures in let t = c.if-len-ge-MAX_STEPS_TO_CLAIM.true in omega (arith, l, t))

pub returns-then-self-limits : goal.returns-then-self-limits
returns-then-self-limits c = stays_when_rolled c.self.inside.machine c.self.inside.ahead c.self.inside.claims.items c.self.inside.journal.items c.self.inside.rollbacks c.args.self.now c.self.view_is c.args.worker (let l = ap (λ (x : Limits). x.rollbacks) c.limits.ensures in let t = c.if-self-limits.true in omega (arith, l, t))

pub returns-then-is_some : goal.returns-then-is_some
returns-then-is_some c =
    let there = subst (λ (x : CoreValue). c.args.worker < length x.book.claims) (sym c.self.view_is) c.requires in
    stays_when_held c.self.inside.machine c.self.inside.ahead c.self.inside.claims.items c.self.inside.journal.items c.self.inside.rollbacks c.args.self.now c.self.view_is c.args.worker c.index.result.now (claim_here c.self.inside.machine c.self.inside.ahead c.self.inside.claims.items c.self.inside.journal.items c.self.inside.rollbacks c.args.worker c.index.result.now _ there c.index.ensures) (sym c.if-is_some.ensures)

pub planned-requires-clause-plannable : goal.planned-requires-clause-plannable
planned-requires-clause-plannable c =
    let run = run_seen c.self.inside.machine c.args.self.now (ap (λ (x : CoreValue). x.machine) c.self.view_is) (is_run c.network.result.now c.self.inside.machine.network c.network.ensures c.is_network.ensures.network c.is_network.ensures.lawful c.is_network.ensures.laid c.is_network.ensures.shared c.is_network.ensures.private) in
    let old = core_by c.self.inside.machine c.self.inside.ahead c.self.inside.claims.items c.self.inside.journal.items c.self.inside.rollbacks in
    all_plannable c.self.inside.machine c.self.inside.ahead c.self.inside.claims.items c.self.inside.journal.items c.self.inside.rollbacks c.args.self.now c.self.view_is c.keeps_the_law.ensures.machine run c.keeps_the_law.ensures.replayed (c.goes_on.ensures c.self.inside.ahead old.book ∙ c.if-not-goes_on.false)

pub planned-requires-clause-few : goal.planned-requires-clause-few
planned-requires-clause-few c =
    let run = run_seen c.self.inside.machine c.args.self.now (ap (λ (x : CoreValue). x.machine) c.self.view_is) (is_run c.network.result.now c.self.inside.machine.network c.network.ensures c.is_network.ensures.network c.is_network.ensures.lawful c.is_network.ensures.laid c.is_network.ensures.shared c.is_network.ensures.private) in
    leaves_few c.self.inside.machine c.self.inside.ahead c.self.inside.claims.items c.self.inside.journal.items c.self.inside.rollbacks c.args.self.now c.self.view_is c.keeps_the_law.ensures.machine run c.keeps_the_law.ensures.replayed

pub planned-requires-clause-going : goal.planned-requires-clause-going
planned-requires-clause-going c =
    let run = run_seen c.self.inside.machine c.args.self.now (ap (λ (x : CoreValue). x.machine) c.self.view_is) (is_run c.network.result.now c.self.inside.machine.network c.network.ensures c.is_network.ensures.network c.is_network.ensures.lawful c.is_network.ensures.laid c.is_network.ensures.shared c.is_network.ensures.private) in
    let old = core_by c.self.inside.machine c.self.inside.ahead c.self.inside.claims.items c.self.inside.journal.items c.self.inside.rollbacks in
    going c.self.inside.machine c.self.inside.ahead c.self.inside.claims.items c.self.inside.journal.items c.self.inside.rollbacks c.args.self.now c.self.view_is c.keeps_the_law.ensures.machine run c.keeps_the_law.ensures.replayed (c.goes_on.ensures c.self.inside.ahead old.book ∙ c.if-not-goes_on.false)

pub returns-in_default : goal.returns-in_default
returns-in_default c =
    subst (λ (x : CoreValue). Stays c.args.self.now (book.Claim c.args.worker) x) (sym c.self.view_is)
    (stays_unplanned c.self.inside.machine c.self.inside.ahead c.self.inside.claims.items c.self.inside.journal.items c.self.inside.rollbacks c.args.self.now c.self.view_is c.args.worker
    (subst (λ (xs : List (Option LeafId)). PlannedBy c.self.inside.machine c.self.inside.ahead (map claim_in xs) None) c.deref.ensures.value c.in_default.ensures.planned))

pub invariant_of-self : goal.invariant_of-self
invariant_of-self c =
    let low : AreLow c.self.inside.machine c.self.inside.ahead (map claim_in c.self.inside.claims.items) c.planned.new.soonest = subst (λ (xs : List (Option LeafId)). AreLow c.self.inside.machine c.self.inside.ahead (map claim_in xs) c.planned.new.soonest) c.deref.ensures.value c.in_default.ensures.low in
    (c.self.invariant.0, low)

pub invariant_of-self-in_err-reserve : goal.invariant_of-self-in_err-reserve
invariant_of-self-in_err-reserve c =
    let low : AreLow c.self.inside.machine c.self.inside.ahead (map claim_in c.self.inside.claims.items) c.planned.new.soonest = subst (λ (xs : List (Option LeafId)). AreLow c.self.inside.machine c.self.inside.ahead (map claim_in xs) c.planned.new.soonest) c.deref.ensures.value c.in-Some.ensures.low in
    (subst IsReplayed (sym (same_parts c.self.inside.machine c.self.inside.machine c.self.inside.ahead c.self.inside.claims.items c.self.inside.journal.items c.reserve.new.self.items c.self.inside.rollbacks c.args.self.now c.self.view_is refl c.in_err-reserve.ensures.items)) c.keeps_the_law.ensures.replayed, low)

pub claim_of-requires-clause-plannable : goal.claim_of-requires-clause-plannable
claim_of-requires-clause-plannable c =
    let run = run_seen c.self.inside.machine c.args.self.now (ap (λ (x : CoreValue). x.machine) c.self.view_is) (is_run c.network.result.now c.self.inside.machine.network c.network.ensures c.is_network.ensures.network c.is_network.ensures.lawful c.is_network.ensures.laid c.is_network.ensures.shared c.is_network.ensures.private) in
    let old = core_by c.self.inside.machine c.self.inside.ahead c.self.inside.claims.items c.self.inside.journal.items c.self.inside.rollbacks in
    let by : PlannedBy c.self.inside.machine c.self.inside.ahead (map claim_in c.self.inside.claims.items) (Some (c.in-Some.leaf, c.in-Some.plan)) = subst (λ (xs : List (Option LeafId)). PlannedBy c.self.inside.machine c.self.inside.ahead (map claim_in xs) (Some (c.in-Some.leaf, c.in-Some.plan))) c.deref.ensures.value c.in-Some.ensures.planned in
    plannable c.self.inside.machine c.self.inside.ahead c.self.inside.claims.items c.self.inside.journal.items c.self.inside.rollbacks c.args.self.now c.self.view_is c.keeps_the_law.ensures.machine run c.keeps_the_law.ensures.replayed (c.goes_on.ensures c.self.inside.ahead old.book ∙ c.if-not-goes_on.false) c.in-Some.leaf.0 (found_below c.self.inside.machine c.self.inside.ahead c.self.inside.claims.items c.self.inside.journal.items c.self.inside.rollbacks c.in-Some.leaf c.in-Some.plan by)

pub claim_of-requires-clause-number : goal.claim_of-requires-clause-number
claim_of-requires-clause-number c =
    let run = run_seen c.self.inside.machine c.args.self.now (ap (λ (x : CoreValue). x.machine) c.self.view_is) (is_run c.network.result.now c.self.inside.machine.network c.network.ensures c.is_network.ensures.network c.is_network.ensures.lawful c.is_network.ensures.laid c.is_network.ensures.shared c.is_network.ensures.private) in
    let old = core_by c.self.inside.machine c.self.inside.ahead c.self.inside.claims.items c.self.inside.journal.items c.self.inside.rollbacks in
    let by : PlannedBy c.self.inside.machine c.self.inside.ahead (map claim_in c.self.inside.claims.items) (Some (c.in-Some.leaf, c.in-Some.plan)) = subst (λ (xs : List (Option LeafId)). PlannedBy c.self.inside.machine c.self.inside.ahead (map claim_in xs) (Some (c.in-Some.leaf, c.in-Some.plan))) c.deref.ensures.value c.in-Some.ensures.planned in
    number_below c.self.inside.machine c.self.inside.ahead c.self.inside.claims.items c.self.inside.journal.items c.self.inside.rollbacks c.args.self.now c.self.view_is c.keeps_the_law.ensures.machine run c.keeps_the_law.ensures.replayed (c.goes_on.ensures c.self.inside.ahead old.book ∙ c.if-not-goes_on.false) c.in-Some.leaf.0 (found_below c.self.inside.machine c.self.inside.ahead c.self.inside.claims.items c.self.inside.journal.items c.self.inside.rollbacks c.in-Some.leaf c.in-Some.plan by)

pub invariant_of-self-in_err-claim : goal.invariant_of-self-in_err-claim
invariant_of-self-in_err-claim c =
    let low : AreLow c.self.inside.machine c.self.inside.ahead (map claim_in c.self.inside.claims.items) c.planned.new.soonest = subst (λ (xs : List (Option LeafId)). AreLow c.self.inside.machine c.self.inside.ahead (map claim_in xs) c.planned.new.soonest) c.deref.ensures.value c.in-Some.ensures.low in
    (subst IsReplayed (sym (same_parts c.self.inside.machine c.self.inside.machine c.self.inside.ahead c.self.inside.claims.items c.self.inside.journal.items c.reserve.new.self.items c.self.inside.rollbacks c.args.self.now c.self.view_is refl c.in_ok-reserve.ensures.items)) c.keeps_the_law.ensures.replayed, low)

pub invariant_of-self-2 : goal.invariant_of-self-2
invariant_of-self-2 c =
    let run = run_seen c.self.inside.machine c.args.self.now (ap (λ (x : CoreValue). x.machine) c.self.view_is) (is_run c.network.result.now c.self.inside.machine.network c.network.ensures c.is_network.ensures.network c.is_network.ensures.lawful c.is_network.ensures.laid c.is_network.ensures.shared c.is_network.ensures.private) in
    let old = core_by c.self.inside.machine c.self.inside.ahead c.self.inside.claims.items c.self.inside.journal.items c.self.inside.rollbacks in
    let by : PlannedBy c.self.inside.machine c.self.inside.ahead (map claim_in c.self.inside.claims.items) (Some (c.in-Some.leaf, c.in-Some.plan)) = subst (λ (xs : List (Option LeafId)). PlannedBy c.self.inside.machine c.self.inside.ahead (map claim_in xs) (Some (c.in-Some.leaf, c.in-Some.plan))) c.deref.ensures.value c.in-Some.ensures.planned in
    let low : AreLow c.self.inside.machine c.self.inside.ahead (map claim_in c.self.inside.claims.items) c.planned.new.soonest = subst (λ (xs : List (Option LeafId)). AreLow c.self.inside.machine c.self.inside.ahead (map claim_in xs) c.planned.new.soonest) c.deref.ensures.value c.in-Some.ensures.low in
    let there = subst (λ (x : CoreValue). c.args.worker < length x.book.claims) (sym c.self.view_is) c.requires in
    let free = may_here c.self.inside.machine c.self.inside.ahead c.self.inside.claims.items c.self.inside.journal.items c.self.inside.rollbacks c.args.worker c.index.result.now (c.goes_on.ensures c.self.inside.ahead old.book ∙ c.if-not-goes_on.false) (let l = c.len.ensures in let t = c.if-len-ge-MAX_STEPS_TO_CLAIM.false in omega (arith, l, t)) (let l = ap (λ (x : Limits). x.rollbacks) c.limits.ensures in let t = c.if-self-limits.false in omega (arith, l, t)) there (claim_here c.self.inside.machine c.self.inside.ahead c.self.inside.claims.items c.self.inside.journal.items c.self.inside.rollbacks c.args.worker c.index.result.now _ there c.index.ensures) (sym c.if-is_some.ensures) in
    let new = core_by c.self.inside.machine c.self.inside.ahead (slice_set c.self.inside.claims.items c.args.worker (Some c.in-Some.leaf)) c.book.new.journal.items c.self.inside.rollbacks in
    let happens = step_seen old c.args.self.now c.self.view_is (book.Claim c.args.worker) _
    (claim_is c.self.inside.machine c.self.inside.ahead c.self.inside.claims.items c.self.inside.journal.items c.self.inside.rollbacks c.args.worker c.in-Some.leaf c.in-Some.plan c.book.new.journal.items free by (c.book.ensures.items ∙ ap (λ (js : List Step). js ++ step.Claim c.args.worker ∷ []) c.in_ok-reserve.ensures.items)) in (
      step_keeps c.args.self.now new c.keeps_the_law.ensures.machine run c.keeps_the_law.ensures.replayed (book.Claim c.args.worker) tt happens (same_machine old c.args.self.now new c.self.view_is refl),
      claim_kept c.self.inside.machine c.self.inside.ahead c.self.inside.claims.items c.self.inside.journal.items c.self.inside.rollbacks c.args.self.now c.self.view_is c.keeps_the_law.ensures.machine run c.keeps_the_law.ensures.replayed c.planned.new.soonest low c.args.worker c.in-Some.leaf (none_held c.self.inside.machine c.self.inside.ahead c.self.inside.claims.items c.self.inside.journal.items c.self.inside.rollbacks c.args.worker c.index.result.now (claim_here c.self.inside.machine c.self.inside.ahead c.self.inside.claims.items c.self.inside.journal.items c.self.inside.rollbacks c.args.worker c.index.result.now _ there c.index.ensures) (sym c.if-is_some.ensures)),
    )

pub returns : goal.returns
returns c =
    let run = run_seen c.self.inside.machine c.args.self.now (ap (λ (x : CoreValue). x.machine) c.self.view_is) (is_run c.network.result.now c.self.inside.machine.network c.network.ensures c.is_network.ensures.network c.is_network.ensures.lawful c.is_network.ensures.laid c.is_network.ensures.shared c.is_network.ensures.private) in
    let old = core_by c.self.inside.machine c.self.inside.ahead c.self.inside.claims.items c.self.inside.journal.items c.self.inside.rollbacks in
    let by : PlannedBy c.self.inside.machine c.self.inside.ahead (map claim_in c.self.inside.claims.items) (Some (c.in-Some.leaf, c.in-Some.plan)) = subst (λ (xs : List (Option LeafId)). PlannedBy c.self.inside.machine c.self.inside.ahead (map claim_in xs) (Some (c.in-Some.leaf, c.in-Some.plan))) c.deref.ensures.value c.in-Some.ensures.planned in
    let there = subst (λ (x : CoreValue). c.args.worker < length x.book.claims) (sym c.self.view_is) c.requires in
    let free = may_here c.self.inside.machine c.self.inside.ahead c.self.inside.claims.items c.self.inside.journal.items c.self.inside.rollbacks c.args.worker c.index.result.now (c.goes_on.ensures c.self.inside.ahead old.book ∙ c.if-not-goes_on.false) (let l = c.len.ensures in let t = c.if-len-ge-MAX_STEPS_TO_CLAIM.false in omega (arith, l, t)) (let l = ap (λ (x : Limits). x.rollbacks) c.limits.ensures in let t = c.if-self-limits.false in omega (arith, l, t)) there (claim_here c.self.inside.machine c.self.inside.ahead c.self.inside.claims.items c.self.inside.journal.items c.self.inside.rollbacks c.args.worker c.index.result.now _ there c.index.ensures) (sym c.if-is_some.ensures) in
    let new = core_by c.self.inside.machine c.self.inside.ahead (slice_set c.self.inside.claims.items c.args.worker (Some c.in-Some.leaf)) c.book.new.journal.items c.self.inside.rollbacks in (
      leaves_seen old c.args.self.now new c.self.view_is (book.Claim c.args.worker) (claim_is c.self.inside.machine c.self.inside.ahead c.self.inside.claims.items c.self.inside.journal.items c.self.inside.rollbacks c.args.worker c.in-Some.leaf c.in-Some.plan c.book.new.journal.items free by (c.book.ensures.items ∙ ap (λ (js : List Step). js ++ step.Claim c.args.worker ∷ []) c.in_ok-reserve.ensures.items)) refl,
      (
        (c.in-Some.plan.time.0, c.in-Some.leaf.0),
        planned_seen c.self.inside.machine c.self.inside.ahead c.self.inside.claims.items c.self.inside.journal.items c.self.inside.rollbacks c.args.self.now c.self.view_is c.keeps_the_law.ensures.machine run c.keeps_the_law.ensures.replayed c.in-Some.leaf c.in-Some.plan by,
        next_seen c.self.inside.machine c.self.inside.ahead c.self.inside.claims.items c.self.inside.journal.items c.self.inside.rollbacks c.args.self.now c.self.view_is c.keeps_the_law.ensures.machine run c.keeps_the_law.ensures.replayed (c.goes_on.ensures c.self.inside.ahead old.book ∙ c.if-not-goes_on.false) c.in-Some.leaf c.in-Some.plan c.in_ok-claim.claim (found_below c.self.inside.machine c.self.inside.ahead c.self.inside.claims.items c.self.inside.journal.items c.self.inside.rollbacks c.in-Some.leaf c.in-Some.plan by) c.in_ok-claim.ensures.claim by.own c.in_ok-claim.ensures.fits,
      ),
    )
