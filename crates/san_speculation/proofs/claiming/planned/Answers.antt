use Rattle.std.proofs.Common.{ℕ, List, Option, Some, ap, arith, false, length, map, subst, sym, ◌<◌, ◌≡◌, ◌∙◌}
use Rattle.std.specs.Prelude.{slice_set}
use Rattle.san_base.specs.declared.numbers.LeafId.{LeafId}
use Rattle.san_plan.specs.Soonest.{is_key, wrong}
use Rattle.san_plan.proofs.Leasts.{least_key, same_is, wrong_set}
use Rattle.san_speculation.specs.Speculating.{claim_in}
use Rattle.san_speculation.specs.inner.Claiming.{PlannedBy, free_time}
use Rattle.san_speculation.specs.inner.Soonest.{AreLow}
use Rattle.san_speculation.proofs.Founds.{found, none_found, planned_found, set_low}
use Rattle.san_speculation.proofs.claiming.planned.Goals as goal

pub returns-in_default-clause-planned : goal.returns-in_default-clause-planned
returns-in_default-clause-planned c = record {
  least = sym (none_found c.args.machine.now c.args.ahead.now (map claim_in c.args.claims.now) c.leaves.soonest c.leaves.invariant c.requires.going (sym c.in_default.ensures));
  own = tt;
}

pub overflow_cast-leaf : goal.overflow_cast-leaf
overflow_cast-leaf c = let l = (least_key c.leaves.soonest c.in-Some.time c.in-Some.at (sym c.in-Some.ensures)).0 in omega (arith, l, c.leaves.invariant.long, c.requires.few)

pub free-plan-requires : goal.free-plan-requires
free-plan-requires c = c.requires.plannable c.in-Some.at (let l = (least_key c.leaves.soonest c.in-Some.time c.in-Some.at (sym c.in-Some.ensures)).0 in omega (arith, l, c.leaves.invariant.long))

pub returns-then-is_key-clause-planned : goal.returns-then-is_key-clause-planned
returns-then-is_key-clause-planned c =
    let m = c.args.machine.now in let a = c.args.ahead.now in let claims = map claim_in c.args.claims.now in
    let time = c.in-Some.time in let at = c.in-Some.at in
    let leaf : LeafId = record { 0 = at } in
    let within : at < length a.chains = let l = (least_key c.leaves.soonest time at (sym c.in-Some.ensures)).0 in omega (arith, l, c.leaves.invariant.long) in
    let is = sym (same_is (Some time) c.time_of-key.result (sym c.is_key.ensures ∙ c.if-is_key.true) ∙ c.time_of-key.ensures) in
    subst (PlannedBy m a claims) (sym c.with_leaf.ensures)
    (planned_found m a claims leaf time c.free-plan.result is c.free-plan.ensures.plan
    (found m a claims c.leaves.soonest c.leaves.invariant c.requires.going time at (sym c.in-Some.ensures) within (sym c.free-plan.ensures.time ∙ is)))

pub set-requires : goal.set-requires
set-requires c = record { at = (least_key c.leaves.soonest c.in-Some.time c.in-Some.at (sym c.in-Some.ensures)).0 }

pub leaves-smaller : goal.leaves-smaller
leaves-smaller c =
    let f = free_time c.args.machine.now c.args.ahead.now (map claim_in c.args.claims.now) in
    let keys = c.leaves.soonest in let at = c.in-Some.at in
    let there = least_key keys c.in-Some.time at (sym c.in-Some.ensures) in
    let is : c.time_of-key.result ≡ f at = c.time_of-key.ensures ∙ c.free-plan.ensures.time in
    let other : is_key (Some c.in-Some.time) c.time_of-key.result ≡ false = sym c.is_key.ensures ∙ c.if-is_key.false in
    subst (λ (ks : List (Option ℕ)). wrong f 0 ks < wrong f 0 keys) (sym (c.set.ensures ∙ ap (slice_set keys at) is))
    (wrong_set f 0 keys at at (omega arith) there.0
    (subst (λ (o : Option ℕ). is_key o (f at) ≡ false) (sym there.1) (subst (λ (o : Option ℕ). is_key (Some c.in-Some.time) o ≡ false) is other)))

pub leaves-preserved : goal.leaves-preserved
leaves-preserved c =
    let m = c.args.machine.now in let a = c.args.ahead.now in let claims = map claim_in c.args.claims.now in
    let within : c.in-Some.at < length a.chains = let l = (least_key c.leaves.soonest c.in-Some.time c.in-Some.at (sym c.in-Some.ensures)).0 in omega (arith, l, c.leaves.invariant.long) in
    subst (AreLow m a claims) (sym c.set.ensures)
    (set_low m a claims c.leaves.soonest c.leaves.invariant c.requires.going c.in-Some.at c.time_of-key.result (c.time_of-key.ensures ∙ c.free-plan.ensures.time) within)
