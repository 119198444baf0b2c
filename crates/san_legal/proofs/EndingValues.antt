-- Endings of small networks.
use Rattle.std.proofs.Common.{ℕ, zero, suc, ◌+◌, ◌<◌, ◌≤◌, ◌≡◌, ◌∙◌, inl, inr, ap, sym, refl, subst, arith, List, [], ◌∷◌, Some, None, Option, false, Result, Ok}
use Rattle.san_base.specs.declared.ending.Trap.{Trap}
use Rattle.san_base.specs.declared.ending.Trap.TheVariants as trap
use Rattle.san_law.specs.Activity.{Effected, activity_of}
use Rattle.san_law.specs.Core.{put}
use Rattle.san_law.specs.Examples.{event_at, overflowing, spinning}
use Rattle.san_law.specs.Net.{Row}
use Rattle.san_law.specs.Network.{Limits, part_at}
use Rattle.san_law.specs.Next.{next_instant}
use Rattle.san_law.specs.Order.{is_in, places_of}
use Rattle.san_law.specs.Renewal.{Due}
use Rattle.san_law.specs.State.{index_of, scatter}
use Rattle.san_law.specs.Step.{End, Events, Trapped, Unstable}
use Rattle.san_legal.proofs.StepLemmas.{same_all}
use Rattle.san_legal.specs.EndingExamples.{alone, delayless, doubtful, opened, risky, spun, within}
use Rattle.san_legal.specs.Endings.{HasAfter, MayEnd}
use Rattle.san_legal.specs.Examples.{at_opening, both_run, late_draw, race, racing, set_at_opening, two_draws_taken}
use Rattle.san_legal.specs.Kept.{HasOne, HaveSome, IsLater, KeptTimer, MayBeDue, bound_of, kept_at, timer_of}
use Rattle.san_legal.specs.KeptSteps.{kept_fired, kept_renewed, undrawn}
use Rattle.san_legal.specs.Laws.{IsKept}
use Rattle.san_legal.specs.Legal.{InstantMayCome, MayFire, RenewsTo}

abbrev opening_rows : List Row
opening_rows = two_draws_taken ∷ []

renewed : (limits : Limits) → RenewsTo racing limits at_opening opening_rows
unfolding next_instant
renewed limits = record { next = refl; renewed = refl }

-- ---- at the horizon

both_wait : (j i : ℕ) → HasAfter 2 (bound_of at_opening) j i (activity_of (part_at racing j) i).kind (timer_of (kept_at (kept_renewed race at_opening opening_rows) j) i)
both_wait zero zero = (4, record { ticks = 4; given = (late_draw, omega arith, refl); is = refl; later = inl (omega arith) }, omega arith)
both_wait zero (suc zero) = (3, record { ticks = 3; given = (0, omega arith, refl); is = refl; later = inl (omega arith) }, omega arith)
both_wait zero (suc (suc i)) = tt
both_wait (suc j) i = tt

pub ends_at_two : MayEnd racing (within 2 5 20) at_opening 2 End
ends_at_two = (refl, record { rows = opening_rows; renewed = renewed (within 2 5 20); each = both_wait })

three : (ticks : ℕ) → (let r : Result ℕ Trap = Ok 3 in r) ≡ Ok ticks → ticks ≡ 3
three ticks e = cc

steady_waits : HasAfter 3 (bound_of at_opening) 0 1 (activity_of (part_at racing 0) 1).kind (Some set_at_opening) → ⊥
steady_waits has = by_ticks (three has.1.ticks has.1.given.2) has.1.is has.2
  where
    by_ticks : has.1.ticks ≡ 3 → has.0 ≡ 0 + has.1.ticks → 3 < has.0 → ⊥
    by_ticks t d h = absurd (omega (arith, t, d, h))

pub not_at_three : MayEnd racing (within 3 5 20) at_opening 3 End → ⊥
not_at_three ends =
    let rows : ends.1.rows ≡ opening_rows = same_all ends.1.rows opening_rows (sym ends.1.renewed.renewed ∙ (renewed (within 3 5 20)).renewed) in
    steady_waits (subst (λ (rs : List Row). HasAfter 3 (bound_of at_opening) 0 1 (activity_of (part_at racing 0) 1).kind (timer_of (kept_at (kept_renewed race at_opening rs) 0) 1)) rows (ends.1.each 0 1))

-- ---- the limit of events at a timer

abbrev slow_at : ℕ → Due
slow_at time = record { time = time; leaf = 0; act = 0 }

steady_after : HaveSome racing (slow_at 2) (kept_fired at_opening (both_run ∷ []) (slow_at 2)).rows
steady_after zero zero = tt
steady_after zero (suc zero) = (3, record { ticks = 3; given = (0, omega arith, refl); is = refl; later = inl (omega arith) })
steady_after zero (suc (suc i)) = tt
steady_after (suc j) i = tt

pub over_at_two : MayEnd racing (within 10 5 0) at_opening 2 Events
over_at_two = inr (record {
  rows = opening_rows;
  due = slow_at 2;
  fires = record {
    renewed = renewed (within 10 5 0);
    timer = set_at_opening;
    runs = refl;
    due = record { ticks = 2; given = (0, omega arith, refl); is = refl; later = inl (omega arith) };
    others = steady_after;
    within = omega arith;
  };
  at = refl;
  limit = refl;
})

-- ---- instantaneous activities

abbrev spin_effect : Effected
spin_effect = record { case = 0; values = put ((0, 1) ∷ []) (1 ∷ []); sets = λ p. is_in (index_of p (places_of ((0, 1) ∷ []))) }

spins : InstantMayCome spinning (within 4 1 20) (opened spinning (within 4 1 20)) (event_at 0 0 0) spun
unfolding next_instant scatter
spins = record { next = refl; limit = refl; effect = spin_effect; done = record { draw = 0; word = omega arith; is = refl }; event = refl; left = refl }

pub spun_once : IsKept spinning (within 4 1 20) (event_at 0 0 0 ∷ []) spun
spun_once = (spun, inl spins, refl)

pub spinning_unstable : MayEnd spinning (within 4 1 20) spun 0 Unstable
unfolding next_instant
spinning_unstable = (refl, record { leaf = 0; act = 0; next = refl; limit = refl })

pub spinning_over : MayEnd spinning (within 4 5 1) spun 0 Events
unfolding next_instant
spinning_over = inl (refl, record { leaf = 0; act = 0; next = refl; limit = refl })

-- ---- traps

pub doubtful_traps : (let limits = within 4 5 20 in MayEnd (alone doubtful) limits (opened (alone doubtful) limits) 0 (Trapped 0 0 trap.Arith))
unfolding next_instant
doubtful_traps = inl (refl, inl refl)

pub delayless_traps : (let limits = within 4 5 20 in MayEnd (alone delayless) limits (opened (alone delayless) limits) 0 (Trapped 0 0 trap.Delay))
unfolding next_instant
delayless_traps = inl (refl, inr (inl (record { next = refl; renewed = refl })))

pub risky_traps : (let limits = within 4 5 20 in MayEnd (alone risky) limits (opened (alone risky) limits) 0 (Trapped 0 0 trap.Marking))
unfolding next_instant
risky_traps = inl (refl, inr (inr (record { next = refl; limit = refl; traps = record { draw = 0; word = omega arith; is = refl } })))

abbrev overflow_rows : List Row
overflow_rows = record { timers = Some (record { due = 1; held = false }) ∷ []; delays = 1 ∷ []; cases = 0 ∷ [] } ∷ []

overflow_renewed : (let limits = within 4 5 20 in RenewsTo overflowing limits (opened overflowing limits) overflow_rows)
unfolding next_instant
overflow_renewed = record { next = refl; renewed = refl }

abbrev overflow_due : Due
overflow_due = record { time = 1; leaf = 0; act = 0 }

none_left : (let limits = within 4 5 20 in HaveSome overflowing overflow_due (kept_fired (opened overflowing limits) (kept_renewed (undrawn overflowing limits) (opened overflowing limits) overflow_rows) overflow_due).rows)
none_left zero zero = tt
none_left zero (suc i) = tt
none_left (suc j) i = tt

pub overflowing_traps : (let limits = within 4 5 20 in MayEnd overflowing limits (opened overflowing limits) 1 (Trapped 0 0 trap.Marking))
overflowing_traps = inr (record {
  rows = overflow_rows;
  fires = record {
    renewed = overflow_renewed;
    timer = record { since = 0; values = []; held = false };
    runs = refl;
    due = record { ticks = 1; given = (0, omega arith, refl); is = refl; later = inl (omega arith) };
    others = none_left;
    within = omega arith;
  };
  limit = refl;
  traps = record { draw = 0; word = omega arith; is = refl };
})

-- ---- at 4 no timer is the first

abbrev over : Limits
over = within 10 5 0

same_timer : (x y : KeptTimer) → (let o : Option KeptTimer = Some x in o) ≡ Some y → x ≡ y
same_timer x y e = cc

no_timer : (x : KeptTimer) → (let o : Option KeptTimer = None in o) ≡ Some x → ⊥
no_timer x e = cc

abbrev due_at : ℕ → ℕ → ℕ → Due
due_at time leaf act = record { time = time; leaf = leaf; act = act }

steady_is_three : (b : Due) (x : KeptTimer) (due : ℕ) → set_at_opening ≡ x → MayBeDue b 0 1 (activity_of (part_at racing 0) 1).kind x due → due ≡ 3
steady_is_three b x due e may = omega (arith, may.is, three may.ticks may.given.2, ap (λ (t : KeptTimer). t.since) e)

steady_later : (time : ℕ) → HasOne (due_at time 0 0) 0 1 (activity_of (part_at racing 0) 1).kind (Some set_at_opening) → time ≤ 3
steady_later time has = by_order has.1.later
  where
    is : has.0 ≡ 3
    is = steady_is_three (due_at time 0 0) set_at_opening has.0 refl has.1

    by_order : IsLater (due_at time 0 0) 0 1 has.0 → time ≤ 3
    by_order (inl h) = omega (arith, h, is)
    by_order (inr h) = omega (arith, h.0, is)

not_first : (time leaf act : ℕ) → MayFire racing over at_opening opening_rows (due_at time leaf act) → time ≤ 3
not_first time zero zero fires = steady_later time (fires.others 0 1)
not_first time zero (suc zero) fires = let is = steady_is_three (bound_of at_opening) fires.timer time (same_timer set_at_opening fires.timer fires.runs) fires.due in omega (arith, is)
not_first time zero (suc (suc act)) fires = absurd (no_timer fires.timer fires.runs)
not_first time (suc leaf) act fires = absurd (no_timer fires.timer fires.runs)

pub not_over_at_four : MayEnd racing over at_opening 4 Events → ⊥
not_over_at_four (inl is) = absurd (omega (arith, is.0))
not_over_at_four (inr is) =
    let rows : is.rows ≡ opening_rows = same_all is.rows opening_rows (sym is.fires.renewed.renewed ∙ (renewed over).renewed) in
    let early : is.due.time ≤ 3 = not_first is.due.time is.due.leaf is.due.act (subst (λ (rs : List Row). MayFire racing over at_opening rs is.due) rows is.fires) in
    omega (arith, early, is.at)
