-- What is kept of a run of a small network.
use Rattle.std.proofs.Common.{ℕ, zero, suc, ◌+◌, ◌<◌, ◌≤◌, ◌≡◌, ◌∙◌, inl, inr, ap, sym, refl, subst, arith, List, [], ◌∷◌, length, Some, Result, Ok, Err}
use Rattle.san_base.specs.Draws.{pick}
use Rattle.san_law.specs.Activity.{Effected, activity_of, no_activity}
use Rattle.san_law.specs.Net.{Row}
use Rattle.san_law.specs.Network.{part_at}
use Rattle.san_law.specs.Next.{Completes, Next, Stable, next_instant}
use Rattle.san_law.specs.Core.{put}
use Rattle.san_law.specs.Order.{is_in, places_of}
use Rattle.san_law.specs.State.{index_of, scatter}
use Rattle.san_base.specs.declared.ending.Trap.{Trap}
use Rattle.san_legal.proofs.StepLemmas.{same_all}
use Rattle.san_legal.specs.Examples.{after_steady, at_opening, both_run, race, racing, set_at_opening, slow, slow_late, steady, steady_first, ten_ticks, two_draws_taken}
use Rattle.san_legal.specs.Free.{IsFree, IsFreeNetwork}
use Rattle.san_legal.specs.Kept.{HasOne, HaveSome, IsLater, KeptState}
use Rattle.san_legal.specs.KeptSteps.{kept_completed, kept_fired, kept_opening, kept_renewed}
use Rattle.san_legal.specs.Laws.{IsKept}
use Rattle.san_legal.specs.Legal.{InstantMayCome, RenewsTo, TimedMayCome, MayCome, MayFire, due_in}

-- the rows that the renewal at the opening gives where all draws are 0
abbrev opening_rows : List Row
opening_rows = two_draws_taken ∷ []

pub opening_computed : kept_opening race ≡ at_opening
opening_computed = refl

pub renewal_computed : kept_renewed race at_opening opening_rows ≡ both_run ∷ []
renewal_computed = refl

pub completion_computed : kept_completed race (kept_fired at_opening (both_run ∷ []) (due_in steady_first)) 0 0 1 (1 ∷ 0 ∷ []) ≡ after_steady
unfolding scatter
completion_computed = refl

opening_renewed : RenewsTo racing ten_ticks at_opening opening_rows
unfolding next_instant
opening_renewed = record { next = refl; renewed = refl }

-- the slow one may be later than 3
slow_after : HaveSome racing (due_in steady_first) (kept_fired at_opening (both_run ∷ []) (due_in steady_first)).rows
slow_after zero zero = (4, record { ticks = 4; given = (12297829382473034411, omega arith, refl); is = refl; later = inl (omega arith) })
slow_after zero (suc zero) = tt
slow_after zero (suc (suc i)) = tt
slow_after (suc j) i = tt

steady_fires : MayFire racing ten_ticks at_opening opening_rows (due_in steady_first)
steady_fires = record {
  renewed = opening_renewed;
  timer = set_at_opening;
  runs = refl;
  due = record { ticks = 3; given = (0, omega arith, refl); is = refl; later = inl (omega arith) };
  others = slow_after;
  within = omega arith;
}

-- what its completion does
abbrev taken : Effected
taken = record { case = 0; values = put ((1, 0) ∷ []) (1 ∷ 1 ∷ []); sets = λ p. is_in (index_of p (places_of ((1, 0) ∷ []))) }

pub steady_comes : TimedMayCome racing ten_ticks at_opening steady_first after_steady
unfolding scatter
steady_comes = record {
  rows = opening_rows;
  fires = steady_fires;
  limit = refl;
  effect = taken;
  done = record { draw = 0; word = omega arith; is = refl };
  event = refl;
  left = refl;
}

pub steady_may_be_first : IsKept racing ten_ticks (steady_first ∷ []) after_steady
steady_may_be_first = (after_steady, inr steady_comes, refl)

-- ---- the slow one at 4 can't come first

not_instant : (k : KeptState) → InstantMayCome racing ten_ticks at_opening slow_late k → ⊥
not_instant k is = stable (sym opening_renewed.next ∙ is.next)
  where
    stable : (let w : Next = Stable in w) ≡ Completes 0 0 → ⊥
    stable e = cc

three : (ticks : ℕ) → (let r : Result ℕ Trap = Ok 3 in r) ≡ Ok ticks → ticks ≡ 3
three ticks e = cc

not_later : HasOne (due_in slow_late) 0 1 (activity_of (part_at racing 0) 1).kind (Some set_at_opening) → ⊥
not_later has = by_order (three has.1.ticks has.1.given.2) has.1.is has.1.later
  where
    by_order : has.1.ticks ≡ 3 → has.0 ≡ 0 + has.1.ticks → IsLater (due_in slow_late) 0 1 has.0 → ⊥
    by_order t d (inl h) = absurd (omega (arith, t, d, h))
    by_order t d (inr h) = absurd (omega (arith, t, d, h.0))

not_timed : (k : KeptState) → TimedMayCome racing ten_ticks at_opening slow_late k → ⊥
not_timed k is =
    let rows : is.rows ≡ opening_rows = same_all is.rows opening_rows (sym is.fires.renewed.renewed ∙ opening_renewed.renewed) in
    not_later (subst (λ (rs : List Row). HaveSome racing (due_in slow_late) (kept_fired at_opening (kept_renewed race at_opening rs) (due_in slow_late)).rows) rows is.fires.others 0 1)

not_coming : (k : KeptState) → MayCome racing ten_ticks at_opening slow_late k → ⊥
not_coming k (inl is) = not_instant k is
not_coming k (inr is) = not_timed k is

pub slow_cannot_be_first : (k : KeptState) → IsKept racing ten_ticks (slow_late ∷ []) k → ⊥
slow_cannot_be_first k is = not_coming is.0 is.1

-- ---- its draws are free

same_values : (r : Result Effected Trap) (e f : Effected) → r ≡ Ok e → r ≡ Ok f → e.values ≡ f.values
same_values r e f he hf = ap (λ (x : Effected). x.values) (same (sym he ∙ hf))
  where
    same : (let y : Result Effected Trap = Ok e in y) ≡ Ok f → e ≡ f
    same h = cc

pub same_ticks : (a b : ℕ) → (let r : Result ℕ Trap = Ok a in r) ≡ Ok b → a ≡ b
same_ticks a b e = cc

pub no_trap : (a : ℕ) (t : Trap) → (let r : Result ℕ Trap = Ok a in r) ≡ Err t → ⊥
no_trap a t e = cc

at_least_two : (n ticks : ℕ) → 2 + n ≡ ticks → 1 ≤ ticks
at_least_two n ticks e = omega (arith, e)

pub slow_free : IsFree slow
slow_free = record {
  delays = record {
    some = λ u ticks v h e. at_least_two (pick u 3) ticks (same_ticks (2 + pick u 3) ticks e);
    traps = λ u w v t hu hw e. absurd (no_trap (2 + pick u 3) t e);
  };
  cases = λ u w v e f he hf case. same_values (slow.complete u v) e f he hf;
}

steady_free : IsFree steady
steady_free = record {
  delays = record {
    some = λ u ticks v h e. at_least_two 1 ticks (same_ticks 3 ticks e);
    traps = λ u w v t hu hw e. absurd (no_trap 3 t e);
  };
  cases = λ u w v e f he hf case. same_values (steady.complete u v) e f he hf;
}

none_free : IsFree no_activity
none_free = record { delays = tt; cases = λ u w v e f he hf case. same_values (no_activity.complete u v) e f he hf }

each_free : (j i : ℕ) → IsFree (activity_of (part_at racing j) i)
each_free zero zero = slow_free
each_free zero (suc zero) = steady_free
each_free zero (suc (suc i)) = none_free
each_free (suc j) i = none_free

only_leaf : (j k : ℕ) → k < length (part_at racing j).activities → 0 ≡ j
only_leaf zero k h = refl
only_leaf (suc j) k h = absurd (omega (arith, h))

its_act : (j k : ℕ) → k < length (part_at racing j).activities → (part_at racing j).first + k ≡ k
its_act zero k h = omega arith
its_act (suc j) k h = absurd (omega (arith, h))

pub racing_free : IsFreeNetwork racing
racing_free = record { each = each_free; apart = record { leaf_of = λ a. 0; act_of = λ a. a; leaf = only_leaf; act = its_act } }
