-- What is kept of a small race, and states that agree with it.
use Rattle.std.proofs.Common.{ℕ, zero, suc, ◌+◌, ◌≤◌, ◌≡◌, inl, inr, refl, arith, Bool, List, [], ◌∷◌, Some, None, true, false, Result, Ok}
use Rattle.std.specs.Prelude.{slice_index_or}
use Rattle.san_base.specs.Draws.{pick}
use Rattle.san_base.specs.declared.ending.Trap.{Trap}
use Rattle.san_law.specs.Activity.{ActKind, Instant, activity_of}
use Rattle.san_law.specs.Net.{no_row}
use Rattle.san_law.specs.Network.{part_at}
use Rattle.san_law.specs.Renewal.{Due}
use Rattle.san_law.specs.State.{opening_state}
use Rattle.san_legal.proofs.DelayLemmas.{pick_below}
use Rattle.san_legal.specs.Examples.{after_both, after_steady, at_opening, both_done, late_draw, race, racing, set_at_opening, slow, steady, steady_done}
use Rattle.san_legal.specs.Kept.{GivesDelay, HasOne, HaveSome, IsLater, IsOne, MayBeDue, RowAgrees, StateAgrees, bound_of, kept_at, no_kept}

same_ticks : (a b : ℕ) → (let r : Result ℕ Trap = Ok a in r) ≡ Ok b → a ≡ b
same_ticks a b e = cc

-- ---- the slow timer

at_most_four : (v : List ℕ) (ticks : ℕ) → GivesDelay slow.kind v ticks → ticks ≤ 4
at_most_four v ticks given =
    let is : 2 + pick given.0 3 ≡ ticks = same_ticks (2 + pick given.0 3) ticks given.2 in
    let below = pick_below given.0 3 given.1 (omega arith) in
    omega (arith, is, below)

pub slow_gives_four : GivesDelay slow.kind [] 4
slow_gives_four = (late_draw, omega arith, refl)

pub not_five : GivesDelay slow.kind [] 5 → ⊥
not_five given = let most = at_most_four [] 5 given in absurd (omega (arith, most))

pub no_instant : GivesDelay (Instant 0) [] 1 → ⊥
no_instant given = given

pub not_later_at_three : IsLater (bound_of after_steady) 0 0 3 → ⊥
not_later_at_three (inl h) = absurd (omega (arith, h))
not_later_at_three (inr (e, inl h)) = absurd (omega (arith, h))
not_later_at_three (inr (e, inr h)) = absurd (omega (arith, h.1))

pub due_at_four : MayBeDue (bound_of after_steady) 0 0 slow.kind set_at_opening 4
due_at_four = record { ticks = 4; given = (late_draw, omega arith, refl); is = refl; later = inl (omega arith) }

pub not_due_at_three : MayBeDue (bound_of after_steady) 0 0 slow.kind set_at_opening 3 → ⊥
not_due_at_three may = not_later_at_three may.later

not_due_at_five : MayBeDue (bound_of after_steady) 0 0 slow.kind set_at_opening 5 → ⊥
not_due_at_five may = let most = at_most_four (1 ∷ 1 ∷ []) may.ticks may.given in absurd (omega (arith, most, may.is))

pub one_at_four : IsOne (bound_of after_steady) 0 0 slow.kind (Some set_at_opening) (Some (record { due = 4; held = false }))
one_at_four = (refl, due_at_four)

not_both : (let b : Bool = true in b) ≡ false → ⊥
not_both e = cc

pub not_held_then : IsOne (bound_of after_steady) 0 0 slow.kind (Some set_at_opening) (Some (record { due = 4; held = true })) → ⊥
not_held_then is = not_both is.0

pub slow_has_one : HaveSome racing (bound_of after_steady) after_steady.rows
slow_has_one zero zero = (4, due_at_four)
slow_has_one zero (suc zero) = tt
slow_has_one zero (suc (suc i)) = tt
slow_has_one (suc j) i = tt

pub steady_has_none : HasOne (bound_of after_both) 0 1 steady.kind (Some set_at_opening) → ⊥
steady_has_none has = by_order (same_ticks 3 has.1.ticks has.1.given.2) has.1.is has.1.later
  where
    by_order : 3 ≡ has.1.ticks → has.0 ≡ 0 + has.1.ticks → IsLater (bound_of after_both) 0 1 has.0 → ⊥
    by_order t d (inl h) = absurd (omega (arith, t, d, h))
    by_order t d (inr h) = absurd (omega (arith, t, d, h.0))

-- ---- states

none_run : (b : Due) (j i : ℕ) (kind : ActKind) → IsOne b j i kind (slice_index_or (None ∷ None ∷ []) i None) (slice_index_or (None ∷ None ∷ []) i None)
none_run b j zero kind = tt
none_run b j (suc zero) kind = tt
none_run b j (suc (suc i)) kind = tt

nothing_runs : (b : Due) (j i : ℕ) (kind : ActKind) → IsOne b j i kind (slice_index_or [] i None) (slice_index_or [] i None)
nothing_runs b j zero kind = tt
nothing_runs b j (suc i) kind = tt

-- a leaf that is not there
beyond : (b : Due) (j : ℕ) → RowAgrees b (suc j) (part_at racing (suc j)) no_kept no_row
beyond b j = record { long = refl; timers = λ i. nothing_runs b (suc j) i (activity_of (part_at racing (suc j)) i).kind; delays = refl; cases = refl }

opening_rows_agree : (j : ℕ) → RowAgrees (bound_of at_opening) j (part_at racing j) (kept_at at_opening.rows j) (slice_index_or (opening_state race).rows j no_row)
opening_rows_agree zero = record { long = refl; timers = λ i. none_run (bound_of at_opening) 0 i (activity_of (part_at racing 0) i).kind; delays = refl; cases = refl }
opening_rows_agree (suc j) = beyond (bound_of at_opening) j

pub opening_agrees : StateAgrees racing at_opening (opening_state race)
opening_agrees = record { same = refl; rows = record { long = refl; each = opening_rows_agree } }

slow_runs : (i : ℕ) → IsOne (bound_of after_steady) 0 i (activity_of (part_at racing 0) i).kind (slice_index_or (Some set_at_opening ∷ None ∷ []) i None) (slice_index_or (Some (record { due = 4; held = false }) ∷ None ∷ []) i None)
slow_runs zero = one_at_four
slow_runs (suc zero) = tt
slow_runs (suc (suc i)) = tt

steady_rows_agree : (j : ℕ) → RowAgrees (bound_of after_steady) j (part_at racing j) (kept_at after_steady.rows j) (slice_index_or (steady_done 4).rows j no_row)
steady_rows_agree zero = record { long = refl; timers = slow_runs; delays = refl; cases = refl }
steady_rows_agree (suc j) = beyond (bound_of after_steady) j

pub steady_agrees : StateAgrees racing after_steady (steady_done 4)
steady_agrees = record { same = refl; rows = record { long = refl; each = steady_rows_agree } }

both_rows_agree : (j : ℕ) → RowAgrees (bound_of after_both) j (part_at racing j) (kept_at after_both.rows j) (slice_index_or both_done.rows j no_row)
both_rows_agree zero = record { long = refl; timers = λ i. none_run (bound_of after_both) 0 i (activity_of (part_at racing 0) i).kind; delays = refl; cases = refl }
both_rows_agree (suc j) = beyond (bound_of after_both) j

pub both_agree : StateAgrees racing after_both both_done
both_agree = record { same = refl; rows = record { long = refl; each = both_rows_agree } }

pub not_agreeing_at_three : StateAgrees racing after_steady (steady_done 3) → ⊥
not_agreeing_at_three is = not_due_at_three ((is.rows.each 0).timers 0).1

pub not_agreeing_at_five : StateAgrees racing after_steady (steady_done 5) → ⊥
not_agreeing_at_five is = not_due_at_five ((is.rows.each 0).timers 0).1
