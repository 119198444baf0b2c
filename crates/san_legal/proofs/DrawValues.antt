-- Draws of a small race, and runs with them.
use Rattle.std.proofs.Common.{ℕ, zero, suc, ◌+◌, ◌^◌, ◌<◌, ◌≡◌, refl, arith, [], ◌∷◌}
use Rattle.std.specs.Prelude.{slice_index}
use Rattle.san_law.specs.Net.{least_timer, no_row, without_timer}
use Rattle.san_law.specs.Network.{part_at}
use Rattle.san_law.specs.Next.{next_instant}
use Rattle.san_law.specs.State.{opening_state, scatter}
use Rattle.san_law.specs.Step.{End, Happened, Over, step}
use Rattle.san_law.specs.Trajectory.{Trajectory}
use Rattle.san_legal.proofs.Race.{draws_agree}
use Rattle.san_legal.specs.Draws.{AgreeNext, AgreeOn, AgreeTaken, AreDraws}
use Rattle.san_legal.specs.Examples.{at_opening, both_done, late_draw, no_draw_taken, race, racing, slow_late, steady_done, steady_first, steady_then_slow, ten_ticks, two_draws_taken}
use Rattle.san_legal.specs.FreeRuns.{FreeRuns, IsFreeStep, IsOfDraws}
use Rattle.san_legal.specs.Kept.{with_rows}
use Rattle.san_legal.specs.Laws.{BeginsRun, IsReached, IsTrajectory}
use Rattle.san_legal.specs.Locality.{IsSized, IsSizedRow}

-- each draw 0, and each its number
abbrev zeros : ℕ → ℕ → ℕ
zeros stream number = 0

abbrev numbers : ℕ → ℕ → ℕ
numbers stream number = number

abbrev late_draws : ℕ → ℕ → ℕ
late_draws stream number = late_draw

pub late_words : AreDraws (λ stream number. late_draw)
late_words stream number = omega arith

zero_words : AreDraws zeros
zero_words stream number = omega arith

pub too_great : AreDraws (λ stream number. 2 ^ 64) → ⊥
too_great words = let below : 2 ^ 64 < 2 ^ 64 = words 0 0 in absurd (omega (arith, below))

-- ---- where they agree

nothing_taken : (j : ℕ) → AgreeOn zeros numbers (part_at racing (suc j)) no_row no_row
nothing_taken j = record { delays = λ k n from to. absurd (omega (arith, from, to)); cases = λ k n from to. absurd (omega (arith, from, to)) }

pub rows_agree : AgreeTaken racing (λ stream number. 0) (λ stream number. number) (opening_state race) (with_rows at_opening (two_draws_taken ∷ []))
rows_agree zero = draws_agree
rows_agree (suc j) = nothing_taken j

pub one_more : AgreeOn (λ stream number. 0) (λ stream number. number + 1) (part_at racing 0) no_draw_taken two_draws_taken → ⊥
one_more agree = let same : 0 ≡ 0 + 1 = agree.delays 0 0 (omega arith) (omega arith) in absurd (omega (arith, same))

next_delay : (k : ℕ) → k < 2 → 0 ≡ slice_index no_draw_taken.delays k
next_delay zero h = refl
next_delay (suc zero) h = refl
next_delay (suc (suc k)) h = absurd (omega (arith, h))

next_case : (k : ℕ) → k < 2 → 0 ≡ slice_index no_draw_taken.cases k
next_case zero h = refl
next_case (suc zero) h = refl
next_case (suc (suc k)) h = absurd (omega (arith, h))

pub next_agree : AgreeNext (λ stream number. 0) (λ stream number. number) (part_at racing 0) no_draw_taken
next_agree = record { delays = next_delay; cases = next_case }

pub next_differ : AgreeNext (λ stream number. 0) (λ stream number. number) (part_at racing 0) two_draws_taken → ⊥
next_differ agree = let same : 0 ≡ 1 = agree.delays 0 (omega arith) in absurd (omega (arith, same))

pub opening_sized : IsSized racing (opening_state race)
opening_sized zero = record { timers = refl; delays = refl; cases = refl }
opening_sized (suc j) = record { timers = refl; delays = refl; cases = refl }

pub not_sized : IsSizedRow (part_at racing 0) no_row → ⊥
not_sized sized = let same : 0 ≡ 2 = sized.timers in absurd (omega (arith, same))

-- ---- runs

pub step_with_draws : IsFreeStep racing ten_ticks (opening_state race) (Happened steady_first, steady_done 4)
unfolding step next_instant scatter least_timer without_timer
step_with_draws = record { draw = late_draws; words = late_words; is = refl }

slow_step : IsFreeStep racing ten_ticks (steady_done 4) (Happened slow_late, both_done)
unfolding step next_instant scatter least_timer without_timer
slow_step = record { draw = zeros; words = zero_words; is = refl }

pub race_by_steps : FreeRuns racing ten_ticks (opening_state race) (steady_first ∷ slow_late ∷ []) both_done
race_by_steps = (steady_done 4, step_with_draws, (both_done, slow_step, refl))

pub race_of_draws : IsOfDraws racing ten_ticks (opening_state race) (steady_first ∷ slow_late ∷ []) both_done (Over 10 End, both_done)
unfolding step next_instant scatter least_timer without_timer
race_of_draws = record { draw = late_draws; words = late_words; runs = (refl, (refl, refl)); next = refl }

pub steady_reached : IsReached racing ten_ticks (steady_first ∷ []) (steady_done 4)
unfolding step next_instant scatter least_timer without_timer
steady_reached = record { draw = late_draws; words = late_words; runs = (refl, refl) }

pub race_is_trajectory : IsTrajectory racing ten_ticks steady_then_slow
unfolding step next_instant scatter least_timer without_timer
race_is_trajectory = record { draw = late_draws; words = late_words; is = refl }

-- what comes after the steady one
abbrev then_slow : Trajectory
then_slow = record { events = slow_late ∷ []; time = 10; ending = End }

pub race_begins : BeginsRun racing ten_ticks (steady_first ∷ [])
unfolding step next_instant scatter least_timer without_timer
race_begins = record { draw = late_draws; words = late_words; rest = then_slow; is = refl }
