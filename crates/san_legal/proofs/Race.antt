-- A whole run of a small network is legal.
use Rattle.std.proofs.Common.{ℕ, zero, suc, ◌<◌, ◌≤◌, ◌≡◌, inl, inr, refl, arith, List, [], ◌∷◌, Some, None, false}
use Rattle.std.specs.Prelude.{slice_index}
use Rattle.san_law.specs.Activity.{Effected, activity_of}
use Rattle.san_law.specs.Core.{put}
use Rattle.san_law.specs.Net.{Row}
use Rattle.san_law.specs.Network.{part_at}
use Rattle.san_law.specs.Next.{next_instant}
use Rattle.san_law.specs.Order.{is_in, places_of}
use Rattle.san_law.specs.State.{index_of, scatter}
use Rattle.san_legal.specs.Draws.{AgreeOn}
use Rattle.san_legal.specs.Endings.{HasAfter, MayWait}
use Rattle.san_legal.specs.Examples.{after_both, after_steady, no_draw_taken, race, racing, set_at_opening, slow_late, steady_then_slow, ten_ticks, two_draws_taken}
use Rattle.san_legal.specs.Kept.{HaveSome, bound_of, kept_at, timer_of}
use Rattle.san_legal.specs.KeptSteps.{kept_fired, kept_renewed}
use Rattle.san_legal.specs.Laws.{IsKept, IsLegal}
use Rattle.san_legal.specs.Legal.{RenewsTo, TimedMayCome, MayFire, due_in}
use Rattle.san_legal.proofs.Computed.{steady_comes}

-- the renewal after the steady one's completion takes no draw
abbrev later_rows : List Row
later_rows = record { timers = Some (record { due = 0; held = false }) ∷ None ∷ []; delays = 1 ∷ 1 ∷ []; cases = 0 ∷ 1 ∷ [] } ∷ []

later_renewed : RenewsTo racing ten_ticks after_steady later_rows
unfolding next_instant
later_renewed = record { next = refl; renewed = refl }

none_after : HaveSome racing (due_in slow_late) (kept_fired after_steady (kept_renewed race after_steady later_rows) (due_in slow_late)).rows
none_after zero zero = tt
none_after zero (suc zero) = tt
none_after zero (suc (suc i)) = tt
none_after (suc j) i = tt

slow_fires : MayFire racing ten_ticks after_steady later_rows (due_in slow_late)
slow_fires = record {
  renewed = later_renewed;
  timer = set_at_opening;
  runs = refl;
  due = record { ticks = 4; given = (12297829382473034411, omega arith, refl); is = refl; later = inl (omega arith) };
  others = none_after;
  within = omega arith;
}

-- what its completion does
abbrev taken : Effected
taken = record { case = 0; values = put ((0, 0) ∷ []) (1 ∷ 0 ∷ []); sets = λ p. is_in (index_of p (places_of ((0, 0) ∷ []))) }

slow_comes : TimedMayCome racing ten_ticks after_steady slow_late after_both
unfolding scatter
slow_comes = record {
  rows = later_rows;
  fires = slow_fires;
  limit = refl;
  effect = taken;
  done = record { draw = 0; word = omega arith; is = refl };
  event = refl;
  left = refl;
}

abbrev last_rows : List Row
last_rows = record { timers = None ∷ None ∷ []; delays = 1 ∷ 1 ∷ []; cases = 1 ∷ 1 ∷ [] } ∷ []

last_renewed : RenewsTo racing ten_ticks after_both last_rows
unfolding next_instant
last_renewed = record { next = refl; renewed = refl }

none_waits : (j i : ℕ) → HasAfter 10 (bound_of after_both) j i (activity_of (part_at racing j) i).kind (timer_of (kept_at (kept_renewed race after_both last_rows) j) i)
none_waits zero zero = tt
none_waits zero (suc zero) = tt
none_waits zero (suc (suc i)) = tt
none_waits (suc j) i = tt

all_wait : MayWait racing ten_ticks after_both
all_wait = record { rows = last_rows; renewed = last_renewed; each = none_waits }

pub both_come : IsKept racing ten_ticks steady_then_slow.events after_both
both_come = (after_steady, inr steady_comes, (after_both, inr slow_comes, refl))

pub race_is_legal : IsLegal racing ten_ticks steady_then_slow
race_is_legal = record { kept = after_both; events = both_come; ending = (refl, all_wait) }

-- ---- draws that agree where they were taken

one_taken : (k n : ℕ) → slice_index (0 ∷ 0 ∷ []) k ≤ n → n < slice_index (1 ∷ 1 ∷ []) k → 0 ≡ n
one_taken zero n h l = omega (arith, l)
one_taken (suc zero) n h l = omega (arith, l)
one_taken (suc (suc k)) n h l = absurd (omega (arith, l))

none_taken : (k n : ℕ) → slice_index (0 ∷ 0 ∷ []) k ≤ n → n < slice_index (0 ∷ 0 ∷ []) k → 0 ≡ n
none_taken k n h l = absurd (omega (arith, h, l))

pub draws_agree : AgreeOn (λ stream number. 0) (λ stream number. number) (part_at racing 0) no_draw_taken two_draws_taken
draws_agree = record { delays = one_taken; cases = none_taken }
