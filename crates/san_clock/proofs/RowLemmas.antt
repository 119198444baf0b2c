-- A row before the first step, and without a timer.
use Rattle.std.proofs.Common.{ℕ, zero, suc, ◌+◌, ◌≡◌, ◌∙◌, ap, refl, arith, List, [], ◌∷◌, ◌++◌, map, Option, None, slice_set}
use Rattle.std.specs.Option.{option_map}
use Rattle.san_clock.specs.Rows.{timer_in}
use Rattle.san_clock.specs.declared.row.Timer.{Timer}
use Rattle.san_law.specs.Net as net
use Rattle.san_law.specs.Net.{Row, without_timer}
use Rattle.san_law.specs.State.{blank_row, repeated}

more : {A : Type 0} (k : ℕ) (a : A) → repeated k a ++ a ∷ [] ≡ repeated (suc k) a
more zero a = refl
more (suc k) a = ap (λ xs. a ∷ xs) (more k a)

-- one more of the same
pub one_more : {A : Type 0} (k : ℕ) (a : A) (xs : List A) → xs ≡ repeated k a → xs ++ a ∷ [] ≡ repeated (k + 1) a
one_more k a xs is =
    let next : suc k ≡ k + 1 = omega arith in
    ap (λ ys. ys ++ a ∷ []) is ∙ more k a ∙ ap (λ n. repeated n a) next

untimed_seen : (k : ℕ) → map (option_map timer_in) (repeated k None) ≡ repeated k None
untimed_seen zero = refl
untimed_seen (suc k) = ap (λ (xs : List (Option net.Timer)). None ∷ xs) (untimed_seen k)

-- a row of blanks
pub blank_is : (k : ℕ) (timers : List (Option Timer)) (delays cases : List ℕ) → timers ≡ repeated k None → delays ≡ repeated k 0 → cases ≡ repeated k 0
    → (let r : net.Row = record { timers = map (option_map timer_in) timers; delays = delays; cases = cases } in r) ≡ blank_row k
blank_is k timers delays cases t d e =
    ap (λ (xs : List (Option Timer)). (let r : net.Row = record { timers = map (option_map timer_in) xs; delays = delays; cases = cases } in r)) t
    ∙ ap (λ (xs : List (Option net.Timer)). (let r : net.Row = record { timers = xs; delays = delays; cases = cases } in r)) (untimed_seen k)
    ∙ ap (λ (xs : List ℕ). (let r : net.Row = record { timers = repeated k None; delays = xs; cases = cases } in r)) d
    ∙ ap (λ (xs : List ℕ). (let r : net.Row = record { timers = repeated k None; delays = repeated k 0; cases = xs } in r)) e

dropped_from : (timers : List (Option Timer)) (k : ℕ) → map (option_map timer_in) (slice_set timers k None) ≡ slice_set (map (option_map timer_in) timers) k None
dropped_from [] k = refl
dropped_from (t ∷ ts) zero = refl
dropped_from (t ∷ ts) (suc k) = ap (λ (xs : List (Option net.Timer)). option_map timer_in t ∷ xs) (dropped_from ts k)

pub dropped : (timers : List (Option Timer)) (delays cases : List ℕ) (row : Row) (k : ℕ) → (let was : Row = record { timers = map (option_map timer_in) timers; delays = delays; cases = cases } in was) ≡ row
    → (let now : Row = record { timers = map (option_map timer_in) (slice_set timers k None); delays = delays; cases = cases } in now) ≡ without_timer row k
unfolding without_timer
dropped timers delays cases row k is =
    ap (λ (xs : List (Option net.Timer)). (let now : Row = record { timers = xs; delays = delays; cases = cases } in now)) (dropped_from timers k)
    ∙ ap (λ (r : Row). without_timer r k) is
