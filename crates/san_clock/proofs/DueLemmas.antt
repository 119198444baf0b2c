-- The least timer of a row, from the last activity to the first.
use Rattle.std.proofs.Common.{ℕ, suc, ◌+◌, ◌<◌, ◌≡◌, ◌∙◌, ap, List, [], ◌∷◌, length, map, drop, Option, Some, None, Bool, true, false, nat_lt, cond, arith}
use Rattle.std.specs.Option.{option_map}
use Rattle.san_clock.specs.Rows.{timer_in}
use Rattle.san_clock.specs.declared.row.Timer.{Timer}
use Rattle.san_law.specs.Net as net
use Rattle.san_law.specs.Net.{Row, least_timer, least_timer_from, sooner_act}

-- before the first activity the least is that of the row
pub least_is : (row : Row) (timers : List (Option Timer)) (least : Option (ℕ × ℕ)) (k : ℕ) → k ≡ 0 → map (option_map timer_in) timers ≡ row.timers
    → least ≡ least_timer_from k (map (option_map timer_in) (drop k timers)) → least ≡ least_timer row
unfolding least_timer
least_is row timers least k none same is =
    is ∙ ap (λ (i : ℕ). least_timer_from i (map (option_map timer_in) (drop i timers))) none ∙ ap (least_timer_from 0) same

-- its activity is one of the row's
abbrev act_or : Option (ℕ × ℕ) → ℕ
act_or None = 0
act_or (Some y) = y.1

within_by : (k : ℕ) (t : net.Timer) (rest : Option (ℕ × ℕ)) (x : ℕ × ℕ) (n : ℕ) → (rest ≡ Some x → x.1 < suc k + n) → sooner_act (t.due, k) rest ≡ Some x → x.1 < k + suc n
within_by k t None x n go is = let e : k ≡ x.1 = ap act_or is in omega (arith, e)
within_by k t (Some e) x n go is = by_test (nat_lt e.0 t.due) is
  where
    by_test : (b : Bool) → cond b (Some e) (Some (t.due, k)) ≡ Some x → x.1 < k + suc n
    by_test true is = let h = go is in omega (arith, h)
    by_test false is = let e : k ≡ x.1 = ap act_or is in omega (arith, e)

within_from : (k : ℕ) (ts : List (Option net.Timer)) (x : ℕ × ℕ) → least_timer_from k ts ≡ Some x → x.1 < k + length ts
within_from k [] x is = absurd cc
within_from k (None ∷ ts) x is = let h = within_from (suc k) ts x is in omega (arith, h)
within_from k (Some t ∷ ts) x is = within_by k t (least_timer_from (suc k) ts) x (length ts) (λ e. within_from (suc k) ts x e) is

pub least_within : (row : Row) (x : ℕ × ℕ) → least_timer row ≡ Some x → x.1 < length row.timers
unfolding least_timer
least_within row x is = let h = within_from 0 row.timers x is in omega (arith, h)
