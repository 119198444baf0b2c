-- The greatest delay over all draws.
use Rattle.std.proofs.Common.{ℕ, ◌+◌, ◌-◌, ◌*◌, ◌^◌, ◌<◌, ◌≤◌, ◌≡◌, ◌∙◌, ap, sym, refl, subst, arith, Bool, true, false, cond, ◌&&◌, nat_le, List, Result, Ok, Err, ℤ, pos, negsuc, ◌⊎◌, inl, inr}
use Rattle.std.proofs.Math.Nat.{div-lt_iff_lt-mul, mul-lt-mul_of_pos_right}
use Rattle.std.proofs.lemmas.Bool.Decides.{leb_tells}
use Rattle.san_base.specs.Draws.{pick}
use Rattle.san_base.specs.declared.ending.Trap.{Trap}
use Rattle.san_base.specs.declared.ending.Trap.TheVariants as trap
use Rattle.san_draw.proofs.ChoiceLemmas.{picked_by}
use Rattle.san_expr.specs.Delay.{Ticks, ticks_of, between, delay_of}
use Rattle.san_expr.specs.Meaning.{Meaning, settled, go_on, then_do}
use Rattle.san_expr.specs.Value.{value_of}
use Rattle.san_expr.specs.declared.dist.Dist.{Dist}
use Rattle.san_expr.specs.declared.dist.Dist.TheVariants.{Det, Uniform, Geom, Table}
use Rattle.san_delay.specs.Longest.{IsNoLonger, IsLongest, longest_of, upper, greatest}
use Rattle.san_delay.specs.Sound.{IsDelay, IsSoundDelay, IsTable}
use Rattle.san_delay.proofs.SeriesLemmas.{geometric_falls}
use Rattle.san_delay.proofs.TableLemmas.{first_delay, weight, chosen_most, chosen_greatest}

at_most_itself : (t : Ticks) → IsNoLonger t t
at_most_itself (Ok a) = omega arith
at_most_itself (Err t) = refl

-- where each draw gives the same
always : (t : Ticks) → IsLongest (λ u. t) t
always t = record { most = λ u h. at_most_itself t; given = (0, omega arith, refl) }

module _ (a b : Meaning ℤ) (f : ℕ → ℤ → ℤ → Ticks) (g : ℤ → ℤ → Ticks) (longest : (x y : ℤ) → IsLongest (λ u. f u x y) (g x y)) where
  by_second : (x : ℤ) (r : Result ℤ Trap) (m : List ℕ) → IsLongest (λ u. (go_on r (b m) (λ y. settled (f u x y))).answer) (go_on r (b m) (λ y. settled (g x y))).answer
  by_second x (Ok y) m = longest x y
  by_second x (Err t) m = always (Err t)

  by_first : (r : Result ℤ Trap) (m : List ℕ) → IsLongest (λ u. (go_on r (a m) (λ x. then_do b (λ y. settled (f u x y)))).answer) (go_on r (a m) (λ x. then_do b (λ y. settled (g x y)))).answer
  by_first (Ok x) m = by_second x (b (a m).left).answer (a m).left
  by_first (Err t) m = always (Err t)

abbrev IsWithin : Ticks → Type 0
IsWithin (Ok n) = IsDelay n
IsWithin (Err t) = Unit {0}

both_tests : (n : ℕ) (b c : Bool) → (b ≡ true → 1 ≤ n) → (c ≡ true → n ≤ 4294967296) → IsWithin (cond (b && c) (Ok n) (Err trap.Delay))
both_tests n true true f g = (f refl, g refl)
both_tests n true false f g = tt
both_tests n false c f g = tt

test_holds : (a b : ℕ) → ((nat_le a b ≡ true) × (a ≤ b)) ⊎ ((nat_le a b ≡ false) × (b < a)) → nat_le a b ≡ true → a ≤ b
test_holds a b (inl o) e = o.1
test_holds a b (inr o) e = absurd (let both : true ≡ false = sym e ∙ o.0 in cc)

ticks_within : (x : ℤ) → IsWithin (ticks_of x)
ticks_within (pos n) = both_tests n (nat_le 1 n) (nat_le n 4294967296) (test_holds 1 n (leb_tells 1 n)) (test_holds n 4294967296 (leb_tells n 4294967296))
ticks_within (negsuc n) = tt

pick_below : (u w : ℕ) → u < 2 ^ 64 → 0 < w → pick u w < w
pick_below u w h some =
    let product : u * w < 2 ^ 64 * w = mul-lt-mul_of_pos_right h some in
    (div-lt_iff_lt-mul {k = 2 ^ 64} {x = u * w} {y = w} (omega arith)).1 (omega arith)

reaches_upper : (a b : ℕ) → a ≤ b → IsDelay a → IsDelay b → IsLongest (λ u. Ok (a + pick u (b - a + 1))) (Ok b)
reaches_upper a b h low high =
    let p = picked_by (b - a + 1) (b - a) (omega (arith, low.0, high.1)) (omega arith) in
    record {
      most = λ u draw. omega (arith, pick_below u (b - a + 1) draw (omega arith));
      given = (p.0, p.1, let e : a + pick p.0 (b - a + 1) ≡ b = omega (arith, p.2) in ap Ok e);
    }

abbrev EndsAt : ℕ → ℕ → Bool → Type 0
EndsAt a b c = IsLongest (λ u. cond c (Ok (a + pick u (b - a + 1))) (Err trap.Delay)) (cond c (Ok b) (Err trap.Delay))

by_order : (a b : ℕ) → IsDelay a → IsDelay b → ((nat_le a b ≡ true) × (a ≤ b)) ⊎ ((nat_le a b ≡ false) × (b < a)) → EndsAt a b (nat_le a b)
by_order a b p q (inl o) = subst (EndsAt a b) (sym o.0) (reaches_upper a b o.1 p q)
by_order a b p q (inr o) = subst (EndsAt a b) (sym o.0) (always (Err trap.Delay))

between_longest : (s t : Ticks) → IsWithin s → IsWithin t → IsLongest (λ u. between u s t) (upper s t)
between_longest (Err e) t p q = always (Err e)
between_longest (Ok a) (Err e) p q = always (Err e)
between_longest (Ok a) (Ok b) p q = by_order a b p q (leb_tells a b)

table_longest : (entries : List (ℕ × ℕ)) → IsTable entries → IsLongest (λ u. Ok (first_delay 0 entries (pick u (weight entries)))) (Ok (greatest entries))
table_longest entries table =
    let some : 0 < weight entries = omega (arith, table.weights.0) in
    let r = chosen_greatest entries 0 some in
    let p = picked_by (weight entries) r.0 (omega (arith, table.weights.1)) (omega (arith, r.2)) in
    record {
      most = λ u h. chosen_most entries 0 (pick u (weight entries)) (omega arith) (omega (arith, pick_below u (weight entries) h some));
      given = (p.0, p.1, ap Ok (ap (first_delay 0 entries) p.2 ∙ r.3));
    }

pub longest_is : (d : Dist) (m : List ℕ) → IsSoundDelay d → IsLongest (λ u. (delay_of d u m).answer) (longest_of d m).answer
longest_is (Det e) m sound = always (longest_of (Det e) m).answer
longest_is (Uniform low high) m sound =
    by_first (value_of low) (value_of high) (λ u x y. between u (ticks_of x) (ticks_of y)) (λ x y. upper (ticks_of x) (ticks_of y))
    (λ x y. between_longest (ticks_of x) (ticks_of y) (ticks_within x) (ticks_within y)) (value_of low m).answer m
longest_is (Geom p q) m sound = record { most = λ u h. geometric_falls p q u sound; given = (0, omega arith, refl) }
longest_is (Table entries) m sound = table_longest entries sound
