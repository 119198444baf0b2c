-- Delays over all draws.
use Rattle.std.proofs.Common.{ℕ, zero, suc, ◌+◌, ◌<◌, ◌≤◌, ◌≡◌, ◌∙◌, ap, sym, refl, arith, [], ◌∷◌, Result, Ok, Err, ℤ, pos, negsuc}
use Rattle.std.specs.Prelude.{slice_index}
use Rattle.san_base.specs.Draws.{pick}
use Rattle.san_base.specs.declared.ending.Trap.{Trap}
use Rattle.san_base.specs.declared.ending.Trap.TheVariants as trap
use Rattle.san_delay.proofs.SeriesLemmas.{geometric-is}
use Rattle.san_delay.specs.Sound.{IsChance}
use Rattle.san_expr.specs.Delay.{chance_left, ticks_of}
use Rattle.san_expr.specs.Meaning.{Meaning, settled, then_do}
use Rattle.san_expr.specs.Value.{value_of}
use Rattle.san_expr.specs.declared.dist.Dist.TheVariants as dist
use Rattle.san_expr.specs.declared.expr.Expr.TheVariants.{Number}
use Rattle.san_legal.proofs.DelayLemmas.{pick_below, span_given}
use Rattle.san_legal.specs.Delays.{AreThose, Between, Delays, Exactly, IsDelayOf, IsGiven, OneOf, UpTo, delays_of, exactly, span_of}
use Rattle.san_legal.specs.Examples.{late_draw}
use Rattle.san_net.proofs.Counted.{number_value}

of_bounds : Meaning ℤ → Meaning ℤ → Result Delays Trap
of_bounds low high = (then_do low (λ x. then_do high (λ y. settled (span_of (ticks_of x) (ticks_of y)))) []).answer

bounds_are : (a b : ℤ) → of_bounds (value_of (Number a)) (value_of (Number b)) ≡ of_bounds (settled (Ok a)) (settled (Ok b))
bounds_are a b = ap (λ (low : Meaning ℤ). of_bounds low (value_of (Number b))) (number_value a) ∙ ap (of_bounds (settled (Ok a))) (number_value b)

pub span_computed : (delays_of (dist.Uniform (Number (pos 2)) (Number (pos 4))) []).answer ≡ Ok (Between 2 4)
unfolding of_bounds
span_computed = bounds_are (pos 2) (pos 4)

pub empty_span_traps : (delays_of (dist.Uniform (Number (pos 4)) (Number (pos 2))) []).answer ≡ Err trap.Delay
unfolding of_bounds
empty_span_traps = bounds_are (pos 4) (pos 2)

pub value_computed : (delays_of (dist.Det (Number (pos 3))) []).answer ≡ Ok (Exactly 3)
value_computed = ap (λ (m : Meaning ℤ). (then_do m (λ x. settled (exactly (ticks_of x))) []).answer) (number_value (pos 3))

pub negative_traps : (delays_of (dist.Det (Number (negsuc 0))) []).answer ≡ Err trap.Delay
negative_traps = ap (λ (m : Meaning ℤ). (then_do m (λ x. settled (exactly (ticks_of x))) []).answer) (number_value (negsuc 0))

likely : IsChance 999 1000
likely = record { some = omega arith; most = omega arith; parts = omega arith }

-- something is left before the seventh tick
left_before : (k : ℕ) → 1 ≤ k → k < 7 → 0 < chance_left 999 1000 k
left_before zero h l = absurd (omega (arith, h))
left_before (suc zero) h l = omega arith
left_before (suc (suc zero)) h l = omega arith
left_before (suc (suc (suc zero))) h l = omega arith
left_before (suc (suc (suc (suc zero)))) h l = omega arith
left_before (suc (suc (suc (suc (suc zero))))) h l = omega arith
left_before (suc (suc (suc (suc (suc (suc zero)))))) h l = omega arith
left_before (suc (suc (suc (suc (suc (suc (suc k))))))) h l = absurd (omega (arith, l))

pub likely_computed : (delays_of (dist.Geom 999 1000) []).answer ≡ Ok (UpTo 7)
likely_computed = ap (λ (n : ℕ). (let r : Result Delays Trap = Ok (UpTo n) in r)) (sym (geometric-is 999 1000 0 7 likely (omega arith) (omega arith) left_before))

-- ---- which delays these are

pub not_four : IsDelayOf (Exactly 3) 4 → ⊥
not_four e = absurd (omega (arith, e))

pub four_between : IsDelayOf (Between 2 4) 4
four_between = (omega arith, omega arith)

pub five_beyond : IsDelayOf (Between 2 4) 5 → ⊥
five_beyond among = let to = among.1 in absurd (omega (arith, to))

pub light_entry : IsDelayOf (OneOf ((2, 1) ∷ (5, 0) ∷ [])) 5 → ⊥
light_entry is = by_entry is.0 is.1 is.2
  where
    by_entry : (k : ℕ) → 0 < slice_index (1 ∷ 0 ∷ []) k → slice_index (2 ∷ 5 ∷ []) k ≡ 5 → ⊥
    by_entry zero h e = absurd (omega (arith, e))
    by_entry (suc zero) h e = absurd (omega (arith, h))
    by_entry (suc (suc k)) h e = absurd (omega (arith, h))

pub heavy_entry : IsDelayOf (OneOf ((2, 1) ∷ (5, 0) ∷ [])) 2
heavy_entry = (0, omega arith, refl)

pub all_up_to : IsDelayOf (UpTo 7) 7
all_up_to = (omega arith, omega arith)

pub beyond_all : IsDelayOf (UpTo 7) 8 → ⊥
beyond_all among = let to = among.1 in absurd (omega (arith, to))

-- ---- which some draw gives

same_ticks : (a b : ℕ) → (let r : Result ℕ Trap = Ok a in r) ≡ Ok b → a ≡ b
same_ticks a b e = cc

pub four_given : IsGiven (λ u. Ok (2 + pick u 3)) 4
four_given = (late_draw, omega arith, refl)

pub five_not_given : IsGiven (λ u. Ok (2 + pick u 3)) 5 → ⊥
five_not_given given =
    let is : 2 + pick given.0 3 ≡ 5 = same_ticks (2 + pick given.0 3) 5 given.2 in
    let below = pick_below given.0 3 given.1 (omega arith) in
    absurd (omega (arith, is, below))

pub two_to_four : AreThose (λ u. Ok (2 + pick u 3)) (Ok (Between 2 4))
two_to_four = (span_given 2 4 (omega arith) (omega arith, omega arith) (omega arith, omega arith), λ u h. (2 + pick u 3, refl))

pub not_to_five : AreThose (λ u. Ok (2 + pick u 3)) (Ok (Between 2 5)) → ⊥
not_to_five those = five_not_given ((those.0 5).1 (omega arith, omega arith))

pub each_traps : AreThose (λ u. Err trap.Delay) (Err trap.Delay)
each_traps u h = refl
