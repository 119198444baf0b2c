-- A measure's sum as time goes on.
use Rattle.std.proofs.Common.{ℕ, zero, suc, ◌+◌, ◌-◌, ◌*◌, ◌<◌, ◌≤◌, ◌≡◌, ◌∙◌, ap, sym, refl, List, ◌++◌, arith, nat_lt, cond, Bool, true, false}
use Rattle.std.specs.Prelude.{ℤ, pos, ◌+ℤ◌, ◌*ℤ◌, unsigned_abs, ◌^◌}
use Rattle.std.proofs.Math.IntN.{+ℤ_assoc, +ℤ_idl}
use Rattle.std.proofs.lemmas.Bool.{ltb-true, ltb-false}
use Rattle.std.proofs.lemmas.Int.{ints, unsigned_abs-mul}
use Rattle.san_law.specs.Net.{Net}
use Rattle.san_law.specs.State.{State, opening_state}
use Rattle.san_law.specs.Step.{Event}
use Rattle.san_law.specs.Standing.{AllTo}
use Rattle.san_law.specs.Trajectory.{Runs}
use Rattle.san_law.proofs.Tallies.{AllAt, marked_end, marked_append}
use Rattle.san_probe.specs.inner.Progress.{sum_until}
use Rattle.san_probe.specs.Watching.{sum_values, value_at}
use Rattle.san_probe.specs.inner.Progress.{ticks_before}

times_none : (v : ℤ) → pos 0 ≡ v *ℤ pos 0
times_none v = omega (arith, ints)

times_more : (v : ℤ) (n : ℕ) → v +ℤ v *ℤ pos n ≡ v *ℤ pos (suc n)
times_more v n = grind (arith, ints)

pub values_split : (f : ℕ → ℤ) (a m n : ℕ) → sum_values f a (m + n) ≡ sum_values f a m +ℤ sum_values f (a + m) n
values_split f a zero n =
    let e : 0 + n ≡ n = omega arith in
    let z : a ≡ a + 0 = omega arith in
    ap (sum_values f a) e ∙ (ap (λ b. sum_values f b n) z ∙ sym (+ℤ_idl (sum_values f (a + 0) n)))
values_split f a (suc m) n =
    let e : suc m + n ≡ suc (m + n) = omega arith in
    let z : suc a + m ≡ a + suc m = omega arith in
    ap (sum_values f a) e
    ∙ (ap (λ x. f a +ℤ x) (values_split f (suc a) m n ∙ ap (λ b. sum_values f (suc a) m +ℤ sum_values f b n) z)
    ∙ sym (+ℤ_assoc (f a) (sum_values f (suc a) m) (sum_values f (a + suc m) n)))

pub values_like : (f g : ℕ → ℤ) (a n : ℕ) → ((t : ℕ) → a ≤ t → t < a + n → f t ≡ g t) → sum_values f a n ≡ sum_values g a n
values_like f g a zero h = refl
values_like f g a (suc n) h =
    ap (λ x. x +ℤ sum_values f (suc a) n) (h a (omega arith) (omega arith))
    ∙ ap (λ x. g a +ℤ x) (values_like f g (suc a) n (λ t l k. h t (omega (arith, l)) (omega (arith, k))))

values_constant : (f : ℕ → ℤ) (v : ℤ) (a n : ℕ) → ((t : ℕ) → a ≤ t → t < a + n → f t ≡ v) → sum_values f a n ≡ v *ℤ pos n
values_constant f v a zero h = times_none v
values_constant f v a (suc n) h =
    ap (λ x. x +ℤ sum_values f (suc a) n) (h a (omega arith) (omega arith))
    ∙ (ap (λ x. v +ℤ x) (values_constant f v (suc a) n (λ t l k. h t (omega (arith, l)) (omega (arith, k)))) ∙ times_more v n)

-- ticks of an interval before a time
before_at : (from to time : ℕ) (b : Bool) → nat_lt time to ≡ b → (cond b time to - from ≤ time - from) × (cond b time to ≤ to)
before_at from to time true e = let h = ltb-true time to e in (omega arith, omega (arith, h))
before_at from to time false e = let h = ltb-false time to e in (omega (arith, h), omega arith)

pub before_grows : (from to a b : ℕ) → a ≤ b → ticks_before from to a ≤ ticks_before from to b
before_grows from to a b h = by_tests (nat_lt a to) refl (nat_lt b to) refl
  where
    by_tests : (p : Bool) → nat_lt a to ≡ p → (q : Bool) → nat_lt b to ≡ q → cond p a to - from ≤ cond q b to - from
    by_tests true e true f = omega (arith, h)
    by_tests true e false f = let l = ltb-true a to e in omega (arith, l)
    by_tests false e true f = let l = ltb-false a to e in let k = ltb-true b to f in omega (arith, l, k, h)
    by_tests false e false f = omega arith

-- a tick of the interval that is not before a time, but before a later one
after_now : (from to a b t : ℕ) → from + ticks_before from to a ≤ t → t < from + ticks_before from to b → (a ≤ t) × (t < b)
after_now from to a b t = by_tests (nat_lt a to) refl (nat_lt b to) refl
  where
    by_tests : (p : Bool) → nat_lt a to ≡ p → (q : Bool) → nat_lt b to ≡ q → from + (cond p a to - from) ≤ t → t < from + (cond q b to - from) → (a ≤ t) × (t < b)
    by_tests true e true f h k = (omega (arith, h), omega (arith, h, k))
    by_tests true e false f h k = let l = ltb-false b to f in (omega (arith, h), omega (arith, h, k, l))
    by_tests false e true f h k = let l = ltb-false a to e in let m = ltb-true b to f in absurd (omega (arith, h, k, l, m))
    by_tests false e false f h k = absurd (omega (arith, h, k))

before_now : (from to a t : ℕ) → t < from + ticks_before from to a → from ≤ t → t < a
before_now from to a t = by_test (nat_lt a to) refl
  where
    by_test : (p : Bool) → nat_lt a to ≡ p → t < from + (cond p a to - from) → from ≤ t → t < a
    by_test true e h k = omega (arith, h, k)
    by_test false e h k = let l = ltb-false a to e in omega (arith, h, k, l)

module _ (measure : List ℕ → ℤ) (net : Net) (from to : ℕ) where
  -- the sum goes on with the present value from one time to another, at which events may come
  pub watched_more : (s : State) (xs es : List Event) (a b : ℕ) → Runs net (opening_state net) xs s → AllTo a xs → AllAt b es → a ≤ b
      → sum_until measure net from to xs a +ℤ measure s.marking *ℤ pos (ticks_before from to b - ticks_before from to a) ≡ sum_until measure net from to (xs ++ es) b
  watched_more s xs es a b runs early at h =
      let f = value_at measure net xs in
      let g = value_at measure net (xs ++ es) in
      let m = ticks_before from to a in
      let n = ticks_before from to b in
      let grows = before_grows from to a b h in
      let old : (t : ℕ) → t < b → f t ≡ g t = λ t l. ap measure (sym (marked_append net (opening_state net) xs es b t at l)) in
      let now : (t : ℕ) → a ≤ t → f t ≡ measure s.marking = λ t l. ap measure (marked_end net (opening_state net) s xs a t early runs l) in
      let one : sum_values f from m ≡ sum_values g from m = values_like f g from m (λ t k l. old t (let c = before_now from to a t l k in omega (arith, c, h))) in
      let two : sum_values g (from + m) (n - m) ≡ measure s.marking *ℤ pos (n - m) =
      values_constant g (measure s.marking) (from + m) (n - m) (λ t k l. let c = after_now from to a b t k (omega (arith, l, grows)) in sym (old t c.1) ∙ now t c.0) in
      let z : m + (n - m) ≡ n = omega (arith, grows) in
      ap (λ x. x +ℤ measure s.marking *ℤ pos (n - m)) one
      ∙ (ap (λ x. sum_values g from m +ℤ x) (sym two)
      ∙ (sym (values_split g from m (n - m)) ∙ ap (sum_values g from) z))

-- a value that stays
product : (a n : ℕ) → a ≤ 2 ^ 63 → a * n ≤ n * 2 ^ 63
product a zero h = omega arith
product a (suc n) h = let k = product a n h in omega (arith, h, k)

pub value_at_most : (v : ℤ) (n : ℕ) → unsigned_abs v ≤ 2 ^ 63 → unsigned_abs (v *ℤ pos n) ≤ n * 2 ^ 63
value_at_most v n h = rw (unsigned_abs-mul v (pos n)) (product (unsigned_abs v) n h)
