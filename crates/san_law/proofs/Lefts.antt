-- Each needed piece leaves less to take.
use Rattle.san_base.proofs.Bools.{or_false}
use Rattle.std.proofs.Common.{ℕ, zero, suc, ◌+◌, ◌-◌, ◌*◌, ◌<◌, ◌≤◌, ◌≡◌, ◌∙◌, ◌||◌, ap, sym, refl, subst, List, [], ◌∷◌, length, Bool, true, false, arith, nat_eq, slice_set, cond}
use Rattle.std.proofs.Math.Nat.{mul-le-mul_right}
use Rattle.std.proofs.lemmas.Bool.{eqb-true, eq-eqb, ne_eqb}
use Rattle.san_law.specs.Order.{flag, flags_from}
use Rattle.san_law.specs.Left.{add_true, count_true}

pub count_long : (bs : List Bool) → count_true bs ≤ length bs
count_long [] = omega arith
count_long (true ∷ bs) = let h = count_long bs in omega (arith, h)
count_long (false ∷ bs) = let h = count_long bs in omega (arith, h)

pub count_set : (bs : List Bool) (j : ℕ) → flag bs j ≡ true → count_true (slice_set bs j false) + 1 ≡ count_true bs
count_set [] j e = cc
count_set (true ∷ bs) zero e = omega arith
count_set (false ∷ bs) zero e = cc
count_set (true ∷ bs) (suc j) e = let h = count_set bs j e in omega (arith, h)
count_set (false ∷ bs) (suc j) e = count_set bs j e

abbrev one_set : Bool → ℕ → ℕ → Bool → Bool
one_set v j i b = cond (nat_eq i j) v (b || false)

-- after the number nothing changes
count_after : (v : Bool) (j a : ℕ) (bs : List Bool) → j < a → count_true (flags_from (one_set v j) a bs) ≡ count_true bs
count_after v j a [] h = refl
count_after v j a (b ∷ bs) h =
    ap (λ q. add_true (cond q v (b || false)) (count_true (flags_from (one_set v j) (suc a) bs))) (not_equal (nat_eq a j) refl)
    ∙ (ap (λ c. add_true c (count_true (flags_from (one_set v j) (suc a) bs))) (or_false b) ∙ ap (add_true b) (count_after v j (suc a) bs (omega (arith, h))))
  where
    not_equal : (q : Bool) → nat_eq a j ≡ q → q ≡ false
    not_equal false e = refl
    not_equal true e = absurd (apart (eqb-true a j e))
      where
        apart : a ≡ j → ⊥
        apart e = omega (arith, h, e)

-- one more at most, and one less where the number was set and is no more
count_one : (v : Bool) (j a : ℕ) (bs : List Bool) → count_true (flags_from (one_set v j) a bs) ≤ count_true bs + 1
count_one v j a [] = omega arith
count_one v j a (b ∷ bs) = by_test (nat_eq a j) refl (count_one v j (suc a) bs)
  where
    add_more : (c : Bool) (m n : ℕ) → m ≤ n + 1 → add_true c m ≤ add_true c n + 1
    add_more true m n h = omega (arith, h)
    add_more false m n h = h

    add_any : (c d : Bool) (n : ℕ) → add_true c n ≤ add_true d n + 1
    add_any true true n = omega arith
    add_any true false n = omega arith
    add_any false true n = omega arith
    add_any false false n = omega arith

    by_test : (q : Bool) → nat_eq a j ≡ q → count_true (flags_from (one_set v j) (suc a) bs) ≤ count_true bs + 1 → add_true (cond q v (b || false)) (count_true (flags_from (one_set v j) (suc a) bs)) ≤ add_true b (count_true bs) + 1
    by_test false e h = subst (λ c. add_true c (count_true (flags_from (one_set v j) (suc a) bs)) ≤ add_true b (count_true bs) + 1) (sym (or_false b)) (add_more b (count_true (flags_from (one_set v j) (suc a) bs)) (count_true bs) h)
    by_test true e h =
        let k : j < suc a = omega (arith, eqb-true a j e) in
        subst (λ n. add_true v n ≤ add_true b (count_true bs) + 1) (sym (count_after v j (suc a) bs k)) (add_any v b (count_true bs))

count_less : (j a i : ℕ) (bs : List Bool) → j ≡ a + i → count_true (flags_from (one_set false j) a bs) + add_true (flag bs i) 0 ≤ count_true bs
count_less j a i [] e = omega arith
count_less j a zero (b ∷ bs) e =
    let k : a ≡ j = omega (arith, e) in
    subst (λ q. add_true (cond q false (b || false)) (count_true (flags_from (one_set false j) (suc a) bs)) + add_true b 0 ≤ add_true b (count_true bs)) (sym (eq-eqb a j k))
    (subst (λ n. n + add_true b 0 ≤ add_true b (count_true bs)) (sym (count_after false j (suc a) bs (omega (arith, k)))) (add_same b (count_true bs)))
  where
    add_same : (b : Bool) (n : ℕ) → n + add_true b 0 ≤ add_true b n
    add_same true n = omega arith
    add_same false n = omega arith
count_less j a (suc i) (b ∷ bs) e =
    let k : nat_eq a j ≡ false = ne_eqb a j (omega (arith, e)) in
    subst (λ q. add_true (cond q false (b || false)) (count_true (flags_from (one_set false j) (suc a) bs)) + add_true (flag bs i) 0 ≤ add_true b (count_true bs)) (sym k)
    (subst (λ c. add_true c (count_true (flags_from (one_set false j) (suc a) bs)) + add_true (flag bs i) 0 ≤ add_true b (count_true bs)) (sym (or_false b))
    (add_more b (count_true (flags_from (one_set false j) (suc a) bs)) (add_true (flag bs i) 0) (count_true bs) (count_less j (suc a) i bs (omega (arith, e)))))
  where
    add_more : (c : Bool) (m d n : ℕ) → m + d ≤ n → add_true c m + d ≤ add_true c n
    add_more true m d n h = omega (arith, h)
    add_more false m d n h = h

pub unsettled_less : (j : ℕ) (bs : List Bool) → count_true (flags_from (one_set false j) 0 bs) + add_true (flag bs j) 0 ≤ count_true bs
unsettled_less j bs = count_less j 0 j bs (omega arith)

pub stale_more : (j : ℕ) (bs : List Bool) → count_true (flags_from (one_set true j) 0 bs) ≤ count_true bs + 1
stale_more j bs = count_one true j 0 bs

-- with one event or more, what is left falls whatever the flags
pub events_less : (limit count count' k flags flags' : ℕ) → count < limit → count + 1 ≤ count' → flags' + 1 ≤ k → (limit - count') * k + flags' + 1 < (limit - count) * k + flags + 1
events_less limit count count' k flags flags' h more small =
    let one : (limit - count') + 1 ≤ limit - count = omega (arith, h, more) in
    let two : ((limit - count') + 1) * k ≤ (limit - count) * k = mul-le-mul_right k one in
    omega (arith, two, small)
