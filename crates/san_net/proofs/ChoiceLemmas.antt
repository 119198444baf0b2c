-- The choice of a case, in two walks.
use Rattle.std.proofs.Common.{ℕ, suc, ◌+◌, ◌-◌, ◌^◌, ◌<◌, ◌≤◌, ◌≡◌, ◌∙◌, ap, sym, refl, subst, arith, Bool, true, false, not, cond, ◌||◌, ◌&&◌, ◌⊎◌, inl, inr, nat_lt, nat_le, fold, Option, Some, None, Result, Ok, Err, List, [], ◌∷◌}
use Rattle.std.specs.Prelude.{sum}
use Rattle.std.proofs.lemmas.Bool.{le-ltb, lt-ltb}
use Rattle.std.proofs.lemmas.Bool.Decides.{leb_tells}
use Rattle.san_base.specs.Draws.{first_above, pick, weighted_choice}
use Rattle.san_base.specs.declared.ending.Trap.{Trap}
use Rattle.san_base.specs.declared.ending.Trap.TheVariants.{Weight}
use Rattle.san_expr.specs.View.{ViewState}
use Rattle.san_expr.specs.Concerns.{AssignsNothing}
use Rattle.san_expr.specs.Meaning.{Evaluation, Meaning, settled, go_on, joined, then_do}
use Rattle.san_expr.specs.Meets.{Evaluates}
use Rattle.san_expr.specs.Value.{value_of}
use Rattle.san_expr.proofs.ComposeLemmas.{evaluates_stop, evaluates_then}
use Rattle.san_expr.proofs.WholeLemmas.{nothing_settled, nothing_then, value_reads}
use Rattle.san_net.specs.Choice.{all_natural, case_of, chosen, is_total, natural, put_before, weight_of, weights_of}
use Rattle.san_net.specs.inner.Weighing.{by_total, found_from, passed, stop_or, total_from, weigh}
use Rattle.san_net.specs.declared.activity.Case.{Case}
use Rattle.san_net.proofs.SameMeanings.{AddsNothing, Same, again, evaluates_same, first_same, grouped_same, same_sym, same_trans, settled_same, then_same}

tells_lt : (a b : ℕ) → ((nat_lt a b ≡ true) × (a < b)) ⊎ ((nat_lt a b ≡ false) × (b ≤ a))
tells_lt a b = by_test (leb_tells b a)
  where
    by_test : ((nat_le b a ≡ true) × (b ≤ a)) ⊎ ((nat_le b a ≡ false) × (a < b)) → ((nat_lt a b ≡ true) × (a < b)) ⊎ ((nat_lt a b ≡ false) × (b ≤ a))
    by_test (inl t) = inr (le-ltb a b t.1, t.1)
    by_test (inr t) = inl (lt-ltb a b t.1, t.1)

fold_from : (a : ℕ) (xs : List ℕ) → fold (λ (b x : ℕ). b + x) a xs ≡ a + fold (λ (b x : ℕ). b + x) 0 xs
fold_from a [] = omega arith
fold_from a (x ∷ xs) =
    let one = fold_from (a + x) xs in
    let two = fold_from (0 + x) xs in
    omega (arith, one, two)

sum_more : (k : ℕ) (xs : List ℕ) → sum (k ∷ xs) ≡ k + sum xs
sum_more k xs = let one = fold_from (0 + k) xs in omega (arith, one)

plus_suc : (a b : ℕ) → suc a + b ≡ a + suc b
plus_suc a b = omega arith

plus_none : (a : ℕ) → 0 + a ≡ a
plus_none a = omega arith

weight_reads : (c : Case) → AssignsNothing (weight_of c)
weight_reads c = nothing_then (value_of c.weight) (λ x. settled (Ok (natural x))) (value_reads c.weight) (λ x. nothing_settled (Ok (natural x)))

pub weights_read : (cases : List Case) → AssignsNothing (weights_of cases)
weights_read [] = nothing_settled {T = List (Option ℕ)} (Ok [])
weights_read (c ∷ cases) =
    nothing_then (weight_of c) (λ y. then_do (weights_of cases) (λ ys. settled (Ok (y ∷ ys)))) (weight_reads c)
    (λ y. nothing_then (weights_of cases) (λ ys. settled (Ok (y ∷ ys))) (weights_read cases) (λ ys. nothing_settled (Ok (y ∷ ys))))

weights_then : {T : Type 0} (c : Case) (cases : List Case) (k : List (Option ℕ) → Meaning T)
    → Same (then_do (weights_of (c ∷ cases)) k) (then_do (weight_of c) (λ y. then_do (weights_of cases) (λ ys. k (y ∷ ys))))
weights_then c cases k =
    let put : Option ℕ → List (Option ℕ) → Meaning (List (Option ℕ)) = λ y ys. settled (Ok (y ∷ ys)) in
    same_trans (then_do (weights_of (c ∷ cases)) k) (then_do (weight_of c) (λ y. then_do (then_do (weights_of cases) (put y)) k)) (then_do (weight_of c) (λ y. then_do (weights_of cases) (λ ys. k (y ∷ ys))))
    (grouped_same (weight_of c) (λ y. then_do (weights_of cases) (put y)) k)
    (then_same (weight_of c) (λ y. then_do (then_do (weights_of cases) (put y)) k) (λ y. then_do (weights_of cases) (λ ys. k (y ∷ ys)))
    (λ y. same_trans (then_do (then_do (weights_of cases) (put y)) k) (then_do (weights_of cases) (λ ys. then_do (put y ys) k)) (then_do (weights_of cases) (λ ys. k (y ∷ ys)))
    (grouped_same (weights_of cases) (put y) k)
    (then_same (weights_of cases) (λ ys. then_do (put y ys) k) (λ ys. k (y ∷ ys)) (λ ys. settled_same (y ∷ ys) k))))

abbrev total_of : Option ℕ → List (Option ℕ) → Option ℕ
total_of n [] = n
total_of n (y ∷ ys) = total_of (weigh n y) ys

sums_same : (n : Option ℕ) (cases : List Case) → Same (total_from n cases) (then_do (weights_of cases) (λ ys. settled (Ok (total_of n ys))))
sums_same n [] = λ m. record { answer = refl; left = refl; looks = λ p. refl; sets = λ p. refl }
sums_same n (c ∷ cases) =
    let here : Option ℕ → Meaning (Option ℕ) = λ y. then_do (weights_of cases) (λ ys. settled (Ok (total_of (weigh n y) ys))) in
    same_trans (total_from n (c ∷ cases)) (then_do (weight_of c) here) (then_do (weights_of (c ∷ cases)) (λ ys. settled (Ok (total_of n ys))))
    (then_same (weight_of c) (λ y. total_from (weigh n y) cases) here (λ y. sums_same (weigh n y) cases))
    (same_sym (then_do (weights_of (c ∷ cases)) (λ ys. settled (Ok (total_of n ys)))) (then_do (weight_of c) here) (weights_then c cases (λ ys. settled (Ok (total_of n ys)))))

more_known : (a s l w : Bool) → (l ≡ true → w ≡ true) → (a || (not s && l)) ≡ true → (a || (not s && w)) ≡ true
more_known true s l w h e = refl
more_known false true l w h e = e
more_known false false l w h e = h e

joined_adds : {T U : Type 0} (A : Evaluation T) (known : ℕ → Bool) (o : Evaluation U) (r : Result U Trap) (m : List ℕ) → A.left ≡ m → ((p : ℕ) → A.sets p ≡ false)
    → AddsNothing known o r A.left → AddsNothing (λ p. A.looks p || (not (A.sets p) && known p)) (joined A o) r m
joined_adds A known o r m l s n = record {
  answer = n.answer;
  left = n.left ∙ l;
  looks = λ p. more_known (A.looks p) (A.sets p) (o.looks p) (known p) (n.looks p);
  sets = λ p. ap (λ (b : Bool). b || o.sets p) (s p) ∙ n.sets p;
}

settled_adds : {T : Type 0} (known : ℕ → Bool) (r : Result T Trap) (m : List ℕ) → AddsNothing known (settled r m) r m
settled_adds known r m = record { answer = refl; left = refl; looks = λ p e. cc; sets = λ p. refl }

widened : {T : Type 0} (known : ℕ → Bool) (extra : ℕ → Bool) (o : Evaluation T) (r : Result T Trap) (m : List ℕ) → AddsNothing known o r m → AddsNothing (λ p. known p || extra p) o r m
widened known extra o r m n = record {
  answer = n.answer;
  left = n.left;
  looks = λ p e. ap (λ (b : Bool). b || extra p) (n.looks p e);
  sets = n.sets;
}

abbrev FindsAll : List Case → Type 0
FindsAll cases = (before left at : ℕ) (ys : List (Option ℕ)) (ns : List ℕ) (m : List ℕ) → (weights_of cases m).answer ≡ Ok ys → all_natural ys ≡ Some ns
    → AddsNothing (weights_of cases m).looks (found_from left at cases m) (Ok (at + first_above before ns (before + left))) m

module _ (cases : List Case) (ih : FindsAll cases) (before left at : ℕ) (m : List ℕ) where
  abbrev found : Option ℕ → Evaluation ℕ
  found o = stop_or at (λ l. found_from l (suc at) cases) o m

  by_left : (k : ℕ) (ys : List (Option ℕ)) (ns : List ℕ) → (weights_of cases m).answer ≡ Ok ys → all_natural ys ≡ Some ns
      → ((nat_lt left k ≡ true) × (left < k)) ⊎ ((nat_lt left k ≡ false) × (k ≤ left))
      → AddsNothing (weights_of cases m).looks (found (passed left (Some k))) (Ok (at + first_above before (k ∷ ns) (before + left))) m
  by_left k ys ns e n (inl t) =
      let is : at ≡ at + first_above before (k ∷ ns) (before + left) =
      omega arith ∙ ap (λ (b : Bool). at + cond b 0 (suc (first_above (before + k) ns (before + left)))) (sym (lt-ltb (before + left) (before + k) (omega (arith, t.1)))) in
      subst (λ (o : Option ℕ). AddsNothing (weights_of cases m).looks (found o) (Ok (at + first_above before (k ∷ ns) (before + left))) m)
      (sym (ap (λ (b : Bool). cond b None (Some (left - k))) t.0))
      (subst (λ (x : ℕ). AddsNothing (weights_of cases m).looks (settled (Ok at) m) (Ok x) m) is (settled_adds (weights_of cases m).looks (Ok at) m))
  by_left k ys ns e n (inr t) =
      let there : before + k + (left - k) ≡ before + left = omega (arith, t.1) in
      let is : suc at + first_above (before + k) ns (before + k + (left - k)) ≡ at + first_above before (k ∷ ns) (before + left) =
      ap (λ (x : ℕ). suc at + first_above (before + k) ns x) there
      ∙ plus_suc at (first_above (before + k) ns (before + left))
      ∙ ap (λ (b : Bool). at + cond b 0 (suc (first_above (before + k) ns (before + left)))) (sym (le-ltb (before + left) (before + k) (omega (arith, t.1)))) in
      subst (λ (o : Option ℕ). AddsNothing (weights_of cases m).looks (found o) (Ok (at + first_above before (k ∷ ns) (before + left))) m)
      (sym (ap (λ (b : Bool). cond b None (Some (left - k))) t.0))
      (subst (λ (x : ℕ). AddsNothing (weights_of cases m).looks (found_from (left - k) (suc at) cases m) (Ok x) m) is (ih (before + k) (left - k) (suc at) ys ns m e n))

  by_natural : (k : ℕ) (ys : List (Option ℕ)) (ns : List ℕ) → (weights_of cases m).answer ≡ Ok ys → (o : Option (List ℕ)) → all_natural ys ≡ o → put_before k o ≡ Some ns
      → AddsNothing (weights_of cases m).looks (found (passed left (Some k))) (Ok (at + first_above before ns (before + left))) m
  by_natural k ys ns e None n is = absurd cc
  by_natural k ys ns e (Some rest) n is =
      let same : (k ∷ rest) ≡ ns = cc in
      subst (λ (xs : List ℕ). AddsNothing (weights_of cases m).looks (found (passed left (Some k))) (Ok (at + first_above before xs (before + left))) m) same
      (by_left k ys rest e n (tells_lt left k))

  by_weight : (y : Option ℕ) (ys : List (Option ℕ)) (ns : List ℕ) → (weights_of cases m).answer ≡ Ok ys → all_natural (y ∷ ys) ≡ Some ns
      → AddsNothing (weights_of cases m).looks (found (passed left y)) (Ok (at + first_above before ns (before + left))) m
  by_weight None ys ns e n = absurd cc
  by_weight (Some k) ys ns e n = by_natural k ys ns e (all_natural ys) refl n

module _ (c : Case) (cases : List Case) (ih : FindsAll cases) (before left at : ℕ) (ys : List (Option ℕ)) (ns : List ℕ) (m : List ℕ) (n : all_natural ys ≡ Some ns) where
  abbrev first : Evaluation (Option ℕ)
  first = weight_of c m

  abbrev put_first : Option ℕ → Meaning (List (Option ℕ))
  put_first y = then_do (weights_of cases) (λ zs. settled (Ok (y ∷ zs)))

  abbrev go_first : Option ℕ → Meaning ℕ
  go_first y = stop_or at (λ l. found_from l (suc at) cases) (passed left y)

  by_rest : (y : Option ℕ) (q : Result (List (Option ℕ)) Trap) → (weights_of cases first.left).answer ≡ q
      → (go_on q (weights_of cases first.left) (λ zs. settled (Ok (y ∷ zs)))).answer ≡ Ok ys
      → AddsNothing (go_on q (weights_of cases first.left) (λ zs. settled (Ok (y ∷ zs)))).looks (go_first y first.left) (Ok (at + first_above before ns (before + left))) first.left
  by_rest y (Err t) i e = absurd cc
  by_rest y (Ok zs) i e =
      let same : (y ∷ zs) ≡ ys = cc in
      widened (weights_of cases first.left).looks (λ p. not ((weights_of cases first.left).sets p) && false) (go_first y first.left) (Ok (at + first_above before ns (before + left))) first.left
      (by_weight cases ih before left at first.left y zs ns i (ap all_natural same ∙ n))

  by_first : (r : Result (Option ℕ) Trap) → first.answer ≡ r → (go_on r first put_first).answer ≡ Ok ys
      → AddsNothing (go_on r first put_first).looks (go_on r first go_first) (Ok (at + first_above before ns (before + left))) m
  by_first (Err t) i e = absurd cc
  by_first (Ok y) i e =
      joined_adds first (put_first y first.left).looks (go_first y first.left) (Ok (at + first_above before ns (before + left))) m (weight_reads c m).0 (weight_reads c m).1
      (by_rest y (weights_of cases first.left).answer refl e)

-- the second walk finds what the draw chooses, and looks at nothing new
found_adds : (cases : List Case) → FindsAll cases
found_adds [] = λ before left at ys ns m e n.
    let none : [] ≡ ys = cc in
    let none_left : [] ≡ ns = let h : Some [] ≡ Some ns = ap all_natural none ∙ n in cc in
    subst (λ (xs : List ℕ). AddsNothing (λ p. false) (settled (Ok at) m) (Ok (at + first_above before xs (before + left))) m) none_left
    (subst (λ (x : ℕ). AddsNothing (λ p. false) (settled (Ok at) m) (Ok x) m) (omega arith) (settled_adds (λ p. false) (Ok at) m))
found_adds (c ∷ cases) = λ before left at ys ns m e n. by_first c cases (found_adds cases) before left at ys ns m n (weight_of c m).answer refl e

total_none : (ys : List (Option ℕ)) → total_of None ys ≡ None
total_none [] = refl
total_none (y ∷ ys) = total_none ys

total_negative : (n : Option ℕ) (ys : List (Option ℕ)) → all_natural ys ≡ None → total_of n ys ≡ None
total_negative n [] e = cc
total_negative None (None ∷ ys) e = total_none ys
total_negative (Some n) (None ∷ ys) e = total_none ys
total_negative n (Some k ∷ ys) e = total_negative (weigh n (Some k)) ys (by_all (all_natural ys) e)
  where
    by_all : (o : Option (List ℕ)) → put_before k o ≡ None → o ≡ None
    by_all None h = refl
    by_all (Some ns) h = cc

abbrev Totals : Option ℕ → List (Option ℕ) → ℕ → Type 0
Totals n ys w = (total_of n ys ≡ Some w) ⊎ ((total_of n ys ≡ None) × (2 ^ 64 ≤ w))

total_natural : (n : ℕ) (ys : List (Option ℕ)) (ns : List ℕ) → all_natural ys ≡ Some ns → Totals (Some n) ys (n + sum ns)
total_natural n [] ns e =
    let none : [] ≡ ns = cc in
    subst (λ (xs : List ℕ). Totals (Some n) [] (n + sum xs)) none (inl (ap Some (omega arith)))
total_natural n (None ∷ ys) ns e = absurd cc
total_natural n (Some k ∷ ys) ns e = by_all (λ xs h. total_natural (n + k) ys xs h) (all_natural ys) refl e
  where
    by_sum : (xs : List ℕ) → Totals (Some (n + k)) ys (n + k + sum xs) → ((nat_lt (n + k) (2 ^ 64) ≡ true) × (n + k < 2 ^ 64)) ⊎ ((nat_lt (n + k) (2 ^ 64) ≡ false) × (2 ^ 64 ≤ n + k))
        → Totals (Some n) (Some k ∷ ys) (n + (k + sum xs))
    by_sum xs h (inl t) =
        subst (λ (o : Option ℕ). Totals o ys (n + (k + sum xs))) (sym (ap (λ (b : Bool). cond b (Some (n + k)) None) t.0))
        (subst (λ (w : ℕ). Totals (Some (n + k)) ys w) (omega arith) h)
    by_sum xs h (inr t) =
        subst (λ (o : Option ℕ). Totals o ys (n + (k + sum xs))) (sym (ap (λ (b : Bool). cond b (Some (n + k)) None) t.0))
        (inr (total_none ys, omega (arith, t.1)))

    by_all : ((xs : List ℕ) → all_natural ys ≡ Some xs → Totals (Some (n + k)) ys (n + k + sum xs)) → (o : Option (List ℕ)) → all_natural ys ≡ o → put_before k o ≡ Some ns
        → Totals (Some n) (Some k ∷ ys) (n + sum ns)
    by_all h None i is = absurd cc
    by_all h (Some xs) i is =
        let same : (k ∷ xs) ≡ ns = cc in
        subst (λ (zs : List ℕ). Totals (Some n) (Some k ∷ ys) (n + sum zs)) same
        (subst (λ (w : ℕ). Totals (Some n) (Some k ∷ ys) (n + w)) (sym (sum_more k xs)) (by_sum xs (h xs i) (tells_lt (n + k) (2 ^ 64))))

too_much : (n : ℕ) → 2 ^ 64 ≤ n → is_total n ≡ false
too_much n h = by_test (leb_tells n (2 ^ 32))
  where
    no_and : (b : Bool) → (b && false) ≡ false
    no_and true = refl
    no_and false = refl

    by_test : ((nat_le n (2 ^ 32) ≡ true) × (n ≤ 2 ^ 32)) ⊎ ((nat_le n (2 ^ 32) ≡ false) × (2 ^ 32 < n)) → is_total n ≡ false
    by_test (inl t) = absurd (omega (arith, t.1, h))
    by_test (inr t) = ap (λ (b : Bool). nat_le 1 n && b) t.0 ∙ no_and (nat_le 1 n)

module _ (u : ℕ) (cases : List Case) (m : List ℕ) (ys : List (Option ℕ)) (e : (weights_of cases m).answer ≡ Ok ys) where
  abbrev Adds : Option ℕ → Result ℕ Trap → Type 0
  Adds total r = AddsNothing (weights_of cases m).looks (by_total u cases total m) r m

  nothing_chosen : Adds None (Err Weight)
  nothing_chosen = settled_adds (weights_of cases m).looks (Err Weight) m

  by_bool : (ns : List ℕ) → all_natural ys ≡ Some ns → (b : Bool)
      → AddsNothing (weights_of cases m).looks ((cond b (found_from (pick u (sum ns)) 0 cases) (settled (Err Weight))) m) (cond b (Ok (weighted_choice u ns)) (Err Weight)) m
  by_bool ns n true =
      subst (λ (x : ℕ). AddsNothing (weights_of cases m).looks (found_from (pick u (sum ns)) 0 cases m) (Ok x) m) (plus_none (first_above 0 ns (0 + pick u (sum ns))) ∙ ap (first_above 0 ns) (plus_none (pick u (sum ns))))
      (found_adds cases 0 (pick u (sum ns)) 0 ys ns m e n)
  by_bool ns n false = nothing_chosen

  by_sum : (ns : List ℕ) → all_natural ys ≡ Some ns → Totals (Some 0) ys (0 + sum ns) → Adds (total_of (Some 0) ys) (chosen u (Some ns))
  by_sum ns n (inl t) =
      subst (λ (o : Option ℕ). Adds o (chosen u (Some ns))) (sym (t ∙ ap Some (plus_none (sum ns)))) (by_bool ns n (is_total (sum ns)))
  by_sum ns n (inr t) =
      subst (λ (o : Option ℕ). Adds o (chosen u (Some ns))) (sym t.0)
      (subst (Adds None) (sym (ap (λ (b : Bool). cond b (Ok (weighted_choice u ns)) (Err Weight)) (too_much (sum ns) (omega (arith, t.1))))) nothing_chosen)

  by_all : (o : Option (List ℕ)) → all_natural ys ≡ o → Adds (total_of (Some 0) ys) (chosen u o)
  by_all None n = subst (λ (t : Option ℕ). Adds t (Err Weight)) (sym (total_negative (Some 0) ys n)) nothing_chosen
  by_all (Some ns) n = by_sum ns n (total_natural 0 ys ns n)

module _ (u : ℕ) (cases : List Case) where
  abbrev walked : Meaning ℕ
  walked = then_do (total_from (Some 0) cases) (by_total u cases)

  abbrev summed : List (Option ℕ) → Meaning (Option ℕ)
  summed ys = settled (Ok (total_of (Some 0) ys))

  abbrev found_after : List (Option ℕ) → Meaning ℕ
  found_after ys = by_total u cases (total_of (Some 0) ys)

  walked_same : Same walked (case_of u cases)
  walked_same =
      same_trans walked (then_do (then_do (weights_of cases) summed) (by_total u cases)) (case_of u cases)
      (first_same (total_from (Some 0) cases) (then_do (weights_of cases) summed) (by_total u cases) (sums_same (Some 0) cases))
      (same_trans (then_do (then_do (weights_of cases) summed) (by_total u cases)) (then_do (weights_of cases) (λ ys. then_do (summed ys) (by_total u cases))) (case_of u cases)
      (grouped_same (weights_of cases) summed (by_total u cases))
      (same_trans (then_do (weights_of cases) (λ ys. then_do (summed ys) (by_total u cases))) (then_do (weights_of cases) found_after) (case_of u cases)
      (then_same (weights_of cases) (λ ys. then_do (summed ys) (by_total u cases)) found_after (λ ys. settled_same (total_of (Some 0) ys) (by_total u cases)))
      (again (weights_of cases) found_after (λ ys. chosen u (all_natural ys)) (weights_read cases) (λ m ys e. by_all u cases m ys e (all_natural ys) refl))))

  -- the sum, and the walk that it calls for
  pub chooses : (s0 s1 s2 : ViewState) (total : Option ℕ) (read : Result (Option ℕ) Trap) (r : Result ℕ Trap) → read ≡ Ok total → Evaluates s0 s1 (total_from (Some 0) cases) read
      → Evaluates s1 s2 (by_total u cases total) r → Evaluates s0 s2 (case_of u cases) r
  chooses s0 s1 s2 total read r is p q =
      evaluates_same s0 s2 walked (case_of u cases) r walked_same
      (evaluates_then s0 s1 s2 (total_from (Some 0) cases) (by_total u cases) total r (subst (λ (x : Result (Option ℕ) Trap). Evaluates s0 s1 (total_from (Some 0) cases) x) is p) q)

  pub choice_traps : (s0 s1 : ViewState) (t : Trap) (read : Result (Option ℕ) Trap) → read ≡ Err t → Evaluates s0 s1 (total_from (Some 0) cases) read
      → Evaluates s0 s1 (case_of u cases) (Err t)
  choice_traps s0 s1 t read is p =
      evaluates_same s0 s1 walked (case_of u cases) (Err t) walked_same
      (evaluates_stop s0 s1 (total_from (Some 0) cases) (by_total u cases) t (subst (λ (x : Result (Option ℕ) Trap). Evaluates s0 s1 (total_from (Some 0) cases) x) is p))
