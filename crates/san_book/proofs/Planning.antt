-- The least of the free leaves.
use Rattle.san_base.proofs.NumberTests.{number_below, some_same}
use Rattle.std.proofs.Common.{ℕ, suc, ◌+◌, ◌<◌, ◌≤◌, ◌≡◌, ◌∙◌, ◌&&◌, inl, inr, sym, refl, subst, not, List, [], ◌∷◌, length, Option, Some, None, Bool, true, false, nat_lt, nat_le, arith}
use Rattle.std.specs.Prelude.{if◌then◌else◌}
use Rattle.std.proofs.lemmas.Bool.Decides.{nat_tests}
use Rattle.std.proofs.lemmas.Bool.{cases_eq}
use Rattle.san_base.specs.declared.limits.Limits.{Limits}
use Rattle.san_line.specs.Lines.{first_by}
use Rattle.san_line.proofs.Ordered.{by_bool}
use Rattle.san_book.specs.Machines.{Machine}
use Rattle.san_book.specs.Chains.{chain_of}
use Rattle.san_book.specs.Cores.{Core, is_claimed}
use Rattle.san_book.specs.Plans.{earlier, earliest, free_at, plan_of, planned, time_of, when}
use Rattle.san_book.specs.Laws.{PlansLeast, PlansNone}

record IsLeastFrom (f : ℕ → Option ℕ) (from to : ℕ) (x : ℕ × ℕ) : Type 0 where
  low : from ≤ x.1
  leaf : x.1 < to
  free : f x.1 ≡ Some x.0
  least : (i t : ℕ) → from ≤ i → i < to → f i ≡ Some t → first_by x.0 t (nat_le x.1 i) ≡ true

-- the earlier of two, by a test
abbrev by_test : Bool → ℕ → ℕ → ℕ × ℕ → Option (ℕ × ℕ)
by_test b j t r = if b then Some r else Some (t, j)

some_of : (j t : ℕ) (r : ℕ × ℕ) (b : Bool) → by_test b j t r ≡ None → ⊥
some_of j t r true e = cc
some_of j t r false e = cc

neither : (j : ℕ) (o : Option ℕ) (r : Option (ℕ × ℕ)) → earlier j o r ≡ None → (o ≡ None) × (r ≡ None)
neither j None r e = (refl, e)
neither j (Some t) None e = absurd (cc)
neither j (Some t) (Some r) e = absurd (some_of j t r (nat_lt r.0 t) e)

none_from : {X : Type 0} (f : ℕ → Option ℕ) (j : ℕ) (xs : List X) → earliest f j xs ≡ None → (i : ℕ) → j ≤ i → i < j + length xs → f i ≡ None
none_from f j [] e i l u = absurd (omega (arith, l, u))
none_from f j (y ∷ xs) e i l u =
    let n : (f j ≡ None) × (earliest f (suc j) xs ≡ None) = neither j (f j) (earliest f (suc j) xs) e in
    elim (cases_eq i j) [
      | inl k ↦ subst (λ (n : ℕ). f n ≡ None) (sym k) n.0
      | inr d ↦ none_from f (suc j) xs n.1 i (omega (arith, l, d)) (omega (arith, u))
    ]

-- numbers in order
itself : (t j : ℕ) → first_by t t (nat_le j j) ≡ true
itself t j = grind (arith, nat_tests)

sooner : (t u j i : ℕ) → nat_lt t u ≡ true → first_by t u (nat_le j i) ≡ true
sooner t u j i h = grind (arith, nat_tests)

not_later : (t a b u j i : ℕ) → nat_lt a t ≡ false → first_by a u (nat_le b i) ≡ true → j ≤ i → first_by t u (nat_le j i) ≡ true
not_later t a b u j i h k l = grind (arith, nat_tests)

-- a leaf that isn't free before the others
passed : (f : ℕ → Option ℕ) (j to : ℕ) (x : ℕ × ℕ) → ((t : ℕ) → f j ≡ Some t → first_by x.0 t (nat_le x.1 j) ≡ true) → IsLeastFrom f (suc j) to x → IsLeastFrom f j to x
passed f j to x here h = record {
  low = let l = h.low in omega (arith, l);
  leaf = h.leaf;
  free = h.free;
  least = λ i t l u is. elim (cases_eq i j) [
    | inl k ↦ subst (λ (n : ℕ). first_by x.0 t (nat_le x.1 n) ≡ true) (sym k) (here t (subst (λ (n : ℕ). f n ≡ Some t) k is))
    | inr d ↦ h.least i t (omega (arith, l, d)) u is
  ];
}

-- the leaf itself, before the others
first_here : (f : ℕ → Option ℕ) (j to t : ℕ) → j < to → f j ≡ Some t → ((i u : ℕ) → suc j ≤ i → i < to → f i ≡ Some u → first_by t u (nat_le j i) ≡ true) → IsLeastFrom f j to (t, j)
first_here f j to t h is others = record {
  low = omega arith;
  leaf = h;
  free = is;
  least = λ i u l k e. elim (cases_eq i j) [
    | inl s ↦ subst (λ (n : ℕ). first_by t u (nat_le j n) ≡ true) (sym s)
        (subst (λ (n : ℕ). first_by t n (nat_le j j) ≡ true) (some_same t u (sym is ∙ subst (λ (n : ℕ). f n ≡ Some u) s e)) (itself t j))
    | inr d ↦ others i u (omega (arith, l, d)) k e
  ];
}

least_by : (f : ℕ → Option ℕ) (j to : ℕ) (x : ℕ × ℕ) (o : Option ℕ) (r : Option (ℕ × ℕ)) → j < to → f j ≡ o → ((y : ℕ × ℕ) → r ≡ Some y → IsLeastFrom f (suc j) to y) → (r ≡ None → (i : ℕ) → suc j ≤ i → i < to → f i ≡ None) → earlier j o r ≡ Some x → IsLeastFrom f j to x
least_by f j to x None r h is some none e = passed f j to x (λ t k. absurd (none_some t (sym is ∙ k))) (some x e)
  where
    none_some : (t : ℕ) → None ≡ Some t → ⊥
    none_some t e = cc
least_by f j to x (Some t) None h is some none e = subst (λ (y : ℕ × ℕ). IsLeastFrom f j to y) (the_one e) (first_here f j to t h is (λ i u l k k2. absurd (none_some u (sym (none refl i l k) ∙ k2))))
  where
    none_some : (t : ℕ) → None ≡ Some t → ⊥
    none_some t e = cc

    the_one : Some (t, j) ≡ Some x → (t, j) ≡ x
    the_one e = cc
least_by f j to x (Some t) (Some r) h is some none e = by_bool (λ b. by_test b j t r ≡ Some x → IsLeastFrom f j to x) (nat_lt r.0 t)
    (λ l e. subst (λ (y : ℕ × ℕ). IsLeastFrom f j to y) (one r e) (passed f j to r (λ u k. subst (λ (n : ℕ). first_by r.0 n (nat_le r.1 j) ≡ true) (some_same t u (sym is ∙ k)) (sooner r.0 t r.1 j l)) (some r refl)))
    (λ l e. subst (λ (y : ℕ × ℕ). IsLeastFrom f j to y) (one (t, j) e) (first_here f j to t h is (λ i u a b k. not_later t r.0 r.1 u j i l ((some r refl).least i u a b k) (omega (arith, a)))))
    e
  where
    one : (y : ℕ × ℕ) → Some y ≡ Some x → y ≡ x
    one y e = cc

least_from : {X : Type 0} (f : ℕ → Option ℕ) (j to : ℕ) (xs : List X) (x : ℕ × ℕ) → to ≡ j + length xs → earliest f j xs ≡ Some x → IsLeastFrom f j to x
least_from f j to [] x s e = absurd (none_some x e)
  where
    none_some : (x : ℕ × ℕ) → None ≡ Some x → ⊥
    none_some x e = cc
least_from f j to (y ∷ xs) x s e = least_by f j to x (f j) (earliest f (suc j) xs) (omega (arith, s)) refl
    (λ z k. least_from f (suc j) to xs z (omega (arith, s)) k)
    (λ k i l u. none_from f (suc j) xs k i l (omega (arith, u, s)))
    e

pub plans_least : {H S P : Type 0} (m : Machine H S P) → PlansLeast m
plans_least m limits c x e = let r = least_from (free_at m limits c) 0 (length c.chains) c.chains x (omega arith) e in record { leaf = r.leaf; free = r.free; least = λ i t l k. r.least i t (omega arith) l k }

pub plans_none : {H S P : Type 0} (m : Machine H S P) → PlansNone m
plans_none m limits c i e l = none_from (free_at m limits c) 0 c.chains e i (omega arith) (omega (arith, l))

-- a free leaf isn't claimed, and its chain has room
free_is : (a b : Bool) (o : Option ℕ) (t : ℕ) → when (not a && b) o ≡ Some t → (a ≡ false) × (b ≡ true)
free_is true b o t e = absurd (cc)
free_is false true o t e = (refl, refl)
free_is false false o t e = absurd (cc)

pub record IsFree {H P : Type 0} (limits : Limits) (c : Core H P) (j : ℕ) : Type 0 where
  pub there : j < length c.chains
  pub alone : is_claimed j c.claims ≡ false
  pub room : length (chain_of c.chains j) < limits.window

pub planned_free : {H S P : Type 0} (m : Machine H S P) (limits : Limits) (c : Core H P) (x : ℕ × ℕ) → planned m limits c ≡ Some x → IsFree limits c x.1
planned_free m limits c x e =
    let r = plans_least m limits c x e in
    let f = free_is (is_claimed x.1 c.claims) (nat_lt (length (chain_of c.chains x.1)) limits.window) (time_of (plan_of m limits c x.1)) x.0 r.free in
    record { there = r.leaf; alone = f.0; room = number_below (length (chain_of c.chains x.1)) limits.window f.1 }
