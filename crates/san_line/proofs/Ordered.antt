-- Lines in order.
use Rattle.std.proofs.Common.{ℕ, ◌≡◌, ◌∙◌, ◌&&◌, ap, sym, refl, not, List, [], ◌∷◌, Option, Some, None, Bool, true, false, nat_eq, nat_lt, cond, arith}
use Rattle.std.proofs.lemmas.Bool.Decides.{nat_tests}
use Rattle.std.proofs.lemmas.Bool.{true≢false}
use Rattle.san_line.specs.declared.version.Version.{Version}
use Rattle.san_line.specs.Lines.{first_by, before, is_key, inserted, inserted_by, without_all, find, found_by}
use Rattle.san_line.specs.Ordered.{AllAfter, IsOrdered}

-- what is found where it may have gone
abbrev pub hidden : {X : Type 0} → Bool → Option X → Option X
hidden true o = None
hidden false o = o

pub by_bool : (P : Bool → Type 0) (b : Bool) → (b ≡ true → P true) → (b ≡ false → P false) → P b
by_bool P true f g = f refl
by_bool P false f g = g refl

-- the order on plain numbers
numbers_pass : (a b c x y z p q r : ℕ) → first_by a x (first_by b y (nat_lt c z)) ≡ true → first_by x p (first_by y q (nat_lt z r)) ≡ true → first_by a p (first_by b q (nat_lt c r)) ≡ true
numbers_pass a b c x y z p q r h k = grind (arith, nat_tests)

numbers_turn : (a b c x y z : ℕ) → first_by a x (first_by b y (nat_lt c z)) ≡ false → (nat_eq y b && nat_eq z c) ≡ false → first_by x a (first_by y b (nat_lt z c)) ≡ true
numbers_turn a b c x y z h k = grind (arith, nat_tests)

pub before_pass : (u v w : Version) → before u v ≡ true → before v w ≡ true → before u w ≡ true
before_pass u v w h k = numbers_pass u.time.0 u.leaf.0 u.pos v.time.0 v.leaf.0 v.pos w.time.0 w.leaf.0 w.pos h k

pub before_turn : (v w : Version) → before v w ≡ false → is_key v.leaf.0 v.pos w ≡ false → before w v ≡ true
before_turn v w h k = numbers_turn v.time.0 v.leaf.0 v.pos w.time.0 w.leaf.0 w.pos h k

all_after_pass : (u v : Version) (xs : List Version) → before u v ≡ true → AllAfter v xs → AllAfter u xs
all_after_pass u v [] h a = tt
all_after_pass u v (x ∷ xs) h a = (before_pass u v x h a.0, all_after_pass u v xs h a.1)

pub not_found : (b : Bool) (x : Version) (o : Option Version) → found_by b x o ≡ None → (b ≡ false) × (o ≡ None)
not_found true x o h = cc
not_found false x o h = (refl, h)

after_inserted : (u v : Version) (xs : List Version) → before u v ≡ true → AllAfter u xs → AllAfter u (inserted v xs)
after_inserted u v [] h a = (h, tt)
after_inserted u v (x ∷ xs) h a = by_bool (λ b. AllAfter u (inserted_by b v x xs (inserted v xs))) (before v x) (λ _. (h, a)) (λ _. (a.0, after_inserted u v xs h a.1))

pub key_is : (l p : ℕ) (x : Version) → is_key l p x ≡ true → (x.leaf.0 ≡ l) × (x.pos ≡ p)
key_is l p x h = both x.leaf.0 x.pos h
  where
    both : (a b : ℕ) → (nat_eq a l && nat_eq b p) ≡ true → (a ≡ l) × (b ≡ p)
    both a b h = (grind (arith, nat_tests), grind (arith, nat_tests))

clash : (v x : Version) (l p : ℕ) → is_key v.leaf.0 v.pos x ≡ false → is_key l p v ≡ true → is_key l p x ≡ false
clash v x l p h k = three v.leaf.0 v.pos x.leaf.0 x.pos h k
  where
    three : (a b c d : ℕ) → (nat_eq c a && nat_eq d b) ≡ false → (nat_eq a l && nat_eq b p) ≡ true → (nat_eq c l && nat_eq d p) ≡ false
    three a b c d h k = grind (arith, nat_tests)

swap : (a b : Bool) (v x : Version) (o : Option Version) → (a ≡ true → b ≡ false) → found_by b x (found_by a v o) ≡ found_by a v (found_by b x o)
swap true true v x o h = absurd (true≢false (h refl))
swap true false v x o h = refl
swap false b v x o h = refl

-- what is found after a version came
pub find_inserted : (l p : ℕ) (v : Version) (xs : List Version) → find v.leaf.0 v.pos xs ≡ None → find l p (inserted v xs) ≡ found_by (is_key l p v) v (find l p xs)
find_inserted l p v [] n = refl
find_inserted l p v (x ∷ xs) n =
    let k = not_found (is_key v.leaf.0 v.pos x) x (find v.leaf.0 v.pos xs) n in
    by_bool (λ b. find l p (inserted_by b v x xs (inserted v xs)) ≡ found_by (is_key l p v) v (find l p (x ∷ xs))) (before v x)
    (λ h. refl)
    (λ h. ap (λ o. found_by (is_key l p x) x o) (find_inserted l p v xs k.1) ∙ swap (is_key l p v) (is_key l p x) v x (find l p xs) (clash v x l p k.0))

find_less : (gone : ℕ → ℕ → Bool) (l p : ℕ) (x : Version) (b : Bool) (xs ys : List Version) → gone x.leaf.0 x.pos ≡ b → find l p ys ≡ hidden (gone l p) (find l p xs) →
    find l p (cond (not b) (x ∷ ys) ys) ≡ hidden (gone l p) (find l p (x ∷ xs))
find_less gone l p x true xs ys g h = by_bool (λ k. find l p ys ≡ hidden (gone l p) (found_by k x (find l p xs))) (is_key l p x)
    (λ k. let e = key_is l p x k in let t : gone l p ≡ true = ap (λ a. gone a p) (sym e.0) ∙ (ap (λ a. gone x.leaf.0 a) (sym e.1) ∙ g) in h ∙ (ap (λ b. hidden b (find l p xs)) t ∙ sym (ap (λ b. hidden b (Some x)) t)))
    (λ k. h)
find_less gone l p x false xs ys g h = by_bool (λ k. found_by k x (find l p ys) ≡ hidden (gone l p) (found_by k x (find l p xs))) (is_key l p x)
    (λ k. let e = key_is l p x k in let t : gone l p ≡ false = ap (λ a. gone a p) (sym e.0) ∙ (ap (λ a. gone x.leaf.0 a) (sym e.1) ∙ g) in sym (ap (λ b. hidden b (Some x)) t))
    (λ k. h)

hidden_none : (b : Bool) (o : Option Version) → o ≡ None → o ≡ hidden b o
hidden_none true o e = e
hidden_none false o e = refl

-- what is found after versions went
pub find_without : (gone : ℕ → ℕ → Bool) (l p : ℕ) (xs : List Version) → find l p (without_all gone xs) ≡ hidden (gone l p) (find l p xs)
find_without gone l p [] = hidden_none (gone l p) (find l p []) refl
find_without gone l p (x ∷ xs) = find_less gone l p x (gone x.leaf.0 x.pos) xs (without_all gone xs) refl (find_without gone l p xs)

after_without : (gone : ℕ → ℕ → Bool) (u : Version) (xs : List Version) → AllAfter u xs → AllAfter u (without_all gone xs)
after_without gone u [] a = tt
after_without gone u (x ∷ xs) a = by_bool (λ b. AllAfter u (cond (not b) (x ∷ without_all gone xs) (without_all gone xs))) (gone x.leaf.0 x.pos) (λ _. after_without gone u xs a.1) (λ _. (a.0, after_without gone u xs a.1))

hidden_stays : (b : Bool) (o : Option Version) → o ≡ None → hidden b o ≡ None
hidden_stays true o e = refl
hidden_stays false o e = e

key_turn : (v x : Version) → is_key v.leaf.0 v.pos x ≡ false → is_key x.leaf.0 x.pos v ≡ false
key_turn v x h = four v.leaf.0 v.pos x.leaf.0 x.pos h
  where
    four : (a b c d : ℕ) → (nat_eq c a && nat_eq d b) ≡ false → (nat_eq a c && nat_eq b d) ≡ false
    four a b c d h = grind (arith, nat_tests)

pub ordered_inserted : (v : Version) (xs : List Version) → find v.leaf.0 v.pos xs ≡ None → IsOrdered xs → IsOrdered (inserted v xs)
ordered_inserted v [] n o = (tt, refl, tt)
ordered_inserted v (x ∷ xs) n o =
    let k = not_found (is_key v.leaf.0 v.pos x) x (find v.leaf.0 v.pos xs) n in
    by_bool (λ b. IsOrdered (inserted_by b v x xs (inserted v xs))) (before v x)
    (λ h. ((h, all_after_pass v x xs h o.0), n, o))
    (λ h. (
      after_inserted x v xs (before_turn v x h k.0) o.0,
      find_inserted x.leaf.0 x.pos v xs k.1 ∙ (ap (λ b. found_by b v (find x.leaf.0 x.pos xs)) (key_turn v x k.0) ∙ o.1),
      ordered_inserted v xs k.1 o.2,
    ))

pub ordered_without : (gone : ℕ → ℕ → Bool) (xs : List Version) → IsOrdered xs → IsOrdered (without_all gone xs)
ordered_without gone [] o = tt
ordered_without gone (x ∷ xs) o = by_bool (λ b. IsOrdered (cond (not b) (x ∷ without_all gone xs) (without_all gone xs))) (gone x.leaf.0 x.pos) (λ _. ordered_without gone xs o.2)
    (λ _. (after_without gone x xs o.0, find_without gone x.leaf.0 x.pos xs ∙ hidden_stays (gone x.leaf.0 x.pos) (find x.leaf.0 x.pos xs) o.1, ordered_without gone xs o.2))
