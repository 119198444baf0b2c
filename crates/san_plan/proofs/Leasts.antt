-- The least of some keys that nothing comes before is the earliest of what the keys are of, once it is exact.
use Rattle.std.proofs.Common.{ℕ, zero, suc, ◌+◌, ◌<◌, ◌≤◌, ◌≡◌, ◌∙◌, ap, sym, refl, subst, arith, List, [], ◌∷◌, length, Option, Some, None, Bool, true, false, nat_lt, nat_le, cond, slice_set}
use Rattle.std.proofs.lemmas.Bool.Decides.{nat_tests}
use Rattle.san_base.proofs.NumberTests.{number_itself, same_number, some_same}
use Rattle.san_line.specs.Lines.{first_by}
use Rattle.san_winner.specs.Least.{Won, leaf, least_from, sooner}
use Rattle.san_plan.specs.Soonest.{is_key, key_of, wrong, wrong_by}

-- a winner is no later than a key at an index
abbrev pub Under : Won → ℕ → ℕ → Type 0
Under None t i = ⊥
Under (Some x) t i = first_by x.0 t (nat_le x.1 i) ≡ true

itself : (t i : ℕ) → first_by t t (nat_le i i) ≡ true
itself t i = grind (arith, nat_tests)

sooner_than : (a b t i : ℕ) → nat_lt a t ≡ true → first_by a t (nat_le b i) ≡ true
sooner_than a b t i h = grind (arith, nat_tests)

no_later_than : (a b s j t i : ℕ) → nat_lt a s ≡ false → first_by a t (nat_le b i) ≡ true → j ≤ i → first_by s t (nat_le j i) ≡ true
no_later_than a b s j t i h k l = grind (arith, nat_tests)

here_under : (i t : ℕ) (o : Won) → Under (sooner (Some (t, i)) o) t i
here_under i t None = itself t i
here_under i t (Some b) = by_test (nat_lt b.0 t) refl
  where
    by_test : (c : Bool) → nat_lt b.0 t ≡ c → Under (cond c (Some b) (Some (t, i))) t i
    by_test true e = sooner_than b.0 b.1 t i e
    by_test false e = itself t i

later_under : (i k t : ℕ) (x : Option ℕ) (o : Won) → i ≤ k → Under o t k → Under (sooner (leaf i x) o) t k
later_under i k t None o l h = h
later_under i k t (Some s) None l h = absurd h
later_under i k t (Some s) (Some b) l h = by_test (nat_lt b.0 s) refl
  where
    by_test : (c : Bool) → nat_lt b.0 s ≡ c → Under (cond c (Some b) (Some (s, i))) t k
    by_test true e = h
    by_test false e = no_later_than b.0 b.1 s i t k e h l

all_from : (i : ℕ) (keys : List (Option ℕ)) (k j t : ℕ) → j ≡ i + k → key_of keys k ≡ Some t → Under (least_from i keys) t j
unfolding least_from
all_from i [] k j t e is = absurd (cc)
all_from i (x ∷ xs) zero j t e is =
    let same : i ≡ j = omega (arith, e) in
    subst (λ (n : ℕ). Under (sooner (leaf i x) (least_from (suc i) xs)) t n) same
    (subst (λ (o : Option ℕ). Under (sooner (leaf i o) (least_from (suc i) xs)) t i) (sym is) (here_under i t (least_from (suc i) xs)))
all_from i (x ∷ xs) (suc k) j t e is = later_under i j t x (least_from (suc i) xs) (omega (arith, e)) (all_from (suc i) xs k j t (omega (arith, e)) is)

pub all_under : (keys : List (Option ℕ)) (k t : ℕ) → key_of keys k ≡ Some t → Under (least_from 0 keys) t k
all_under keys k t is = all_from 0 keys k k t (omega arith) is

-- two that are no later than each other are one
pub one_least : (a b s i : ℕ) → first_by a s (nat_le b i) ≡ true → first_by s a (nat_le i b) ≡ true → (a ≡ s) × (b ≡ i)
one_least a b s i h k = (grind (arith, nat_tests), grind (arith, nat_tests))

-- an earlier key comes before
pub under_lower : (a b k t i : ℕ) → k ≤ t → first_by a k (nat_le b i) ≡ true → first_by a t (nat_le b i) ≡ true
under_lower a b k t i l h = grind (arith, nat_tests)

-- keys that are set right
pub same_is : (a b : Option ℕ) → is_key a b ≡ true → a ≡ b
same_is None None e = refl
same_is None (Some t) e = absurd (cc)
same_is (Some s) None e = absurd (cc)
same_is (Some s) (Some t) e = ap (λ (n : ℕ). (let o : Option ℕ = Some n in o)) (same_number s t e)

same_itself : (a : Option ℕ) → is_key a a ≡ true
same_itself None = refl
same_itself (Some s) = number_itself s

wrong_less : (b : Bool) (n : ℕ) → b ≡ true → wrong_by b n ≡ n
wrong_less true n e = refl
wrong_less false n e = absurd (cc)

wrong_more : (b : Bool) (n : ℕ) → b ≡ false → wrong_by b n ≡ suc n
wrong_more false n e = refl
wrong_more true n e = absurd (cc)

wrong_rest : (b : Bool) (m n : ℕ) → m < n → wrong_by b m < wrong_by b n
wrong_rest true m n l = l
wrong_rest false m n l = omega (arith, l)

pub wrong_set : (f : ℕ → Option ℕ) (i : ℕ) (keys : List (Option ℕ)) (k j : ℕ) → j ≡ i + k → k < length keys → is_key (key_of keys k) (f j) ≡ false → wrong f i (slice_set keys k (f j)) < wrong f i keys
wrong_set f i [] k j e l h = absurd (omega (arith, l))
wrong_set f i (x ∷ xs) zero j e l h =
    let same : i ≡ j = omega (arith, e) in
    let now : wrong_by (is_key (f j) (f i)) (wrong f (suc i) xs) ≡ wrong f (suc i) xs = wrong_less (is_key (f j) (f i)) (wrong f (suc i) xs) (ap (λ (n : ℕ). is_key (f j) (f n)) same ∙ same_itself (f j)) in
    let was : wrong_by (is_key x (f i)) (wrong f (suc i) xs) ≡ suc (wrong f (suc i) xs) = wrong_more (is_key x (f i)) (wrong f (suc i) xs) (ap (λ (n : ℕ). is_key x (f n)) same ∙ h) in
    omega (arith, now, was)
wrong_set f i (x ∷ xs) (suc k) j e l h = wrong_rest (is_key x (f i)) (wrong f (suc i) (slice_set xs k (f j))) (wrong f (suc i) xs) (wrong_set f (suc i) xs k j (omega (arith, e)) (omega (arith, l)) h)

-- the least is the key at its index
record IsKeyOf (i : ℕ) (keys : List (Option ℕ)) (x : ℕ × ℕ) : Type 0 where
  index : ℕ
  at : x.1 ≡ i + index
  within : index < length keys
  key : key_of keys index ≡ Some x.0

key_later : (i : ℕ) (k : Option ℕ) (ks : List (Option ℕ)) (x : ℕ × ℕ) → IsKeyOf (suc i) ks x → IsKeyOf i (k ∷ ks) x
key_later i k ks x h = record { index = suc h.index; at = let e = h.at in omega (arith, e); within = let w = h.within in omega (arith, w); key = h.key }

key_here : (i s : ℕ) (ks : List (Option ℕ)) (x : ℕ × ℕ) → Some (s, i) ≡ Some x → IsKeyOf i (Some s ∷ ks) x
key_here i s ks x e = subst (IsKeyOf i (Some s ∷ ks)) (some_same (s, i) x e) (record { index = 0; at = omega arith; within = omega arith; key = refl })

key_by : (i : ℕ) (k : Option ℕ) (ks : List (Option ℕ)) (o : Won) → ((y : ℕ × ℕ) → o ≡ Some y → IsKeyOf (suc i) ks y) → (x : ℕ × ℕ) → sooner (leaf i k) o ≡ Some x → IsKeyOf i (k ∷ ks) x
key_by i None ks o h x e = key_later i None ks x (h x e)
key_by i (Some s) ks None h x e = key_here i s ks x e
key_by i (Some s) ks (Some b) h x e = by_test (nat_lt b.0 s) e
  where
    by_test : (t : Bool) → cond t (Some b) (Some (s, i)) ≡ Some x → IsKeyOf i (Some s ∷ ks) x
    by_test true is = key_later i (Some s) ks x (h x is)
    by_test false is = key_here i s ks x is

key_from : (i : ℕ) (keys : List (Option ℕ)) (x : ℕ × ℕ) → least_from i keys ≡ Some x → IsKeyOf i keys x
unfolding least_from
key_from i [] x e = absurd (cc)
key_from i (k ∷ ks) x e = key_by i k ks (least_from (suc i) ks) (key_from (suc i) ks) x e

pub least_key : (keys : List (Option ℕ)) (t at : ℕ) → least_from 0 keys ≡ Some (t, at) → (at < length keys) × (key_of keys at ≡ Some t)
least_key keys t at e =
    let h = key_from 0 keys (t, at) e in
    let same : h.index ≡ at = let a = h.at in omega (arith, a) in
    (let w = h.within in omega (arith, w, same), subst (λ (n : ℕ). key_of keys n ≡ Some t) same h.key)
