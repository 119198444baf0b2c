-- Searches by halves in versions in order.
use Rattle.std.proofs.Common.{ℕ, zero, suc, ◌<◌, ◌≤◌, ◌≡◌, ◌∙◌, ap, sym, refl, not, List, [], ◌∷◌, length, take, drop, get_or, Bool, true, false, nat_eq, nat_lt, nat_le, cond, ◌&&◌, ◌||◌, inl, inr, ◌⊎◌, ◌≢◌, arith}
use Rattle.std.specs.Prelude.{insert}
use Rattle.std.specs.List.Sorted.{IsPartitionPoint, IsPartitionedBy}
use Rattle.std.proofs.lemmas.Bool.Decides.{nat_tests}
use Rattle.std.proofs.lemmas.Bool.{cases_eq, true≢false}
use Rattle.san_base.specs.declared.piece.Stamp.{Stamp}
use Rattle.san_line.specs.Lines.{before, first_by, inserted, inserted_by, next_after, next_by, sees, sees_now, value_at, value_or}
use Rattle.san_line.specs.Ordered.{AllAfter, IsOrdered}
use Rattle.san_line.specs.inner.Searches.{reaches, reaches_by}
use Rattle.san_line.specs.declared.version.Version.{Version}
use Rattle.san_line.proofs.Ordered.{before_pass, by_bool}

after_at : (v : Version) (xs : List Version) (j : ℕ) (d : Version) → AllAfter v xs → j < length xs → before v (get_or xs j d) ≡ true
after_at v [] j d a h = absurd (omega (arith, h))
after_at v (x ∷ xs) zero d a h = a.0
after_at v (x ∷ xs) (suc j) d a h = after_at v xs j d a.1 (omega (arith, h))

-- of two, the earlier comes before the later
pub ordered_at : (xs : List Version) (i j : ℕ) (d : Version) → IsOrdered xs → i < j → j < length xs → before (get_or xs i d) (get_or xs j d) ≡ true
ordered_at [] i j d o h k = absurd (omega (arith, k))
ordered_at (x ∷ xs) i zero d o h k = absurd (omega (arith, h))
ordered_at (x ∷ xs) zero (suc j) d o h k = after_at x xs j d o.0 (omega (arith, k))
ordered_at (x ∷ xs) (suc i) (suc j) d o h k = ordered_at xs i j d o.2 (omega (arith, h)) (omega (arith, k))

-- a test that passes from each version to those before it parts a list in order
pub parted_by : (p : Version → Bool) → ((v w : Version) → before v w ≡ true → p w ≡ true → p v ≡ true) → (xs : List Version) → IsOrdered xs → IsPartitionedBy p xs
parted_by p down xs o i j d h k e = by_order (cases_eq i j)
  where
    by_order : (i ≡ j) ⊎ (i ≢ j) → p (get_or xs i d) ≡ true
    by_order (inl s) = ap (λ n. p (get_or xs n d)) s ∙ e
    by_order (inr n) = down (get_or xs i d) (get_or xs j d) (ordered_at xs i j d o (omega (arith, h, n)) k) e

-- the place of a version among others in order
pub inserted_at : (v : Version) (xs : List Version) (i : ℕ) → i ≤ length xs → IsPartitionPoint (λ y. not (before v y) ≡ true) (λ y. not (before v y) ≡ false) xs i → inserted v xs ≡ insert xs i v
inserted_at v [] zero h p = refl
inserted_at v [] (suc i) h p = absurd (omega (arith, h))
inserted_at v (x ∷ xs) zero h p =
    by_bool (λ b. not b ≡ false → inserted_by b v x xs (inserted v xs) ≡ v ∷ (x ∷ xs)) (before v x) (λ _ _. refl) (λ _ e. absurd (true≢false e)) (p.1 0 v (omega arith) (omega arith))
inserted_at v (x ∷ xs) (suc i) h p =
    by_bool (λ b. not b ≡ true → inserted_by b v x xs (inserted v xs) ≡ x ∷ insert xs i v) (before v x) (λ _ e. absurd (true≢false (sym e)))
    (λ _ e. ap (λ (ys : List Version). x ∷ ys) (inserted_at v xs i (omega (arith, h)) (λ k d a b. p.0 (suc k) d (omega arith) (omega (arith, b)), λ k d a b. p.1 (suc k) d (omega (arith, a)) (omega (arith, b)))))
    (p.0 0 v (omega arith) (omega arith))

-- what a version doesn't come before, it doesn't come before what stands in front of that
pub behind_parts : (v : Version) (xs : List Version) → IsOrdered xs → IsPartitionedBy (λ w. not (before v w)) xs
behind_parts v xs o = parted_by (λ w. not (before v w)) down xs o
  where
    down : (a b : Version) → before a b ≡ true → not (before v b) ≡ true → not (before v a) ≡ true
    down a b h e = by_bool (λ t. before v a ≡ t → not t ≡ true) (before v a) (λ is same. absurd (true≢false (sym (e ∙ refl) ∙ ap not (before_pass v a b is h)))) (λ _ _. refl) refl

-- what is up to a time has what stands in front of it up to that time
time_numbers : (a b c x y z p : ℕ) → first_by a x (first_by b y (nat_lt c z)) ≡ true → nat_le x p ≡ true → nat_le a p ≡ true
time_numbers a b c x y z p h k = grind (arith, nat_tests)

time_down : (p : ℕ) (v w : Version) → before v w ≡ true → nat_le w.time.0 p ≡ true → nat_le v.time.0 p ≡ true
time_down p v w h e = time_numbers v.time.0 v.leaf.0 v.pos w.time.0 w.leaf.0 w.pos p h e

pub time_parts : (after : ℕ) (xs : List Version) → IsOrdered xs → IsPartitionedBy (λ v. nat_le v.time.0 after) xs
time_parts after xs o = parted_by (λ v. nat_le v.time.0 after) (time_down after) xs o

-- what a stamp sees without the others of its time
plain : (b : Bool) (s : Stamp) (v : Version) → s.all ≡ false → sees_now b s v ≡ cond b (nat_lt v.pos s.pos) (nat_lt v.leaf.0 s.leaf.0)
plain true s v q = refl
plain false s v q = ap (λ a. a || nat_lt v.leaf.0 s.leaf.0) q

sees_plain : (s : Stamp) (v : Version) → s.all ≡ false → sees s v ≡ first_by v.time.0 s.time.0 (cond (nat_eq v.leaf.0 s.leaf.0) (nat_lt v.pos s.pos) (nat_lt v.leaf.0 s.leaf.0))
sees_plain s v q = ap (first_by v.time.0 s.time.0) (plain (nat_eq v.leaf.0 s.leaf.0) s v q)

sees_numbers : (a b c x y z p q r : ℕ) → first_by a x (first_by b y (nat_lt c z)) ≡ true → first_by x p (cond (nat_eq y q) (nat_lt z r) (nat_lt y q)) ≡ true → first_by a p (cond (nat_eq b q) (nat_lt c r) (nat_lt b q)) ≡ true
sees_numbers a b c x y z p q r h k = grind (arith, nat_tests)

sees_down : (s : Stamp) (v w : Version) → s.all ≡ false → before v w ≡ true → sees s w ≡ true → sees s v ≡ true
sees_down s v w q h e = sees_plain s v q ∙ sees_numbers v.time.0 v.leaf.0 v.pos w.time.0 w.leaf.0 w.pos s.time.0 s.leaf.0 s.pos h (sym (sees_plain s w q) ∙ e)

-- a stamp reaches what stands in front of what it reaches, and sees nothing that it doesn't reach
pub reach_parts : (s : Stamp) (xs : List Version) → IsOrdered xs → IsPartitionedBy (reaches s) xs
reach_parts s xs o = parted_by (reaches s) (λ v w h e. by_all s.all refl v w h e) xs o
  where
    by_all : (b : Bool) → s.all ≡ b → (v w : Version) → before v w ≡ true → reaches_by b s w ≡ true → reaches_by b s v ≡ true
    by_all true q v w h e = time_down s.time.0 v w h e
    by_all false q v w h e = sees_down s v w q h e

unseen_numbers : (a p : ℕ) (rest : Bool) → nat_le a p ≡ false → first_by a p rest ≡ false
unseen_numbers a p rest h = grind (arith, nat_tests)

pub unreached_unseen : (s : Stamp) (v : Version) → reaches s v ≡ false → sees s v ≡ false
unreached_unseen s v h = by_all s.all h
  where
    by_all : (b : Bool) → reaches_by b s v ≡ false → sees s v ≡ false
    by_all true e = unseen_numbers v.time.0 s.time.0 (sees_now (nat_eq v.leaf.0 s.leaf.0) s v) e
    by_all false e = e

-- where the rest isn't seen, a stamp sees what it sees of the front
none_seen : (s : Stamp) (c : ℕ) (xs : List Version) → ((k : ℕ) (d : Version) → k < length xs → sees s (get_or xs k d) ≡ false) → value_at s c xs ≡ c
none_seen s c [] h = refl
none_seen s c (x ∷ xs) h = ap (λ b. value_at s (value_or b x.value c) xs) (h 0 x (omega arith)) ∙ none_seen s c xs (λ k d l. h (suc k) d (omega (arith, l)))

pub seen_of_front : (s : Stamp) (c : ℕ) (xs : List Version) (i : ℕ) → ((k : ℕ) (d : Version) → i ≤ k → k < length xs → sees s (get_or xs k d) ≡ false) → value_at s c xs ≡ value_at s c (take i xs)
seen_of_front s c xs zero h = none_seen s c xs (λ k d l. h k d (omega arith) l)
seen_of_front s c [] (suc i) h = refl
seen_of_front s c (x ∷ xs) (suc i) h = seen_of_front s (value_or (sees s x) x.value c) xs i (λ k d a l. h (suc k) d (omega (arith, a)) (omega (arith, l)))

-- the last version of a front, seen or not
pub last_unseen : (s : Stamp) (c : ℕ) (xs : List Version) (i : ℕ) (d : Version) → i < length xs → sees s (get_or xs i d) ≡ false → value_at s c (take (suc i) xs) ≡ value_at s c (take i xs)
last_unseen s c [] i d h e = absurd (omega (arith, h))
last_unseen s c (x ∷ xs) zero d h e = ap (λ b. value_or b x.value c) e
last_unseen s c (x ∷ xs) (suc i) d h e = last_unseen s (value_or (sees s x) x.value c) xs i d (omega (arith, h)) e

pub last_is_seen : (s : Stamp) (c : ℕ) (xs : List Version) (i : ℕ) (d : Version) → i < length xs → sees s (get_or xs i d) ≡ true → value_at s c (take (suc i) xs) ≡ (get_or xs i d).value
last_is_seen s c [] i d h e = absurd (omega (arith, h))
last_is_seen s c (x ∷ xs) zero d h e = ap (λ b. value_or b x.value c) e
last_is_seen s c (x ∷ xs) (suc i) d h e = last_is_seen s (value_or (sees s x) x.value c) xs i d (omega (arith, h)) e

-- versions up to a time are none above it
pub later_of_rest : (leaf after : ℕ) (xs : List Version) (i : ℕ) → ((k : ℕ) (d : Version) → k < i → nat_le (get_or xs k d).time.0 after ≡ true) → i ≤ length xs → next_after leaf after xs ≡ next_after leaf after (drop i xs)
later_of_rest leaf after xs zero h l = refl
later_of_rest leaf after [] (suc i) h l = refl
later_of_rest leaf after (x ∷ xs) (suc i) h l =
    ap (λ b. next_by b x (next_after leaf after xs)) (early x.leaf.0 x.time.0 (h 0 x (omega arith))) ∙ later_of_rest leaf after xs i (λ k d a. h (suc k) d (omega (arith, a))) (omega (arith, l))
  where
    early : (a t : ℕ) → nat_le t after ≡ true → (not (nat_eq a leaf) && nat_lt after t) ≡ false
    early a t e = grind (arith, nat_tests)
