-- The activities of a network are as the law asks.
use Rattle.std.proofs.Common.{ℕ, zero, suc, ◌+◌, ◌*◌, ◌≤◌, ◌<◌, ◌≡◌, sym, refl, subst, arith, Bool, true, false, not, cond, nat_eq, Result, Ok, Err, List, [], ◌∷◌, map, length, length-append, filter, ◌⊎◌, inl, inr}
use Rattle.std.specs.Prelude.{slice_index, slice_index_or, All}
use Rattle.std.specs.List.{count_by}
use Rattle.std.proofs.lemmas.Bool.Decides.{eqb_tells}
use Rattle.std.proofs.lemmas.List.{length-map}
use Rattle.std.proofs.lemmas.List.Elements.{All-cons, All-nil}
use Rattle.std.proofs.lemmas.List.Sums.{length-filter, count_by-le-length, sum_by-cons}
use Rattle.std.proofs.lemmas.List.Filters.{length-filter_both}
use Rattle.san_base.specs.declared.ending.Trap.{Trap}
use Rattle.san_law.proofs.Made.{none_made}
use Rattle.san_law.specs.Activity as leaf
use Rattle.san_law.specs.Network as law
use Rattle.san_net.specs.Accepted.{IsAccepted, rewards_of}
use Rattle.san_net.specs.Completion.{completion_of}
use Rattle.san_net.specs.Instants.{Named}
use Rattle.san_net.specs.Laid.{EachPart, IsNetwork}
use Rattle.san_net.specs.Leaf.{activities_from, activity_in, completed_in, effected_by, impulse_in, impulses_in, leaf_of}
use Rattle.san_net.specs.Network.{Network, network_in}
use Rattle.san_net.specs.declared.activity.Activity.{Activity}
use Rattle.san_net.specs.declared.atomic.ImpulseTerm.{ImpulseTerm}
use Rattle.san_net.specs.declared.part.Part.{Part}
use Rattle.san_net.proofs.ConcernLemmas.{completion_concerns}

abbrev one_if : Bool → ℕ
one_if b = cond b 1 0

pub all_first : {X : Type 0} (P : X → Type 0) (x : X) (xs : List X) → All P (x ∷ xs) → P x
all_first P x xs h = h 0 x (omega arith)

pub all_rest : {X : Type 0} (P : X → Type 0) (x : X) (xs : List X) → All P (x ∷ xs) → All P xs
all_rest P x xs h = λ k d l. h (suc k) d (omega (arith, l))

-- numbers other than one
abbrev others : ℕ → List ℕ → List ℕ
others n xs = filter (λ x. not (nat_eq n x)) xs

count_others : (p : ℕ → Bool) (n : ℕ) (xs : List ℕ) → count_by p (others n xs) ≤ count_by p xs
count_others p n [] = omega arith
count_others p n (x ∷ xs) = by_test (nat_eq n x) (count_others p n xs)
  where
    by_test : (b : Bool) → count_by p (others n xs) ≤ count_by p xs → count_by p (cond (not b) (x ∷ others n xs) (others n xs)) ≤ count_by p (x ∷ xs)
    by_test true h = let all = sum_by-cons (λ y. one_if (p y)) x xs in omega (arith, all, h)
    by_test false h =
        let all = sum_by-cons (λ y. one_if (p y)) x xs in
        let some = sum_by-cons (λ y. one_if (p y)) x (others n xs) in
        omega (arith, all, some, h)

others_below : (n : ℕ) (xs : List ℕ) → All (λ x. x < suc n) xs → All (λ x. x < n) (others n xs)
others_below n [] h = All-nil (λ y. y < n)
others_below n (x ∷ xs) h = by_test (eqb_tells n x) (others_below n xs (all_rest (λ y. y < suc n) x xs h))
  where
    less : x < suc n → (n ≡ x → ⊥) → x < n
    less l apart = omega (arith, l, apart)

    by_test : ((nat_eq n x ≡ true) × (n ≡ x)) ⊎ ((nat_eq n x ≡ false) × (n ≡ x → ⊥)) → All (λ y. y < n) (others n xs) → All (λ y. y < n) (others n (x ∷ xs))
    by_test (inl t) r = subst (λ (b : Bool). All (λ y. y < n) (cond (not b) (x ∷ others n xs) (others n xs))) (sym t.0) r
    by_test (inr t) r = subst (λ (b : Bool). All (λ y. y < n) (cond (not b) (x ∷ others n xs) (others n xs))) (sym t.0) (All-cons (λ y. y < n) x (others n xs) (less (all_first (λ y. y < suc n) x xs h) t.1) r)

-- numbers below n, each at most 16 times
few_in_all : (n : ℕ) (xs : List ℕ) → All (λ x. x < n) xs → ((r : ℕ) → count_by (nat_eq r) xs ≤ 16) → length xs ≤ 16 * n
few_in_all n [] below each = omega arith
few_in_all zero (x ∷ xs) below each = absurd (none (all_first (λ y. y < 0) x xs below))
  where
    none : x < 0 → ⊥
    none l = omega (arith, l)
few_in_all (suc n) (x ∷ xs) below each =
    let split = length-filter_both (nat_eq n) (λ y. not (nat_eq n y)) (λ y. refl) (x ∷ xs) in
    let some = length-filter (nat_eq n) (x ∷ xs) in
    let rest = few_in_all n (others n (x ∷ xs)) (others_below n (x ∷ xs) below) (λ r. few_of r) in
    omega (arith, split, some, rest, each n)
  where
    few_of : (r : ℕ) → count_by (nat_eq r) (others n (x ∷ xs)) ≤ 16
    few_of r = let a = count_others (nat_eq r) n (x ∷ xs) in omega (arith, a, each r)

-- a completion that leaves as many values, those that it doesn't assign as they are, or traps
abbrev Keeps : List ℕ → Result leaf.Effected Trap → Type 0
Keeps v (Err t) = Unit {0}
Keeps v (Ok e) = (length e.values ≡ length v) × ((p : ℕ) → e.sets p ≡ false → slice_index e.values p ≡ slice_index v p)

keeps : (a : Activity) (u : ℕ) (v : List ℕ) → Keeps v (completed_in a u v)
keeps a u v = by_answer (completion_of u a v).answer
  where
    by_answer : (r : Result ℕ Trap) → Keeps v (effected_by (completion_of u a v) r)
    by_answer (Err t) = tt
    by_answer (Ok k) = let c = completion_concerns u a in (c.sized v, λ p h. c.unset v p h)

few_impulses : (terms : List ImpulseTerm) (k : ℕ) (v : List ℕ) → length (impulses_in terms k v) ≤ length terms
few_impulses terms k v =
    let a = length-map (filter (λ t. nat_eq t.act k) terms) (impulse_in v) in
    let b = length-filter (λ (t : ImpulseTerm). nat_eq t.act k) terms in
    let c = count_by-le-length (λ (t : ImpulseTerm). nat_eq t.act k) terms in
    omega (arith, a, b, c)

activity_made : (terms : List ImpulseTerm) (k : ℕ) (a : Activity) → length terms ≤ 1024 → leaf.IsMade (activity_in terms k a)
activity_made terms k a few = record {
  keeps = λ u v e is. (subst (Keeps v) is (keeps a u v)).0;
  sets = λ u v e is. (subst (Keeps v) is (keeps a u v)).1;
  few = λ v. let h = few_impulses terms k v in omega (arith, h, few);
}

activities_made : (terms : List ImpulseTerm) → length terms ≤ 1024 → (n : ℕ) (acts : List Named) (k : ℕ) → leaf.IsMade (slice_index_or (activities_from terms n acts) k leaf.no_activity)
activities_made terms few n [] k = none_made
activities_made terms few n (a ∷ acts) zero = activity_made terms n a.1 few
activities_made terms few n (a ∷ acts) (suc k) = activities_made terms few (suc n) acts k

abbrev LeafMade : leaf.Part → Type 0
LeafMade part = (k : ℕ) → leaf.IsMade (leaf.activity_of part k)

leaves_made : (parts : List Part) → EachPart parts (λ _ p. LeafMade (leaf_of p)) → (j : ℕ) → LeafMade (slice_index_or (map leaf_of parts) j law.no_part)
leaves_made [] each j = λ k. none_made
leaves_made (p ∷ parts) each zero = each 0 p refl
leaves_made (p ∷ parts) each (suc j) = leaves_made parts (λ n q is. each (suc n) q is) j

part_made : (p : Part) (rewards : ℕ) → IsAccepted p.atomic → rewards ≤ 64 → All (λ r. r < rewards) (rewards_of p.atomic) → LeafMade (leaf_of p)
part_made p rewards a few known k =
    let all = few_in_all rewards (rewards_of p.atomic) known a.terms in
    let as_many = length-map p.atomic.impulses (λ (t : ImpulseTerm). t.reward) in
    activities_made p.atomic.impulses (omega (arith, all, few, as_many, parted)) 0 p.atomic.acts k
  where
    parted : length (rewards_of p.atomic) ≡ length (map (λ t. t.reward) p.atomic.rates) + length (map (λ t. t.reward) p.atomic.impulses)
    parted = length-append (map (λ t. t.reward) p.atomic.rates) (map (λ t. t.reward) p.atomic.impulses)

pub all_made : (n : Network) → IsNetwork n → law.AllMade (network_in n)
all_made n net j k = leaves_made n.parts (λ i p is. part_made p (length n.rewards) (net.accepted i p is) net.rewarded.few (net.rewarded.known i p is)) j k
