-- Chains that are pushed to, cut and headed.
use Rattle.san_base.proofs.NumberTests.{same_number, by_number}
use Rattle.std.proofs.Common.{ℕ, zero, suc, ◌<◌, ◌≤◌, ◌≡◌, ◌≢◌, ◌∙◌, ◌||◌, inl, inr, ap, sym, refl, subst, List, [], ◌∷◌, ◌++◌, length, take, drop, Some, Bool, true, false, nat_eq, arith, slice_set}
use Rattle.std.proofs.lemmas.Bool.{cases_lt, eq-eqb, ne_eqb, true≢false}
use Rattle.std.proofs.lemmas.List.{get_or-set_other, get_or-set_same, get_or_past}
use Rattle.san_chain.specs.Chains.{end_from}
use Rattle.san_line.proofs.Ordered.{by_bool}
use Rattle.san_book.specs.Machines.{Machine, PieceReading}
use Rattle.san_book.specs.Lines.{AreWrites}
use Rattle.san_book.specs.Chains.{AreNumberedBelow, AllFit, AreMadeByLogs, AreNumberedApart, Chain, Connects, chain_of, has}
use Rattle.san_book.specs.Whole.{IsChain}
use Rattle.san_book.proofs.Each.{either}
use Rattle.san_book.proofs.Written.{no_chain, with_chain}

-- chains after a change at a leaf
pub set_chain : {P : Type 0} (chains : List (Chain P)) (j : ℕ) (c : Chain P) → j < length chains → (i : ℕ) → with_chain (chain_of chains) j c i ≡ chain_of (slice_set chains j c) i
set_chain chains j c h i = by_bool (λ t. either t c (chain_of chains i) ≡ chain_of (slice_set chains j c) i) (nat_eq j i)
    (λ k. sym (ap (λ (n : ℕ). chain_of (slice_set chains j c) n) (sym (same_number j i k)) ∙ get_or-set_same chains j c no_chain h))
    (λ k. sym (get_or-set_other chains j i c no_chain (λ e. true≢false (sym (eq-eqb j i (sym e)) ∙ k))))

-- a leaf whose chain has a piece is there
pub within : {P : Type 0} (chains : List (Chain P)) (j k : ℕ) → k < length (chain_of chains j) → j < length chains
within {P} chains j k h = elim (cases_lt j (length chains)) [
  | inl a ↦ a
  | inr b ↦ absurd (let e : length (chain_of chains j) ≡ 0 = ap (λ (c : Chain P). length c) (get_or_past chains j no_chain b) in omega (arith, e, h))
]

pub chains_by : {P : Type 0} (Q : ℕ → Chain P → Type 0) (chains : List (Chain P)) (j : ℕ) (c : Chain P) → j < length chains → Q j c → ((i : ℕ) → i ≢ j → Q i (chain_of chains i)) → (i : ℕ) → Q i (chain_of (slice_set chains j c) i)
chains_by {P} Q chains j c h here others = by_number (λ i. Q i (chain_of (slice_set chains j c) i)) j
    (subst (λ (x : Chain P). Q j x) (sym (get_or-set_same chains j c no_chain h)) here)
    (λ i d. subst (λ (x : Chain P). Q i x) (sym (get_or-set_other chains j i c no_chain d)) (others i d))

-- numbers
pub free_below : {P : Type 0} (n : ℕ) (xs : Chain P) → AreNumberedBelow n xs → has n xs ≡ false
free_below n [] h = refl
free_below n (x ∷ xs) h = ap (λ b. b || has n xs) (ne_eqb x.0 n (λ e. omega (arith, e, h.0))) ∙ free_below n xs h.1

has_push : {P : Type 0} (n : ℕ) (xs : Chain P) (x : ℕ × P) → has n xs ≡ false → nat_eq x.0 n ≡ false → has n (xs ++ x ∷ []) ≡ false
has_push n [] x h k = ap (λ b. b || false) k
has_push n (y ∷ ys) x h k = both (nat_eq y.0 n) (has n ys) h (λ e. has_push n ys x e k)
  where
    both : (a b : Bool) → (a || b) ≡ false → (b ≡ false → has n (ys ++ x ∷ []) ≡ false) → (a || has n (ys ++ x ∷ [])) ≡ false
    both true b e f = cc
    both false b e f = f e

apart_push : {P : Type 0} (n : ℕ) (xs : Chain P) (p : P) → AreNumberedBelow n xs → AreNumberedApart xs → AreNumberedApart (xs ++ (n, p) ∷ [])
apart_push n [] p b h = (refl, tt)
apart_push n (y ∷ ys) p b h = (has_push y.0 ys (n, p) h.0 (ne_eqb n y.0 (λ e. omega (arith, e, b.0))), apart_push n ys p b.1 h.1)

below_push : {P : Type 0} (n : ℕ) (xs : Chain P) (p : P) → AreNumberedBelow n xs → AreNumberedBelow (suc n) (xs ++ (n, p) ∷ [])
below_push n [] p h = (omega arith, tt)
below_push n (y ∷ ys) p h = (omega (arith, h.0), below_push n ys p h.1)

pub below_grow : {P : Type 0} (a b : ℕ) (xs : Chain P) → a ≤ b → AreNumberedBelow a xs → AreNumberedBelow b xs
below_grow a b [] l h = tt
below_grow a b (x ∷ xs) l h = (omega (arith, l, h.0), below_grow a b xs l h.1)

-- writes and logs
fit_push : {S P : Type 0} (r : PieceReading S P) (k : ℕ) (xs : Chain P) (x : ℕ × P) → AreWrites k (r.writes x.1) → AllFit r k xs → AllFit r k (xs ++ x ∷ [])
fit_push r k [] x w h = (w, tt)
fit_push r k (y ∷ ys) x w h = (h.0, fit_push r k ys x w h.1)

pub fit_back : {S P : Type 0} (r : PieceReading S P) (n k : ℕ) (xs : Chain P) → AllFit r n xs → AllFit r n (drop k xs)
fit_back r n zero xs h = h
fit_back r n (suc k) [] h = tt
fit_back r n (suc k) (x ∷ xs) h = fit_back r n k xs h.1

made_push : {H S P : Type 0} (m : Machine H S P) (j : ℕ) (xs : Chain P) (x : ℕ × P) → m.makes j (m.reading.base x.1) (m.reading.kind x.1) (m.reading.time x.1) (m.reading.log x.1) ≡ Some x.1 → AreMadeByLogs m j xs → AreMadeByLogs m j (xs ++ x ∷ [])
made_push m j [] x w h = (w, tt)
made_push m j (y ∷ ys) x w h = (h.0, made_push m j ys x w h.1)

-- joins
pub connects_push : {S P : Type 0} (r : PieceReading S P) (s : S) (xs : Chain P) (x : ℕ × P) → r.base x.1 ≡ end_from r.end s xs → Connects r s xs → Connects r s (xs ++ x ∷ [])
connects_push r s [] x e h = (e, tt)
connects_push r s (y ∷ ys) x e h = (h.0, connects_push r (r.end y.1) ys x e h.1)

pub connects_front : {S P : Type 0} (r : PieceReading S P) (s : S) (k : ℕ) (xs : Chain P) → Connects r s xs → Connects r s (take k xs)
connects_front r s zero xs h = tt
connects_front r s (suc k) [] h = tt
connects_front r s (suc k) (x ∷ xs) h = (h.0, connects_front r (r.end x.1) k xs h.1)

-- a chain with a piece more
pub chain_push : {H S P : Type 0} (m : Machine H S P) (j n : ℕ) (xs : Chain P) (p : P) → AreWrites m.width (m.reading.writes p) → m.makes j (m.reading.base p) (m.reading.kind p) (m.reading.time p) (m.reading.log p) ≡ Some p → IsChain m j n xs → IsChain m j (suc n) (xs ++ (n, p) ∷ [])
chain_push m j n xs p w made h = record {
  apart = apart_push n xs p h.below h.apart;
  below = below_push n xs p h.below;
  fit = fit_push m.reading m.width xs (n, p) w h.fit;
  made = made_push m j xs (n, p) made h.made;
}

pub chain_grow : {H S P : Type 0} (m : Machine H S P) (j a b : ℕ) (xs : Chain P) → a ≤ b → IsChain m j a xs → IsChain m j b xs
chain_grow m j a b xs l h = record { apart = h.apart; below = below_grow a b xs l h.below; fit = h.fit; made = h.made }

pub chain_rest : {H S P : Type 0} (m : Machine H S P) (j n : ℕ) (x : ℕ × P) (xs : Chain P) → IsChain m j n (x ∷ xs) → IsChain m j n xs
chain_rest m j n x xs h = record { apart = h.apart.1; below = h.below.1; fit = h.fit.1; made = h.made.1 }

pub chain_none : {H S P : Type 0} (m : Machine H S P) (j n : ℕ) → IsChain m j n []
chain_none m j n = record { apart = tt; below = tt; fit = tt; made = tt }

has_front : {P : Type 0} (n k : ℕ) (xs : Chain P) → has n xs ≡ false → has n (take k xs) ≡ false
has_front n zero xs h = refl
has_front n (suc k) [] h = refl
has_front n (suc k) (x ∷ xs) h = both (nat_eq x.0 n) (has n xs) h (has_front n k xs)
  where
    both : (a b : Bool) → (a || b) ≡ false → (b ≡ false → has n (take k xs) ≡ false) → (a || has n (take k xs)) ≡ false
    both true b e f = cc
    both false b e f = f e

-- and its front
pub chain_front : {H S P : Type 0} (m : Machine H S P) (j n k : ℕ) (xs : Chain P) → IsChain m j n xs → IsChain m j n (take k xs)
chain_front m j n zero xs h = chain_none m j n
chain_front m j n (suc k) [] h = chain_none m j n
chain_front m j n (suc k) (x ∷ xs) h =
    let r = chain_front m j n k xs (chain_rest m j n x xs h) in
    record { apart = (has_front x.0 k xs h.apart.0, r.apart); below = (h.below.0, r.below); fit = (h.fit.0, r.fit); made = (h.made.0, r.made) }
