-- The chances that a geometric delay goes on.
use Rattle.std.proofs.Common.{ℕ, zero, suc, ◌+◌, ◌-◌, ◌*◌, ◌/◌, ◌^◌, ◌<◌, ◌≤◌, ◌≡◌, ◌∙◌, ap, sym, refl, subst, arith, Bool, true, false, cond, nat_le, ◌⊎◌, inl, inr}
use Rattle.std.proofs.Math.Nat.{div-mul-le_self, mul-le-mul_left, pow-suc}
use Rattle.std.proofs.lemmas.Bool.Decides.{leb_tells}
use Rattle.std.proofs.lemmas.Bool.{leb-true, le-leb}
use Rattle.san_expr.specs.Delay.{chance_left, least_from, geometric}
use Rattle.san_delay.specs.Sound.{IsChance}
use Rattle.san_delay.specs.Series.{IsLeast}

-- a thousandth at least is taken
less_left : (t d q : ℕ) → q ≤ 1000 → t * q + (t + d) ≤ (t + d) * q → 1000 * t + (t + d) ≤ 1000 * (t + d)
less_left t d q most h = omega (arith, mul-le-mul_left d most)

taken : (s r q : ℕ) → r + 1 ≤ q → s * r + s ≤ s * q
taken s r q h = omega (arith, mul-le-mul_left s h)

takes : (s t q : ℕ) → 1 ≤ q → q ≤ 1000 → t * q + s ≤ s * q → ((nat_le t s ≡ true) × (t ≤ s)) ⊎ ((nat_le t s ≡ false) × (s < t)) → 1000 * t + s ≤ 1000 * s
takes s t q some most h (inl o) =
    let e : s ≡ t + (s - t) = omega (arith, o.1) in
    subst (λ (n : ℕ). 1000 * t + n ≤ 1000 * n) (sym e) (less_left t (s - t) q most (subst (λ (n : ℕ). t * q + n ≤ n * q) e h))
takes s t q some most h (inr o) =
    let more : s * q + q ≤ t * q = let above : s + 1 ≤ t = omega (arith, o.1) in omega (arith, mul-le-mul_left q above) in
    absurd (omega arith)

pub step_takes : (p q s : ℕ) → IsChance p q → 1000 * (s * (q - p) / q) + s ≤ 1000 * s
step_takes p q s chance =
    let t = s * (q - p) / q in
    let below : t * q ≤ s * (q - p) = div-mul-le_self (s * (q - p)) q in
    let one : s * (q - p) + s ≤ s * q = taken s (q - p) q (omega (arith, chance.some, chance.most)) in
    takes s t q (omega (arith, chance.some, chance.most)) chance.parts (omega arith) (leb_tells t s)

pub step_falls : (p q s : ℕ) → IsChance p q → 0 < s → s * (q - p) / q < s
step_falls p q s chance some = omega (arith, step_takes p q s chance)

pub chance_falls : (p q k : ℕ) → IsChance p q → 0 < chance_left p q k → chance_left p q (suc k) < chance_left p q k
chance_falls p q k chance some = step_falls p q (chance_left p q k) chance some

-- within a thousand steps it is halved
halving : (p q c k i e : ℕ) → IsChance p q → e ≡ i + k → chance_left p q k ≤ 2 * c
    → (chance_left p q e ≤ c) ⊎ (1000 * chance_left p q e + i * c ≤ 2000 * c)
halving p q c k zero e chance at h = let same : e ≡ k = omega arith in inr (omega (arith, ap (chance_left p q) same))
halving p q c k (suc i) zero chance at h = absurd (omega arith)
halving p q c k (suc i) (suc e) chance at h = next (leb_tells (chance_left p q e) c) (halving p q c k i e chance (omega arith) h)
  where
    takes_here : 1000 * chance_left p q (suc e) + chance_left p q e ≤ 1000 * chance_left p q e
    takes_here = step_takes p q (chance_left p q e) chance

    next : ((nat_le (chance_left p q e) c ≡ true) × (chance_left p q e ≤ c)) ⊎ ((nat_le (chance_left p q e) c ≡ false) × (c < chance_left p q e))
        → (chance_left p q e ≤ c) ⊎ (1000 * chance_left p q e + i * c ≤ 2000 * c)
        → (chance_left p q (suc e) ≤ c) ⊎ (1000 * chance_left p q (suc e) + suc i * c ≤ 2000 * c)
    next (inl o) r = inl (omega (arith, o.1, takes_here))
    next (inr o) (inl below) = absurd (omega (arith, o.1))
    next (inr o) (inr more) = inr (omega (arith, o.1, takes_here))

halved : (p q c k : ℕ) → IsChance p q → chance_left p q k ≤ 2 * c → chance_left p q (1000 + k) ≤ c
halved p q c k chance h = by_end (halving p q c k 1000 (1000 + k) chance refl h)
  where
    by_end : (chance_left p q (1000 + k) ≤ c) ⊎ (1000 * chance_left p q (1000 + k) + 1000 * c ≤ 2000 * c) → chance_left p q (1000 + k) ≤ c
    by_end (inl below) = below
    by_end (inr more) = omega arith

low_after : (p q m k : ℕ) → IsChance p q → chance_left p q k ≤ 2 ^ m → (e : ℕ) × (e ≤ 1000 * m + k) × (chance_left p q e ≤ 1)
low_after p q zero k chance h = (k, omega arith, h)
low_after p q (suc m) k chance h =
    let double : 2 ^ suc m ≡ 2 * 2 ^ m = omega (arith, pow-suc 2 m) in
    let low = low_after p q m (1000 + k) chance (halved p q (2 ^ m) k chance (omega arith)) in
    (low.0, omega (arith, low.1), low.2)

-- it is 0 within so many steps
pub chance_ends : (p q : ℕ) → IsChance p q → (e : ℕ) × (1 ≤ e) × (e ≤ 64001) × (chance_left p q e ≡ 0)
chance_ends p q chance =
    let low = low_after p q 64 0 chance (omega arith) in
    (suc low.0, omega arith, omega (arith, low.1), omega (arith, low.2, step_takes p q (chance_left p q low.0) chance))

-- what a search finds: the least number from n on that passes, where a number passes
pub record Finds (test : ℕ → Bool) (n k found : ℕ) : Type 0 where
  pub low : n ≤ found
  pub most : found ≤ k
  pub here : test found ≡ true
  pub before : (j : ℕ) → n ≤ j → j < found → test j ≡ false

finds_next : (test : ℕ → Bool) (n k rest : ℕ) → n ≤ k → test k ≡ true → (n < k → Finds test (suc n) k rest) → (b : Bool) → test n ≡ b → Finds test n k (cond b n rest)
finds_next test n k rest low here next true e = record { low = omega arith; most = low; here = e; before = λ j above below. absurd (omega arith) }
finds_next test n k rest low here next false e =
    let found = next (apart (leb_tells k n)) in
    record {
      low = omega (arith, found.low);
      most = found.most;
      here = found.here;
      before = λ j above below. by_order j above below (leb_tells (suc n) j);
    }
  where
    apart : ((nat_le k n ≡ true) × (k ≤ n)) ⊎ ((nat_le k n ≡ false) × (n < k)) → n < k
    apart (inl o) =
        let same : k ≡ n = omega (arith, o.1) in
        absurd (let both : true ≡ false = sym here ∙ ap test same ∙ e in cc)
    apart (inr o) = o.1

    by_order : (j : ℕ) → n ≤ j → j < rest → ((nat_le (suc n) j ≡ true) × (suc n ≤ j)) ⊎ ((nat_le (suc n) j ≡ false) × (j < suc n)) → test j ≡ false
    by_order j above below (inl o) = (next (apart (leb_tells k n))).before j o.1 below
    by_order j above below (inr o) = let same : j ≡ n = omega (arith, o.1) in ap test same ∙ e

pub least_from-finds : (test : ℕ → Bool) (fuel n k : ℕ) → n ≤ k → k < n + fuel → test k ≡ true → Finds test n k (least_from test fuel n)
unfolding least_from
least_from-finds test zero n k low high here = absurd (omega arith)
least_from-finds test (suc fuel) n k low high here =
    finds_next test n k (least_from test fuel (suc n)) low here (λ h. least_from-finds test fuel (suc n) k h (omega arith) here) (test n) refl

geometric-finds : (p q u e : ℕ) → 1 ≤ e → e ≤ 64001 → chance_left p q e ≤ u → Finds (λ d. nat_le (chance_left p q d) u) 1 e (geometric p q u)
unfolding geometric
geometric-finds p q u e low most here = least_from-finds (λ d. nat_le (chance_left p q d) u) (2 ^ 64) 1 e low (omega arith) (le-leb (chance_left p q e) u here)

abbrev StopsAt : ℕ → ℕ → ℕ → ℕ → Type 0
StopsAt p q u d = chance_left p q d ≤ u

fails : (a b : ℕ) → nat_le a b ≡ false → a ≤ b → ⊥
fails a b e h = let both : true ≡ false = sym (le-leb a b h) ∙ e in cc

-- the delay is the least number of ticks whose chance is at most the draw
pub geometric-least : (p q u : ℕ) → IsChance p q → IsLeast (StopsAt p q u) (geometric p q u)
geometric-least p q u chance =
    let end = chance_ends p q chance in
    let found = geometric-finds p q u end.0 end.1 end.2 (omega (arith, end.3)) in
    record { some = found.low; here = leb-true _ _ found.here; before = λ k low below h. fails _ _ (found.before k low below) h }

pub geometric-within : (p q u : ℕ) → IsChance p q → geometric p q u ≤ 64001
geometric-within p q u chance =
    let end = chance_ends p q chance in
    let found = geometric-finds p q u end.0 end.1 end.2 (omega (arith, end.3)) in
    omega (arith, found.most, end.2)

-- there is one least number of ticks
pub geometric-is : (p q u d : ℕ) → IsChance p q → 1 ≤ d → chance_left p q d ≤ u → ((k : ℕ) → 1 ≤ k → k < d → u < chance_left p q k) → d ≡ geometric p q u
geometric-is p q u d chance some here before =
    by_order (leb_tells d (geometric p q u)) (leb_tells (geometric p q u) d)
  where
    least : IsLeast (StopsAt p q u) (geometric p q u)
    least = geometric-least p q u chance

    by_order : ((nat_le d (geometric p q u) ≡ true) × (d ≤ geometric p q u)) ⊎ ((nat_le d (geometric p q u) ≡ false) × (geometric p q u < d))
        → ((nat_le (geometric p q u) d ≡ true) × (geometric p q u ≤ d)) ⊎ ((nat_le (geometric p q u) d ≡ false) × (d < geometric p q u)) → d ≡ geometric p q u
    by_order (inr o) r = absurd (omega (arith, least.here, before (geometric p q u) least.some o.1))
    by_order (inl o) (inr r) = absurd (least.before d some r.1 here)
    by_order (inl o) (inl r) = omega (arith, o.1, r.1)

-- once 0 it stays so
zero_stays : (p q e k : ℕ) → IsChance p q → e ≤ k → chance_left p q e ≡ 0 → chance_left p q k ≡ 0
zero_stays p q e zero chance h none = let same : zero ≡ e = omega arith in ap (chance_left p q) same ∙ none
zero_stays p q e (suc k) chance h none = by_order (λ l. zero_stays p q e k chance l none) (leb_tells e k)
  where
    by_order : (e ≤ k → chance_left p q k ≡ 0) → ((nat_le e k ≡ true) × (e ≤ k)) ⊎ ((nat_le e k ≡ false) × (k < e)) → chance_left p q (suc k) ≡ 0
    by_order before (inl o) = omega (arith, step_takes p q (chance_left p q k) chance, before o.1)
    by_order before (inr o) = let same : suc k ≡ e = omega (arith, o.1) in ap (chance_left p q) same ∙ none

pub chance_over : (p q k : ℕ) → IsChance p q → 64001 ≤ k → chance_left p q k ≡ 0
chance_over p q k chance h = let end = chance_ends p q chance in zero_stays p q end.0 k chance (omega (arith, end.2)) end.3

pub longest-least : (p q : ℕ) → IsChance p q → IsLeast (λ d. chance_left p q d ≡ 0) (geometric p q 0)
longest-least p q chance =
    let least = geometric-least p q 0 chance in
    record { some = least.some; here = omega (arith, least.here); before = λ k low below h. least.before k low below (omega (arith, h)) }

-- a higher draw ends the delay no later
pub geometric_falls : (p q u : ℕ) → IsChance p q → geometric p q u ≤ geometric p q 0
geometric_falls p q u chance = by_order (leb_tells (geometric p q u) (geometric p q 0))
  where
    by_order : ((nat_le (geometric p q u) (geometric p q 0) ≡ true) × (geometric p q u ≤ geometric p q 0)) ⊎ ((nat_le (geometric p q u) (geometric p q 0) ≡ false) × (geometric p q 0 < geometric p q u))
        → geometric p q u ≤ geometric p q 0
    by_order (inl o) = o.1
    by_order (inr o) =
        let longest = geometric-least p q 0 chance in
        absurd ((geometric-least p q u chance).before (geometric p q 0) longest.some o.1 (omega (arith, longest.here)))
