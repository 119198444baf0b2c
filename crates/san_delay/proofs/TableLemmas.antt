-- The entry that a draw chooses, and the greatest one.
use Rattle.std.proofs.Common.{ℕ, suc, ◌+◌, ◌<◌, ◌≤◌, ◌≡◌, ◌∙◌, ap, sym, refl, arith, Bool, true, false, cond, nat_eq, nat_le, nat_lt, max, List, [], ◌∷◌, length, drop, map, sum, slice_index, ◌⊎◌, inl, inr}
use Rattle.std.specs.Prelude.{All}
use Rattle.std.proofs.Math.Nat.{le-max_left, le-max_right, max-le, max-eq_left, max-eq_right}
use Rattle.std.proofs.lemmas.Bool.Decides.{eqb_tells, leb_tells}
use Rattle.std.proofs.lemmas.List.{drop_all}
use Rattle.std.proofs.lemmas.List.Elements.{All-head, All-tail}
use Rattle.std.proofs.lemmas.List.Sums.{sum-map, sum_by-cons}
use Rattle.san_base.specs.Draws.{first_above}
use Rattle.san_delay.specs.Longest.{greatest}
use Rattle.san_delay.specs.Sound.{IsDelay, IsTable}

-- the delay of the first entry whose cumulative weight exceeds a number
abbrev pub first_delay : ℕ → List (ℕ × ℕ) → ℕ → ℕ
first_delay before entries n = slice_index (map (λ e. e.0) entries) (first_above before (map (λ e. e.1) entries) n)

abbrev pub weight : List (ℕ × ℕ) → ℕ
weight entries = sum (map (λ e. e.1) entries)

weight_more : (e : ℕ × ℕ) (es : List (ℕ × ℕ)) → weight (e ∷ es) ≡ e.1 + weight es
weight_more e es =
    sum-map (λ x. x.1) (e ∷ es) ∙ sum_by-cons (λ x. x.1) e es ∙ ap (λ (n : ℕ). e.1 + n) (sym (sum-map (λ x. x.1) es))

module _ (before n : ℕ) (e : ℕ × ℕ) (es : List (ℕ × ℕ)) where
  abbrev at : Bool → ℕ
  at b = slice_index (map (λ x. x.0) (e ∷ es)) (cond b 0 (suc (first_above (before + e.1) (map (λ x. x.1) es) n)))

  here : n < before + e.1 → first_delay before (e ∷ es) n ≡ e.0
  here h = by_test (leb_tells (suc n) (before + e.1))
    where
      by_test : ((nat_lt n (before + e.1) ≡ true) × (n < before + e.1)) ⊎ ((nat_lt n (before + e.1) ≡ false) × (before + e.1 < suc n)) → first_delay before (e ∷ es) n ≡ e.0
      by_test (inl t) = ap at t.0
      by_test (inr t) = absurd (omega (arith, t.1))

  there : before + e.1 ≤ n → first_delay before (e ∷ es) n ≡ first_delay (before + e.1) es n
  there h = by_test (leb_tells (suc n) (before + e.1))
    where
      by_test : ((nat_lt n (before + e.1) ≡ true) × (n < before + e.1)) ⊎ ((nat_lt n (before + e.1) ≡ false) × (before + e.1 < suc n)) → first_delay before (e ∷ es) n ≡ first_delay (before + e.1) es n
      by_test (inl t) = absurd (omega (arith, t.1))
      by_test (inr t) = ap at t.0

greatest-light : (e : ℕ × ℕ) (es : List (ℕ × ℕ)) → e.1 ≡ 0 → greatest (e ∷ es) ≡ greatest es
greatest-light e es none = by_test (eqb_tells e.1 0)
  where
    by_test : ((nat_eq e.1 0 ≡ true) × (e.1 ≡ 0)) ⊎ ((nat_eq e.1 0 ≡ false) × (e.1 ≡ 0 → ⊥)) → greatest (e ∷ es) ≡ greatest es
    by_test (inl t) = ap (λ (b : Bool). cond b (greatest es) (max e.0 (greatest es))) t.0
    by_test (inr t) = absurd (t.1 none)

greatest-heavy : (e : ℕ × ℕ) (es : List (ℕ × ℕ)) → 0 < e.1 → greatest (e ∷ es) ≡ max e.0 (greatest es)
greatest-heavy e es some = by_test (eqb_tells e.1 0)
  where
    by_test : ((nat_eq e.1 0 ≡ true) × (e.1 ≡ 0)) ⊎ ((nat_eq e.1 0 ≡ false) × (e.1 ≡ 0 → ⊥)) → greatest (e ∷ es) ≡ max e.0 (greatest es)
    by_test (inl t) = absurd (omega (arith, t.1))
    by_test (inr t) = ap (λ (b : Bool). cond b (greatest es) (max e.0 (greatest es))) t.0

-- an entry has a weight, or none
weighs : (e : ℕ × ℕ) → (e.1 ≡ 0) ⊎ (0 < e.1)
weighs e = by_order (leb_tells 1 e.1)
  where
    by_order : ((nat_le 1 e.1 ≡ true) × (1 ≤ e.1)) ⊎ ((nat_le 1 e.1 ≡ false) × (e.1 < 1)) → (e.1 ≡ 0) ⊎ (0 < e.1)
    by_order (inl o) = inr (omega (arith, o.1))
    by_order (inr o) = inl (omega (arith, o.1))

greatest_more : (e : ℕ × ℕ) (es : List (ℕ × ℕ)) → greatest es ≤ greatest (e ∷ es)
greatest_more e es = by_weight (weighs e)
  where
    by_weight : (e.1 ≡ 0) ⊎ (0 < e.1) → greatest es ≤ greatest (e ∷ es)
    by_weight (inl none) = omega (arith, greatest-light e es none)
    by_weight (inr some) = omega (arith, greatest-heavy e es some, le-max_right e.0 (greatest es))

-- without a weight there is none
greatest_none : (es : List (ℕ × ℕ)) → weight es ≡ 0 → greatest es ≡ 0
greatest_none [] h = refl
greatest_none (e ∷ es) h =
    let more = weight_more e es in
    let none : e.1 ≡ 0 = omega arith in
    greatest-light e es none ∙ greatest_none es (omega arith)

has_weight : (es : List (ℕ × ℕ)) → 0 < greatest es → 0 < weight es
has_weight es some = by_order (leb_tells 1 (weight es))
  where
    by_order : ((nat_le 1 (weight es) ≡ true) × (1 ≤ weight es)) ⊎ ((nat_le 1 (weight es) ≡ false) × (weight es < 1)) → 0 < weight es
    by_order (inl o) = omega (arith, o.1)
    by_order (inr o) = let none : weight es ≡ 0 = omega (arith, o.1) in absurd (omega (arith, greatest_none es none))

pub chosen_most : (es : List (ℕ × ℕ)) (before n : ℕ) → before ≤ n → n < before + weight es → first_delay before es n ≤ greatest es
chosen_most [] before n low high = absurd (omega arith)
chosen_most (e ∷ es) before n low high = let more = weight_more e es in by_order (λ l. chosen_most es (before + e.1) n l (omega arith)) (leb_tells (before + e.1) n)
  where
    by_order : (before + e.1 ≤ n → first_delay (before + e.1) es n ≤ greatest es)
        → ((nat_le (before + e.1) n ≡ true) × (before + e.1 ≤ n)) ⊎ ((nat_le (before + e.1) n ≡ false) × (n < before + e.1)) → first_delay before (e ∷ es) n ≤ greatest (e ∷ es)
    by_order rest (inl o) = omega (arith, there before n e es o.1, rest o.1, greatest_more e es)
    by_order rest (inr o) = let some : 0 < e.1 = omega (arith, o.1) in omega (arith, here before n e es o.1, greatest-heavy e es some, le-max_left e.0 (greatest es))

-- a number by which the greatest one is chosen
abbrev pub Chooses : ℕ → List (ℕ × ℕ) → Type 0
Chooses before es = (n : ℕ) × (before ≤ n) × (n < before + weight es) × (first_delay before es n ≡ greatest es)

chooses_later : (e : ℕ × ℕ) (es : List (ℕ × ℕ)) (before : ℕ) → Chooses (before + e.1) es → greatest es ≡ greatest (e ∷ es) → Chooses before (e ∷ es)
chooses_later e es before r same =
    (r.0, omega (arith, r.1), omega (arith, r.2, weight_more e es), there before r.0 e es r.1 ∙ r.3 ∙ same)

chooses_now : (e : ℕ × ℕ) (es : List (ℕ × ℕ)) (before : ℕ) → 0 < e.1 → (0 < weight es → Chooses (before + e.1) es)
    → ((nat_le (greatest es) e.0 ≡ true) × (greatest es ≤ e.0)) ⊎ ((nat_le (greatest es) e.0 ≡ false) × (e.0 < greatest es)) → Chooses before (e ∷ es)
chooses_now e es before h rest (inl o) =
    (before, omega arith, omega (arith, weight_more e es), here before before e es (omega arith) ∙ sym (max-eq_left o.1) ∙ sym (greatest-heavy e es h))
chooses_now e es before h rest (inr o) =
    let below : e.0 ≤ greatest es = omega (arith, o.1) in
    chooses_later e es before (rest (has_weight es (omega (arith, o.1)))) (sym (max-eq_right below) ∙ sym (greatest-heavy e es h))

pub chosen_greatest : (es : List (ℕ × ℕ)) (before : ℕ) → 0 < weight es → Chooses before es
chosen_greatest [] before some = absurd (omega arith)
chosen_greatest (e ∷ es) before some =
    let more = weight_more e es in
    by_weight (λ h. chosen_greatest es (before + e.1) h) (λ none. omega (arith, none, some)) (weighs e)
  where
    by_weight : (0 < weight es → Chooses (before + e.1) es) → (e.1 ≡ 0 → 0 < weight es) → (e.1 ≡ 0) ⊎ (0 < e.1) → Chooses before (e ∷ es)
    by_weight rest left (inl none) = chooses_later e es before (rest (left none)) (sym (greatest-light e es none))
    by_weight rest left (inr h) = chooses_now e es before h rest (leb_tells (greatest es) e.0)

greatest_below : (es : List (ℕ × ℕ)) (most : ℕ) → All (λ e. e.0 ≤ most) es → greatest es ≤ most
greatest_below [] most h = omega arith
greatest_below (e ∷ es) most h = by_weight (greatest_below es most (All-tail (λ x. x.0 ≤ most) e es h)) (weighs e)
  where
    by_weight : greatest es ≤ most → (e.1 ≡ 0) ⊎ (0 < e.1) → greatest (e ∷ es) ≤ most
    by_weight rest (inl none) = omega (arith, greatest-light e es none)
    by_weight rest (inr some) = let first = All-head (λ x. x.0 ≤ most) e es h in omega (arith, greatest-heavy e es some, max-le first rest)

greatest_above : (es : List (ℕ × ℕ)) → All (λ e. 1 ≤ e.0) es → 0 < weight es → 1 ≤ greatest es
greatest_above [] h some = absurd (omega arith)
greatest_above (e ∷ es) h some =
    by_weight (λ l. greatest_above es (All-tail (λ x. 1 ≤ x.0) e es h) l) (λ none. omega (arith, none, some, weight_more e es)) (weighs e)
  where
    by_weight : (0 < weight es → 1 ≤ greatest es) → (e.1 ≡ 0 → 0 < weight es) → (e.1 ≡ 0) ⊎ (0 < e.1) → 1 ≤ greatest (e ∷ es)
    by_weight rest left (inl none) = omega (arith, rest (left none), greatest-light e es none)
    by_weight rest left (inr heavy) = omega (arith, All-head (λ x. 1 ≤ x.0) e es h, greatest-heavy e es heavy, le-max_left e.0 (greatest es))

-- the greatest one is a delay
pub greatest_within : (es : List (ℕ × ℕ)) → IsTable es → IsDelay (greatest es)
greatest_within es table = (
  greatest_above es (λ k d h. (table.delays k d h).0) (omega (arith, table.weights.0)),
  greatest_below es 4294967296 (λ k d h. (table.delays k d h).1),
)

pub greatest_end : (es : List (ℕ × ℕ)) (most i : ℕ) → length es ≤ i → max most (greatest (drop i es)) ≡ greatest es → most ≡ greatest es
greatest_end es most i h is = omega (arith, ap greatest (drop_all i es h), is)
