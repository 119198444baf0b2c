-- A kept series, and the search in it.
use Rattle.std.proofs.Common.{ℕ, zero, suc, ◌+◌, ◌*◌, [], ◌∷◌, ◌++◌, ◌^◌, ◌<◌, ◌≤◌, ◌≡◌, ◌∙◌, ap, sym, subst, arith, true, false, ltb, nat_le, List, length, slice_index, slice_index_or, ◌-◌, ◌/◌, ◌⊎◌, inl, inr}
use Rattle.std.proofs.lemmas.Bool.{ltb-true, ltb-false, lt-ltb}
use Rattle.std.proofs.lemmas.Bool.Decides.{leb_tells}
use Rattle.std.proofs.lemmas.Grind.{get_or_default_zero}
use Rattle.std.proofs.lemmas.List.{length-append}
use Rattle.std.proofs.lemmas.Nat.{mul-le}
use Rattle.std.proofs.Math.ListN.{get_or-append}
use Rattle.std.proofs.Math.Seq.{get_or-append_seam}
use Rattle.std.specs.List.Sorted.{IsPartitionPoint, IsPartitionedBy}
use Rattle.san_expr.specs.Delay.{chance_left, geometric}
use Rattle.san_delay.proofs.SeriesLemmas.{step_takes, geometric-is, geometric-least}
use Rattle.san_delay.specs.Series.{IsSeries}
use Rattle.san_delay.specs.Sound.{IsChance}

pub never_rises : (p q a more : ℕ) → IsChance p q → chance_left p q (more + a) ≤ chance_left p q a
never_rises p q a zero chance = let same : zero + a ≡ a = omega arith in subst (λ (n : ℕ). chance_left p q n ≤ chance_left p q a) (sym same) (omega arith)
never_rises p q a (suc more) chance =
    let same : suc more + a ≡ suc (more + a) = omega arith in
    subst (λ (n : ℕ). chance_left p q n ≤ chance_left p q a) (sym same) (omega (arith, step_takes p q (chance_left p q (more + a)) chance, never_rises p q a more chance))

pub chance_most : (p q k : ℕ) → IsChance p q → chance_left p q k ≤ 2 ^ 64
chance_most p q zero chance = omega arith
chance_most p q (suc k) chance = omega (arith, step_takes p q (chance_left p q k) chance, chance_most p q k chance)

-- a chance after a tick fits 64 bits
pub chance_fits : (p q k : ℕ) → IsChance p q → chance_left p q (suc k) < 2 ^ 64
chance_fits p q k chance = omega (arith, step_takes p q (chance_left p q k) chance, chance_most p q k chance)

-- the longest delay leaves no chance
pub longest_ends : (p q : ℕ) → IsChance p q → chance_left p q (geometric p q 0) ≡ 0
longest_ends p q chance = omega (arith, (geometric-least p q 0 chance).here)

module _ (p q : ℕ) (chances : List ℕ) (chance : IsChance p q) (series : IsSeries p q chances) where
  at_default : (k d : ℕ) → k < length chances → slice_index_or chances k d ≡ chance_left p q (suc k)
  at_default k d h = get_or_default_zero chances k d h ∙ series.each k h

  pub parted : (u : ℕ) → IsPartitionedBy (λ left. ltb u left) chances
  parted u i j d low below passes =
      let later = ltb-true u _ (ap (ltb u) (sym (at_default j d below)) ∙ passes) in
      let order : j ≡ (j - i) + i = omega (arith, low) in
      let falls : chance_left p q (suc j) ≤ chance_left p q (suc i) =
      let step = never_rises p q (suc i) (j - i) chance in
      let same : (j - i) + suc i ≡ suc j = omega (arith, low) in
      subst (λ (n : ℕ). chance_left p q n ≤ chance_left p q (suc i)) same step in
      ap (ltb u) (at_default i d (omega (arith, low, below))) ∙ lt-ltb u _ (omega (arith, later, falls))

  pub searched : (u i : ℕ) → IsPartitionPoint (λ left. ltb u left ≡ true) (λ left. ltb u left ≡ false) chances i → i ≤ length chances → i + 1 ≡ geometric p q u
  searched u i point most = geometric-is p q u (i + 1) chance (omega arith) (here (leb_tells (suc i) (length chances))) before
    where
      before : (k : ℕ) → 1 ≤ k → k < i + 1 → u < chance_left p q k
      before zero low below = absurd (omega (arith, low))
      before (suc k) low below =
          let inside : k < length chances = omega (arith, most, below) in
          ltb-true u _ (ap (ltb u) (sym (series.each k inside)) ∙ point.0 k 0 (omega arith) (omega (arith, below)))

      here : ((nat_le (suc i) (length chances) ≡ true) × (suc i ≤ length chances)) ⊎ ((nat_le (suc i) (length chances) ≡ false) × (length chances < suc i)) → chance_left p q (i + 1) ≤ u
      here (inl o) =
          let low = ltb-false u _ (ap (ltb u) (sym (series.each i o.1)) ∙ point.1 i 0 (omega arith) o.1) in
          let same : suc i ≡ i + 1 = omega arith in
          subst (λ (n : ℕ). chance_left p q n ≤ u) same low
      here (inr o) =
          let end : i ≡ length chances = omega (arith, o.1, most) in
          let none : chance_left p q i ≡ 0 = ap (chance_left p q) end ∙ series.ends in
          let step = never_rises p q i 1 chance in
          let same : 1 + i ≡ i + 1 = omega arith in
          let last : chance_left p q (i + 1) ≤ chance_left p q i = subst (λ (n : ℕ). chance_left p q n ≤ chance_left p q i) same step in
          omega (arith, last, none)

-- a chance times what stays fits 128 bits
pub product_fits : (p q left stays k : ℕ) → IsChance p q → left ≡ chance_left p q k → stays ≡ q - p → left * stays < 2 ^ 128
product_fits p q left stays k chance is stay =
    omega (arith, mul-le left stays (2 ^ 64) 1000 (omega (arith, is, chance_most p q k chance)) (omega (arith, stay, chance.parts)))

-- one more chance behind those kept
pub each_more : (p q v : ℕ) (chances more : List ℕ) → more ≡ chances ++ v ∷ [] → v ≡ chance_left p q (suc (length chances))
    → ((k : ℕ) → k < length chances → slice_index chances k ≡ chance_left p q (suc k)) → (k : ℕ) → k < length more → slice_index more k ≡ chance_left p q (suc k)
each_more p q v chances more is next each k below = ap (λ xs. slice_index xs k) is ∙ by_order (leb_tells (suc k) (length chances))
  where
    sized : length more ≡ suc (length chances)
    sized = omega (arith, ap length is, length-append chances (v ∷ []))

    by_order : ((nat_le (suc k) (length chances) ≡ true) × (suc k ≤ length chances)) ⊎ ((nat_le (suc k) (length chances) ≡ false) × (length chances < suc k))
        → slice_index (chances ++ v ∷ []) k ≡ chance_left p q (suc k)
    by_order (inl o) = get_or-append chances (v ∷ []) 0 k o.1 ∙ each k o.1
    by_order (inr o) =
        let last : k ≡ length chances = omega (arith, o.1, below, sized) in
        ap (slice_index (chances ++ v ∷ [])) last ∙ get_or-append_seam chances v [] 0 ∙ next ∙ ap (λ (n : ℕ). chance_left p q (suc n)) (sym last)

-- a turn of the loop that keeps a series
module _ (p q left stays parts : ℕ) (chances : List ℕ) (is : left ≡ chance_left p q (length chances)) (stay : stays ≡ q - p) (all : parts ≡ q) where
  next_chance : left * stays / parts ≡ chance_left p q (suc (length chances))
  next_chance = rw (is, stay, all)

  pub next_fits : IsChance p q → left * stays / parts < 2 ^ 64
  next_fits chance = omega (arith, next_chance, chance_fits p q (length chances) chance)

  pub turn : (more : List ℕ) → more ≡ chances ++ (left * stays / parts) ∷ [] → ((k : ℕ) → k < length chances → slice_index chances k ≡ chance_left p q (suc k))
      → (left * stays / parts ≡ chance_left p q (length more)) × (length more ≡ length chances + 1) × ((k : ℕ) → k < length more → slice_index more k ≡ chance_left p q (suc k))
  turn more grown each =
      let sized : length more ≡ suc (length chances) = omega (arith, ap length grown, length-append chances ((left * stays / parts) ∷ [])) in
      (next_chance ∙ ap (chance_left p q) (sym sized), omega (arith, sized), each_more p q (left * stays / parts) chances more grown next_chance each)
