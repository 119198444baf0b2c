-- Flags that go up where a place changed, and the last stable marking that catches up.
use Rattle.san_base.proofs.NumberTests.{some_same}
use Rattle.std.proofs.Common.{ℕ, zero, suc, ◌+◌, ◌≤◌, ◌<◌, ◌≡◌, ◌∙◌, ◌⊎◌, inl, inr, ap, sym, refl, subst, arith, List, [], ◌∷◌, length, take, Some, Bool, true, false, slice_index, slice_set}
use Rattle.std.specs.Prelude.{slice_get, not, ◌==◌}
use Rattle.std.proofs.lemmas.Bool.{eqb-true}
use Rattle.san_base.specs.declared.numbers.LeafId.{LeafId}
use Rattle.san_seq.specs.declared.stale.Stale.{Stale}
use Rattle.san_seq.specs.declared.wakes.Band.{Band}
use Rattle.san_seq.specs.inner.Known.{AreRaised, AreTouched, IsTouched, Raised, SeesSame, StayUp}
use Rattle.san_seq.specs.inner.Wakes.{Stands, Woken, bands_at, level}
use Rattle.san_seq.proofs.FlaggedLemmas.{not_both, set_same, up_or_down}

-- a flag that goes up takes no other down
pub stays_up : (xs : List Bool) (j : ℕ) → j < length xs → StayUp xs (slice_set xs j true)
stays_up [] j h i e = absurd (omega (arith, h))
stays_up (x ∷ xs) zero h zero e = absurd cc
stays_up (x ∷ xs) zero h (suc i) e = e
stays_up (x ∷ xs) (suc j) h zero e = e
stays_up (x ∷ xs) (suc j) h (suc i) e = stays_up xs j (omega (arith, h)) i e

-- one more from a list's front
front_more : {Y : Type 0} (ys : List Y) (m at : ℕ) (y : Y) → slice_get (take (suc m) ys) at ≡ Some y → (slice_get (take m ys) at ≡ Some y) ⊎ ((at ≡ m) × (slice_get ys m ≡ Some y))
front_more [] m at y q = absurd cc
front_more (z ∷ zs) zero zero y q = inr (refl, q)
front_more (z ∷ zs) zero (suc at) y q = absurd cc
front_more (z ∷ zs) (suc m) zero y q = inl q
front_more (z ∷ zs) (suc m) (suc at) y q = by_case (front_more zs m at y q)
  where
    by_case : (slice_get (take m zs) at ≡ Some y) ⊎ ((at ≡ m) × (slice_get zs m ≡ Some y)) → (slice_get (take m zs) at ≡ Some y) ⊎ ((suc at ≡ suc m) × (slice_get zs m ≡ Some y))
    by_case (inl h) = inl h
    by_case (inr h) = inr (ap suc h.0, h.1)

pub taken_more : {X : Type 0} (xs : List X) (k i : ℕ) (x : X) → slice_get (take (k + 1) xs) i ≡ Some x → (slice_get (take k xs) i ≡ Some x) ⊎ ((i ≡ k) × (slice_get xs k ≡ Some x))
taken_more xs k i x e = let next : k + 1 ≡ suc k = omega arith in front_more xs k i x (subst (λ (n : ℕ). slice_get (take n xs) i ≡ Some x) next e)

pub taken_all : {X : Type 0} (xs : List X) (k i : ℕ) (x : X) → length xs ≤ k → slice_get xs i ≡ Some x → slice_get (take k xs) i ≡ Some x
taken_all [] k i x h e = absurd cc
taken_all (y ∷ ys) zero i x h e = absurd (omega (arith, h))
taken_all (y ∷ ys) (suc k) zero x h e = e
taken_all (y ∷ ys) (suc k) (suc i) x h e = taken_all ys k i x (omega (arith, h)) e

-- a weight that isn't crossed sees the same
pub seen_same : (weight was now : ℕ) (b : Bool) → b ≡ not (level weight was == level weight now) → b ≡ false → level weight was ≡ level weight now
seen_same weight was now b is none = eqb-true (level weight was) (level weight now) (is_true (level weight was == level weight now) (sym is ∙ none))
  where
    is_true : (t : Bool) → not t ≡ false → t ≡ true
    is_true true e = refl
    is_true false e = absurd cc

-- no band yet
pub raised_none : (bands : List Band) (was now : ℕ) (flags : List Bool) → AreRaised (take 0 bands) was now flags flags
raised_none bands was now flags = record { sized = refl; kept = λ j e. e; equal = λ b k band leaf e f down. none b band e }
  where
    none : (b : ℕ) (band : Band) → slice_get (take 0 bands) b ≡ Some band → {A : Type 0} → A
    none b band e = cc

-- one band, by its leaves or since its weight sees the same
pub raised_band : (band : Band) (was now : ℕ) (old new : List Bool) → Raised band.leaves.items old new → AreRaised (band ∷ []) was now old new
raised_band band was now old new so = record { sized = so.sized; kept = so.kept; equal = λ b k c leaf e f down. equal b k c leaf e f down }
  where
    equal : (b k : ℕ) (c : Band) (leaf : LeafId) → slice_get (band ∷ []) b ≡ Some c → slice_get c.leaves.items k ≡ Some leaf → slice_get new leaf.0 ≡ Some false → level c.weight was ≡ level c.weight now
    equal (suc b) k c leaf e f down = absurd cc
    equal zero k c leaf e f down = not_both (slice_get new leaf.0) (so.raised k leaf (ap (λ (y : Band). slice_get y.leaves.items k) (some_same band c e) ∙ f)) down

pub uncrossed_band : (band : Band) (was now : ℕ) (flags : List Bool) → level band.weight was ≡ level band.weight now → AreRaised (band ∷ []) was now flags flags
uncrossed_band band was now flags same = record { sized = refl; kept = λ j e. e; equal = λ b k c leaf e f down. equal b c e }
  where
    equal : (b : ℕ) (c : Band) → slice_get (band ∷ []) b ≡ Some c → level c.weight was ≡ level c.weight now
    equal (suc b) c e = absurd cc
    equal zero c e = subst (λ (y : Band). level y.weight was ≡ level y.weight now) (some_same band c e) same

pub raised_more : (bands : List Band) (k : ℕ) (band : Band) (was now : ℕ) (old mid new : List Bool) → slice_get bands k ≡ Some band
    → AreRaised (take k bands) was now old mid → AreRaised (band ∷ []) was now mid new → AreRaised (take (k + 1) bands) was now old new
raised_more bands k band was now old mid new here so then = record {
  sized = then.sized ∙ so.sized;
  kept = λ j e. so.kept j (then.kept j e);
  equal = λ b i c leaf e f down. by_case b i c leaf f down (taken_more bands k b c e);
}
  where
    by_case : (b i : ℕ) (c : Band) (leaf : LeafId) → slice_get c.leaves.items i ≡ Some leaf → slice_get new leaf.0 ≡ Some false → (slice_get (take k bands) b ≡ Some c) ⊎ ((b ≡ k) × (slice_get bands k ≡ Some c)) → level c.weight was ≡ level c.weight now
    by_case b i c leaf f down (inl e) = so.equal b i c leaf e f (then.kept leaf.0 down)
    by_case b i c leaf f down (inr e) = then.equal 0 i c leaf (sym here ∙ e.1) f down

pub raised_all : (bands : List Band) (k was now : ℕ) (old new : List Bool) → length bands ≤ k → AreRaised (take k bands) was now old new → AreRaised bands was now old new
raised_all bands k was now old new h so = record { sized = so.sized; kept = so.kept; equal = λ b i band leaf e f down. so.equal b i band leaf (taken_all bands k b band h e) f down }

-- a place that has changed
pub touched_raised : (table : List (List Band)) (place : ℕ) (stable m : List ℕ) (bands : List Band) (old new : List Bool) → bands ≡ bands_at table place
    → AreRaised bands (slice_index stable place) (slice_index m place) old new → IsTouched (λ q weight j. Stands (bands_at table q) weight j) (place ∷ []) stable m old new
touched_raised table place stable m bands old new is so = record {
  sized = so.sized;
  kept = so.kept;
  equal = λ k j q weight at down there. raised k j q weight at down there;
}
  where
    raised : (k j q weight : ℕ) → slice_get (place ∷ []) k ≡ Some q → slice_get new j ≡ Some false → Stands (bands_at table q) weight j → SeesSame stable m q weight
    raised (suc k) j q weight at down there = absurd cc
    raised zero j q weight at down there =
        let here : place ≡ q = some_same place q at in
        let in_bands : slice_get bands there.at ≡ Some there.band = ap (λ (bs : List Band). slice_get bs there.at) is ∙ ap (λ (p : ℕ). slice_get (bands_at table p) there.at) here ∙ there.is in
        let same : level there.band.weight (slice_index stable place) ≡ level there.band.weight (slice_index m place) = so.equal there.at there.among there.band (record { 0 = j }) in_bands there.leaf down in
        subst (λ (p : ℕ). SeesSame stable m p weight) here (subst (λ (w : ℕ). SeesSame stable m place w) there.weighs same)

-- its own flag
pub touched_itself : (place : ℕ) (stable m : List ℕ) (old : List Bool) → place < length old → IsTouched (λ q weight j. (q ≡ j) × (weight ≡ 0)) (place ∷ []) stable m old (slice_set old place true)
touched_itself place stable m old h = record {
  sized = Rattle.std.proofs.lemmas.List.length-set old place true;
  kept = stays_up old place h;
  equal = λ k j q weight at down is. itself k j q weight at down is.0;
}
  where
    itself : (k j q weight : ℕ) → slice_get (place ∷ []) k ≡ Some q → slice_get (slice_set old place true) j ≡ Some false → q ≡ j → SeesSame stable m q weight
    itself (suc k) j q weight at down is = absurd cc
    itself zero j q weight at down is =
        let same : place ≡ j = some_same place q at ∙ is in
        not_both (slice_get (slice_set old place true) j) (ap (slice_get (slice_set old place true)) (sym same) ∙ set_same old place true h) down

pub touched_more : (Wakes : ℕ → ℕ → ℕ → Type 0) (places : List ℕ) (k place : ℕ) (stable m : List ℕ) (old xs new : List Bool) → slice_get places k ≡ Some place
    → IsTouched Wakes (take k places) stable m old xs → IsTouched Wakes (place ∷ []) stable m xs new → IsTouched Wakes (take (k + 1) places) stable m old new
touched_more Wakes places k place stable m old xs new here so now = record {
  sized = now.sized ∙ so.sized;
  kept = λ j e. so.kept j (now.kept j e);
  equal = λ at j q weight e down there. by_case at j q weight down there (taken_more places k at q e);
}
  where
    by_case : (at j q weight : ℕ) → slice_get new j ≡ Some false → Wakes q weight j → (slice_get (take k places) at ≡ Some q) ⊎ ((at ≡ k) × (slice_get places k ≡ Some q)) → SeesSame stable m q weight
    by_case at j q weight down there (inl e) = so.equal at j q weight e (now.kept j down) there
    by_case at j q weight down there (inr e) = now.equal 0 j q weight (sym here ∙ e.1) down there

pub all_more : (w : Woken) (places : List ℕ) (k place : ℕ) (stable m : List ℕ) (old mid new : Stale) → slice_get places k ≡ Some place
    → AreTouched w (take k places) stable m old mid → AreTouched w (place ∷ []) stable m mid new → AreTouched w (take (k + 1) places) stable m old new
all_more w places k place stable m old mid new here so now = record {
  settled = now.settled ∙ so.settled;
  timers = touched_more (λ q weight j. Stands (bands_at w.timers q) weight j) places k place stable m old.timers mid.timers new.timers here so.timers now.timers;
  places = touched_more (λ q weight j. (q ≡ j) × (weight ≡ 0)) places k place stable m old.places mid.places new.places here so.places now.places;
}

-- a flag that is up stays so
pub own_stays : (old new : List Bool) (j : ℕ) → StayUp old new → j < length new → slice_get old j ≡ Some true → slice_get new j ≡ Some true
own_stays old new j kept h up = by_flag (up_or_down new j h)
  where
    by_flag : (slice_get new j ≡ Some true) ⊎ (slice_get new j ≡ Some false) → slice_get new j ≡ Some true
    by_flag (inl e) = e
    by_flag (inr e) = not_both (slice_get old j) up (kept j e)
