-- The bands of each place, as they are made.
use Rattle.san_base.proofs.NumberTests.{some_same}
use Rattle.std.proofs.Common.{ℕ, zero, suc, ◌+◌, ◌≤◌, ◌<◌, ◌≡◌, ◌≢◌, ◌∙◌, ◌⊎◌, inl, inr, ap, sym, refl, subst, arith, List, [], ◌∷◌, ◌++◌, length, take, Some, Result, Ok, Err, slice_set}
use Rattle.std.specs.Prelude.{slice_get, OnOk}
use Rattle.std.proofs.lemmas.Bool.{cases_eq, cases_lt}
use Rattle.std.proofs.lemmas.List.{get_or-set_same, get_or-set_other}
use Rattle.std.proofs.lemmas.Option.{slice_get_within}
use Rattle.san_base.specs.declared.numbers.LeafId.{LeafId}
use Rattle.san_net.specs.Instants.{Named}
use Rattle.san_net.specs.Laid.{places_of}
use Rattle.san_net.specs.Network.{Network}
use Rattle.san_net.specs.declared.part.Part.{Part}
use Rattle.san_seq.specs.declared.concern.Concern.{Concern}
use Rattle.san_seq.specs.declared.wakes.Band.{Band}
use Rattle.san_seq.specs.inner.Wakes.{AreOrdered, EachOrdered, EachWeight, Gains, IsIndexed, IsIndex, TakesIn, Stands, bands_at}
use Rattle.san_seq.proofs.FlaggedLemmas.{set_other, set_same}
use Rattle.san_seq.proofs.TouchLemmas.{taken_more}
use Rattle.san_seq.proofs.WeightLemmas.{each_weaker}

-- one more behind a list
pub front_stays : {X : Type 0} (xs : List X) (y : X) (k : ℕ) (x : X) → slice_get xs k ≡ Some x → slice_get (xs ++ y ∷ []) k ≡ Some x
front_stays [] y k x e = absurd cc
front_stays (z ∷ xs) y zero x e = e
front_stays (z ∷ xs) y (suc k) x e = front_stays xs y k x e

pub behind_all : {X : Type 0} (xs : List X) (y : X) → slice_get (xs ++ y ∷ []) (length xs) ≡ Some y
behind_all [] y = refl
behind_all (x ∷ xs) y = behind_all xs y

pub front_or_last : {X : Type 0} (xs : List X) (y : X) (k : ℕ) (x : X) → slice_get (xs ++ y ∷ []) k ≡ Some x → (slice_get xs k ≡ Some x) ⊎ ((y ≡ x) × (k ≡ length xs))
front_or_last [] y zero x e = inr (some_same y x e, refl)
front_or_last [] y (suc k) x e = absurd cc
front_or_last (z ∷ xs) y zero x e = inl e
front_or_last (z ∷ xs) y (suc k) x e = by_case (front_or_last xs y k x e)
  where
    by_case : (slice_get xs k ≡ Some x) ⊎ ((y ≡ x) × (k ≡ length xs)) → (slice_get (z ∷ xs) (suc k) ≡ Some x) ⊎ ((y ≡ x) × (suc k ≡ length (z ∷ xs)))
    by_case (inl h) = inl h
    by_case (inr h) = inr (h.0, ap suc h.1)

-- a leaf that is among some, or goes behind them
pub joins_none : (leaf : LeafId) (leaves : List LeafId) (k : ℕ) → slice_get leaves k ≡ Some leaf → TakesIn leaf leaves leaves
joins_none leaf leaves k is = record { kept = λ i l e. e; at = k; there = is; ordered = λ o. o }

pub joins_last : (leaf : LeafId) (leaves : List LeafId) → TakesIn leaf leaves (leaves ++ leaf ∷ [])
joins_last leaf leaves = record { kept = λ k l e. front_stays leaves leaf k l e; at = length leaves; there = behind_all leaves leaf; ordered = ordered }
  where
    number : (l : LeafId) → leaf ≡ l → leaf.0 ≡ l.0
    number l e = ap (λ (y : LeafId). y.0) e

    within : AreOrdered (leaf.0 + 1) leaves → (l : LeafId) (k : ℕ) → (slice_get leaves k ≡ Some l) ⊎ ((leaf ≡ l) × (k ≡ length leaves)) → l.0 < leaf.0 + 1
    within o l k (inl e) = o.within k l e
    within o l k (inr e) = omega (arith, number l e.0)

    by_number : AreOrdered (leaf.0 + 1) leaves → (i k : ℕ) (a b : LeafId) → i < k → (slice_get leaves i ≡ Some a) ⊎ ((leaf ≡ a) × (i ≡ length leaves)) → (slice_get leaves k ≡ Some b) ⊎ ((leaf ≡ b) × (k ≡ length leaves)) → a.0 ≤ b.0
    by_number o i k a b h (inl e) (inl f) = o.ordered i k a b h e f
    by_number o i k a b h (inl e) (inr f) = omega (arith, o.within i a e, number b f.0)
    by_number o i k a b h (inr e) (inl f) = absurd (omega (arith, h, e.1, slice_get_within leaves k b f))
    by_number o i k a b h (inr e) (inr f) = absurd (omega (arith, h, e.1, f.1))

    ordered : AreOrdered (leaf.0 + 1) leaves → AreOrdered (leaf.0 + 1) (leaves ++ leaf ∷ [])
    ordered o = record {
      within = λ k l e. within o l k (front_or_last leaves leaf k l e);
      ordered = λ i k a b h e f. by_number o i k a b h (front_or_last leaves leaf i a e) (front_or_last leaves leaf k b f);
    }

-- one gain after another
pub gains_none : (leaf : LeafId) (bands : List Band) → Gains leaf bands bands
gains_none leaf bands = record { kept = λ w j s. s; ordered = λ o. o }

pub gains_both : (leaf : LeafId) (a b c : List Band) → Gains leaf a b → Gains leaf b c → Gains leaf a c
gains_both leaf a b c f g = record { kept = λ w j s. g.kept w j (f.kept w j s); ordered = λ o. g.ordered (f.ordered o) }

-- a leaf joins a band
module _ (bands : List Band) (at : ℕ) (leaf : LeafId) (old new : Band) (is : slice_get bands at ≡ Some old) (weighs : new.weight ≡ old.weight) (joins : TakesIn leaf old.leaves.items new.leaves.items) where
  here : at < length bands
  here = slice_get_within bands at old is

  set_here : (b : ℕ) → b ≡ at → slice_get (slice_set bands at new) b ≡ Some new
  set_here b e = ap (slice_get (slice_set bands at new)) e ∙ set_same bands at new here

  pub band_gains : Gains leaf bands (slice_set bands at new)
  band_gains = record { kept = λ w j s. kept w j s (cases_eq s.at at); ordered = λ o b band e. ordered o b band e (cases_eq b at) }
    where
      kept : (w j : ℕ) → (s : Stands bands w j) → (s.at ≡ at) ⊎ (s.at ≢ at) → Stands (slice_set bands at new) w j
      kept w j s (inr n) = record { at = s.at; band = s.band; is = set_other bands at s.at new n ∙ s.is; weighs = s.weighs; among = s.among; leaf = s.leaf }
      kept w j s (inl e) =
          let same : old ≡ s.band = some_same old s.band (sym is ∙ ap (slice_get bands) (sym e) ∙ s.is) in
          record {
            at = s.at;
            band = new;
            is = set_here s.at e;
            weighs = weighs ∙ ap (λ (b : Band). b.weight) same ∙ s.weighs;
            among = s.among;
            leaf = joins.kept s.among (record { 0 = j }) (ap (λ (b : Band). slice_get b.leaves.items s.among) same ∙ s.leaf);
          }

      ordered : EachOrdered (leaf.0 + 1) bands → (b : ℕ) (band : Band) → slice_get (slice_set bands at new) b ≡ Some band → (b ≡ at) ⊎ (b ≢ at) → AreOrdered (leaf.0 + 1) band.leaves.items
      ordered o b band e (inr n) = o b band (sym (set_other bands at b new n) ∙ e)
      ordered o b band e (inl f) = subst (λ (c : Band). AreOrdered (leaf.0 + 1) c.leaves.items) (some_same new band (sym (set_here b f) ∙ e)) (joins.ordered (o at old is))

  pub band_stands : (w : ℕ) → old.weight ≡ w → Stands (slice_set bands at new) w leaf.0
  band_stands w e = record { at = at; band = new; is = set_same bands at new here; weighs = weighs ∙ e; among = joins.at; leaf = joins.there }

-- where the leaf could join it
pub joined_gains : {T E : Type 0} (r : Result T E) (bands : List Band) (at : ℕ) (leaf : LeafId) (old new : Band) → slice_get bands at ≡ Some old → new.weight ≡ old.weight → OnOk r (TakesIn leaf old.leaves.items new.leaves.items)
    → OnOk r (Gains leaf bands (slice_set bands at new))
joined_gains (Ok x) bands at leaf old new is weighs joins = band_gains bands at leaf old new is weighs joins
joined_gains (Err e) bands at leaf old new is weighs joins = joins

pub joined_stands : {T E : Type 0} (r : Result T E) (bands : List Band) (at : ℕ) (leaf : LeafId) (old new : Band) → slice_get bands at ≡ Some old → new.weight ≡ old.weight → OnOk r (TakesIn leaf old.leaves.items new.leaves.items)
    → OnOk r ((weight : ℕ) → ((band : Band) → slice_get bands at ≡ Some band → band.weight ≡ weight) → Stands (slice_set bands at new) weight leaf.0)
joined_stands (Ok x) bands at leaf old new is weighs joins = λ weight f. band_stands bands at leaf old new is weighs joins weight (f old is)
joined_stands (Err e) bands at leaf old new is weighs joins = joins

-- a band of one leaf goes behind
module _ (bands : List Band) (leaf : LeafId) (new : Band) (is : new.leaves.items ≡ leaf ∷ []) where
  pub more_gains : Gains leaf bands (bands ++ new ∷ [])
  more_gains = record {
    kept = λ w j s. record { at = s.at; band = s.band; is = front_stays bands new s.at s.band s.is; weighs = s.weighs; among = s.among; leaf = s.leaf };
    ordered = λ o b band e. ordered o b band (front_or_last bands new b band e);
  }
    where
      one : AreOrdered (leaf.0 + 1) (leaf ∷ [])
      one = record { within = within; ordered = by_number }
        where
          within : (k : ℕ) (l : LeafId) → slice_get (leaf ∷ []) k ≡ Some l → l.0 < leaf.0 + 1
          within zero l e = let same : leaf.0 ≡ l.0 = ap (λ (y : LeafId). y.0) (some_same leaf l e) in omega (arith, same)
          within (suc k) l e = absurd cc

          by_number : (i k : ℕ) (a b : LeafId) → i < k → slice_get (leaf ∷ []) i ≡ Some a → slice_get (leaf ∷ []) k ≡ Some b → a.0 ≤ b.0
          by_number i zero a b h e f = absurd (omega (arith, h))
          by_number i (suc k) a b h e f = absurd cc

      ordered : EachOrdered (leaf.0 + 1) bands → (b : ℕ) (band : Band) → (slice_get bands b ≡ Some band) ⊎ ((new ≡ band) × (b ≡ length bands)) → AreOrdered (leaf.0 + 1) band.leaves.items
      ordered o b band (inl e) = o b band e
      ordered o b band (inr e) = subst (λ (c : Band). AreOrdered (leaf.0 + 1) c.leaves.items) e.0 (subst (AreOrdered (leaf.0 + 1)) (sym is) one)

  pub more_stands : Stands (bands ++ new ∷ []) new.weight leaf.0
  more_stands = record { at = length bands; band = new; is = behind_all bands new; weighs = refl; among = 0; leaf = ap (λ (ls : List LeafId). slice_get ls 0) is }

-- at its place in the table
module _ (leaf : LeafId) (table : List (List Band)) (place : ℕ) (bands : List Band) (h : place < length table) where
  pub placed_at : bands_at (slice_set table place bands) place ≡ bands
  placed_at = get_or-set_same table place bands [] h

  pub placed_gains : Gains leaf (bands_at table place) bands → (q : ℕ) → Gains leaf (bands_at table q) (bands_at (slice_set table place bands) q)
  placed_gains gains q = by_case (cases_eq q place)
    where
      by_case : (q ≡ place) ⊎ (q ≢ place) → Gains leaf (bands_at table q) (bands_at (slice_set table place bands) q)
      by_case (inr n) = subst (Gains leaf (bands_at table q)) (sym (get_or-set_other table place q bands [] n)) (gains_none leaf (bands_at table q))
      by_case (inl e) = subst (λ (p : ℕ). Gains leaf (bands_at table p) (bands_at (slice_set table place bands) p)) (sym e) (subst (Gains leaf (bands_at table place)) (sym placed_at) gains)

pub placed_by : {T E : Type 0} (r : Result T E) (leaf : LeafId) (table whole : List (List Band)) (place : ℕ) (old bands : List Band) → place < length table → bands_at table place ≡ old → whole ≡ slice_set table place bands
    → OnOk r (Gains leaf old bands) → OnOk r ((q : ℕ) → Gains leaf (bands_at table q) (bands_at whole q))
placed_by (Ok x) leaf table whole place old bands h was is gains = λ q.
    subst (λ (t : List (List Band)). Gains leaf (bands_at table q) (bands_at t q)) (sym is) (placed_gains leaf table place bands h (subst (λ (b : List Band). Gains leaf b bands) (sym was) gains) q)
placed_by (Err e) leaf table whole place old bands h was is gains = gains

pub placed_there : {T E : Type 0} (r : Result T E) (x : Concern) (acts : List Named) (cell : ℕ) (leaf : LeafId) (table whole : List (List Band)) (place : ℕ) (bands : List Band) → place < length table → whole ≡ slice_set table place bands
    → OnOk r (EachWeight x acts cell (λ w. Stands bands w leaf.0)) → OnOk r (EachWeight x acts cell (λ w. Stands (bands_at whole place) w leaf.0))
placed_there (Ok y) x acts cell leaf table whole place bands h is there =
    subst (λ (b : List Band). EachWeight x acts cell (λ w. Stands b w leaf.0)) (sym (ap (λ (t : List (List Band)). bands_at t place) is ∙ placed_at leaf table place bands h)) there
placed_there (Err e) x acts cell leaf table whole place bands h is there = there

-- one cell more
pub noted_more : (x : Concern) (acts : List Named) (leaf : LeafId) (places : List ℕ) (k place : ℕ) (before mid after : List (List Band)) → slice_get places k ≡ Some place
    → IsIndexed x acts leaf (take k places) before mid → length after ≡ length mid → ((q : ℕ) → Gains leaf (bands_at mid q) (bands_at after q)) → EachWeight x acts k (λ w. Stands (bands_at after place) w leaf.0)
    → IsIndexed x acts leaf (take (k + 1) places) before after
noted_more x acts leaf places k place before mid after is so sized gains now = record {
  sized = sized ∙ so.sized;
  gains = λ q. gains_both leaf (bands_at before q) (bands_at mid q) (bands_at after q) (so.gains q) (gains q);
  there = λ i q e. there i q (taken_more places k i q e);
}
  where
    there : (i q : ℕ) → (slice_get (take k places) i ≡ Some q) ⊎ ((i ≡ k) × (slice_get places k ≡ Some q)) → EachWeight x acts i (λ w. Stands (bands_at after q) w leaf.0)
    there i q (inl e) = each_weaker i (λ w. Stands (bands_at mid q) w leaf.0) (λ w. Stands (bands_at after q) w leaf.0) (λ w s. (gains q).kept w leaf.0 s) x acts (so.there i q e)
    there i q (inr e) =
        let same : place ≡ q = some_same place q (sym is ∙ e.1) in
        subst (λ (p : ℕ). EachWeight x acts i (λ w. Stands (bands_at after p) w leaf.0)) same (subst (λ (c : ℕ). EachWeight x acts c (λ w. Stands (bands_at after place) w leaf.0)) (sym e.0) now)

-- one leaf more
pub table_more : (x : Concern) (n : Network) (j : ℕ) (p : Part) (t u : List (List Band)) → slice_get n.parts j ≡ Some p → p.leaf.0 ≡ j
    → IsIndex x n j t → IsIndexed x p.atomic.acts p.leaf (places_of p) t u → IsIndex x n (j + 1) u
table_more x n j p t u is number so now = record {
  sized = now.sized ∙ so.sized;
  ordered = λ q. subst (λ (m : ℕ). EachOrdered (m + 1) (bands_at u q)) number ((now.gains q).ordered (λ b band e. looser b q band e));
  there = λ i c q r h at e. there i c q r at e (cases_lt i j) h;
}
  where
    looser : (b q : ℕ) (band : Band) → slice_get (bands_at t q) b ≡ Some band → AreOrdered (p.leaf.0 + 1) band.leaves.items
    looser b q band e = let o = so.ordered q b band e in record { within = λ k l f. omega (arith, o.within k l f, number); ordered = o.ordered }

    there : (i c q : ℕ) (r : Part) → slice_get n.parts i ≡ Some r → slice_get (places_of r) c ≡ Some q → (i < j) ⊎ (j ≤ i) → i < j + 1 → EachWeight x r.atomic.acts c (λ w. Stands (bands_at u q) w i)
    there i c q r at e (inl l) h = each_weaker c (λ w. Stands (bands_at t q) w i) (λ w. Stands (bands_at u q) w i) (λ w s. (now.gains q).kept w i s) x r.atomic.acts (so.there i c q r l at e)
    there i c q r at e (inr l) h =
        let here : i ≡ j = omega (arith, l, h) in
        let same : p ≡ r = some_same p r (sym is ∙ ap (slice_get n.parts) (sym here) ∙ at) in
        subst (λ (m : ℕ). EachWeight x r.atomic.acts c (λ w. Stands (bands_at u q) w m)) (number ∙ sym here)
        (subst (λ (y : Part). EachWeight x y.atomic.acts c (λ w. Stands (bands_at u q) w p.leaf.0)) same (now.there c q (ap (λ (y : Part). slice_get (places_of y) c) same ∙ e)))
