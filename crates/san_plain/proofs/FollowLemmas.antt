-- From one marking to another: the rates in the new one, and the marking that is kept.
use Rattle.san_base.proofs.Bools.{not_false}
use Rattle.std.proofs.Common.{ℕ, zero, suc, ◌<◌, ◌≡◌, ◌≢◌, ◌∙◌, ◌⊎◌, inl, inr, ap, sym, refl, subst, arith, List, [], ◌∷◌, length, Some, nat_eq, Bool, true, false, slice_index, slice_index_or}
use Rattle.std.specs.Prelude.{IsTrue, slice_get}
use Rattle.std.specs.List.{list_any}
use Rattle.std.proofs.lemmas.Bool.{cases_eq, eqb-true, or_parts}
use Rattle.std.proofs.lemmas.List.{ext_get_or, length-map}
use Rattle.san_net.specs.Laid.{places_of}
use Rattle.san_net.specs.Network.{Network}
use Rattle.san_net.specs.declared.part.Part.{Part}
use Rattle.san_reward.specs.Running.{Running, rates_in, rates_of, with_all_rates}
use Rattle.san_reward.proofs.RatesSet.{rates_there}
use Rattle.san_plain.specs.inner.Rates.{AreNew, DiffersIn, FollowsRates, FollowsPlaces, differs_at, rates_at}
use Rattle.san_plain.proofs.RateLemmas.{new_stays, same_of}
use Rattle.san_net.proofs.CellLemmas.{CaughtUp}
use Rattle.san_expr.specs.Mentions.{CellSet}
use Rattle.san_net.proofs.PartLemmas.{part_there}
use Rattle.san_plain.specs.inner.Rated.{rate_cells}
use Rattle.san_plain.proofs.RatedLemmas.{HaveSameOn, rates_same}

-- places have the same values in both markings
abbrev HaveSame : List ℕ → List ℕ → List ℕ → Type 0
HaveSame places before m = (k q : ℕ) → slice_get places k ≡ Some q → slice_index before q ≡ slice_index m q

-- a cell that is one of some has another value
record DiffersOn (cells : CellSet) (places before m : List ℕ) : Type 0 where
  cell : ℕ
  place : ℕ
  there : slice_get places cell ≡ Some place
  named : IsTrue (cells cell)
  other : slice_index before place ≢ slice_index m place

module _ (before m : List ℕ) where
  one_more_same : (q : ℕ) (places : List ℕ) → slice_index before q ≡ slice_index m q → HaveSame places before m → HaveSame (q ∷ places) before m
  one_more_same q places e so zero r is = subst (λ (x : ℕ). slice_index before x ≡ slice_index m x) (same_of (slice_get (q ∷ places) 0) q r refl is) e
  one_more_same q places e so (suc k) r is = so k r is

  none_differ : (places : List ℕ) → list_any (differs_at before m) places ≡ false → HaveSame places before m
  none_differ [] e = λ k q is. absurd cc
  none_differ (q ∷ places) e =
      let both = or_parts (differs_at before m q) (list_any (differs_at before m) places) e in
      one_more_same q places (eqb-true (slice_index before q) (slice_index m q) (not_false (nat_eq (slice_index before q) (slice_index m q)) both.0)) (none_differ places both.1)

  same_more : (cells : CellSet) (q : ℕ) (places : List ℕ) → (cells 0 ≡ true → slice_index before q ≡ slice_index m q) → HaveSameOn (λ k. cells (suc k)) places before m → HaveSameOn cells (q ∷ places) before m
  same_more cells q places e so zero r is h = subst (λ (x : ℕ). slice_index before x ≡ slice_index m x) (same_of (slice_get (q ∷ places) 0) q r refl is) (e h)
  same_more cells q places e so (suc k) r is h = so k r is h

  differs_or_not : (cells : CellSet) (places : List ℕ) → HaveSameOn cells places before m ⊎ DiffersOn cells places before m
  differs_or_not cells [] = inl (λ k q e h. absurd cc)
  differs_or_not cells (q ∷ places) = by_case (cells 0) refl (cases_eq (slice_index before q) (slice_index m q)) (differs_or_not (λ k. cells (suc k)) places)
    where
      not_both : (b : Bool) → b ≡ false → b ≡ true → {A : Type 0} → A
      not_both b e f = cc

      by_case : (b : Bool) → cells 0 ≡ b → (slice_index before q ≡ slice_index m q) ⊎ (slice_index before q ≢ slice_index m q) → HaveSameOn (λ k. cells (suc k)) places before m ⊎ DiffersOn (λ k. cells (suc k)) places before m
          → HaveSameOn cells (q ∷ places) before m ⊎ DiffersOn cells (q ∷ places) before m
      by_case true t (inr d) rest = inr (record { cell = 0; place = q; there = refl; named = t; other = d })
      by_case true t (inl e) (inl so) = inl (same_more cells q places (λ h. e) so)
      by_case true t (inl e) (inr r) = inr (record { cell = suc r.cell; place = r.place; there = r.there; named = r.named; other = r.other })
      by_case false t w (inl so) = inl (same_more cells q places (λ h. not_both (cells 0) t h) so)
      by_case false t w (inr r) = inr (record { cell = suc r.cell; place = r.place; there = r.there; named = r.named; other = r.other })

-- leaves whose terms name a cell that has another value have new rates
abbrev pub AllNew : Network → List ℕ → List ℕ → Running → Type 0
AllNew n before m v = (q j i : ℕ) (p : Part) → slice_index before q ≢ slice_index m q → slice_get n.parts j ≡ Some p → slice_get (places_of p) i ≡ Some q → IsTrue (rate_cells p.atomic.rates i) → rates_at v j ≡ rates_of m p

module _ (n : Network) (before m : List ℕ) (t v : Running) (rates : t.tally.rates ≡ rates_in n before) (f : FollowsRates n m t v) (new : AllNew n before m v) where
  row_is : (j : ℕ) (p : Part) → j < length n.parts → slice_get n.parts j ≡ Some p → rates_at v j ≡ rates_of m p
  row_is j p h is = by_case (differs_or_not before m (rate_cells p.atomic.rates) (places_of p)) (f.each j p is)
    where
      by_case : HaveSameOn (rate_cells p.atomic.rates) (places_of p) before m ⊎ DiffersOn (rate_cells p.atomic.rates) (places_of p) before m → (rates_at v j ≡ rates_at t j) ⊎ (rates_at v j ≡ rates_of m p) → rates_at v j ≡ rates_of m p
      by_case (inr d) w = new d.place j d.cell p d.other is d.there d.named
      by_case (inl so) (inr e) = e
      by_case (inl so) (inl e) =
          e ∙ (ap (λ rows. slice_index_or rows j []) rates
          ∙ (sym (rates_there n j p is h before) ∙ rates_same p before m so))

  long : length v.tally.rates ≡ length n.parts
  long = f.sized ∙ (ap length rates ∙ length-map n.parts (rates_of before))

  -- then all have
  pub all_rates : v ≡ with_all_rates t (rates_in n m)
  all_rates = f.kept ∙ ap (with_all_rates t) (ext_get_or [] v.tally.rates (rates_in n m) (long ∙ sym (length-map n.parts (rates_of m))) (λ i l.
      let h : i < length n.parts = let many = long in omega (arith, l, many) in
      let got = part_there n.parts i h in
      row_is i got.0 h got.1 ∙ rates_there n i got.0 got.1 h m))

-- a leaf that may have changed, and its places
module _ (n : Network) (leaf : ℕ) (own : Part) (is : slice_get n.parts leaf ≡ Some own) (before m : List ℕ) (differs : DiffersIn (places_of own) before m) where
  pub all_new : (t u v : Running) → FollowsPlaces n (places_of own) leaf before m t u → FollowsRates n m u v → AreNew n m v leaf → AllNew n before m v
  all_new t u v so g now q j i p d at has named = by_case (cases_eq j leaf) (differs q)
    where
      by_case : (j ≡ leaf) ⊎ (j ≢ leaf) → (slice_index m q ≡ slice_index before q) ⊎ ((k : ℕ) × (slice_get (places_of own) k ≡ Some q)) → rates_at v j ≡ rates_of m p
      by_case (inl e) w = subst (AreNew n m v) (sym e) now p at
      by_case (inr o) (inl e) = absurd (d (sym e))
      by_case (inr o) (inr w) = new_stays n m u v j p g at (so.anew w.0 q w.1 d j i p at has named o)

  module _ (no : list_any (differs_at before m) (places_of own) ≡ false) where
    none_differs : (q : ℕ) → slice_index before q ≡ slice_index m q
    none_differs q = by_case (differs q)
      where
        by_case : (slice_index m q ≡ slice_index before q) ⊎ ((k : ℕ) × (slice_get (places_of own) k ≡ Some q)) → slice_index before q ≡ slice_index m q
        by_case (inl e) = sym e
        by_case (inr w) = none_differ before m (places_of own) no w.0 q w.1

    pub none_new : (v : Running) → AllNew n before m v
    none_new v q j i p d at has named = absurd (d (none_differs q))

    pub kept_same : length before ≡ length m → before ≡ m
    kept_same sized = ext_get_or 0 before m sized (λ q l. none_differs q)

  pub kept_caught : (after : List ℕ) → length before ≡ length m → CaughtUp (places_of own) m before after → after ≡ m
  kept_caught after sized so = ext_get_or 0 after m (so.sized ∙ sized) (λ q l. by_case q (differs q) (so.kept q))
    where
      by_case : (q : ℕ) → (slice_index m q ≡ slice_index before q) ⊎ ((k : ℕ) × (slice_get (places_of own) k ≡ Some q)) → (slice_index after q ≡ slice_index before q) ⊎ (slice_index after q ≡ slice_index m q) → slice_index after q ≡ slice_index m q
      by_case q w (inr e) = e
      by_case q (inl k) (inl e) = e ∙ sym k
      by_case q (inr w) (inl e) = so.caught w.0 q w.1
