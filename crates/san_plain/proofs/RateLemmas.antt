-- Rates that are set leaf by leaf.
use Rattle.std.proofs.Common.{ℕ, zero, suc, ◌+◌, ◌<◌, ◌≤◌, ◌≡◌, ◌≢◌, ◌∙◌, ◌⊎◌, inl, inr, ap, sym, refl, subst, arith, List, [], ◌∷◌, length, map, take, Option, Some, slice_index, slice_index_or}
use Rattle.std.specs.Prelude.{IsTrue, slice_get}
use Rattle.std.proofs.lemmas.Bool.{cases_eq}
use Rattle.std.proofs.lemmas.List.{get_or-set_same, get_or-set_other, length-map, length-set, set-get_or}
use Rattle.san_base.specs.declared.numbers.LeafId.{LeafId}
use Rattle.san_base.specs.declared.numbers.PlaceId.{PlaceId}
use Rattle.san_law.specs.Net.{Rated}
use Rattle.san_law.specs.State.{gather}
use Rattle.san_net.specs.Laid.{IsTagged, place_of, places_of}
use Rattle.san_net.specs.Leaf.{rate_in}
use Rattle.san_net.specs.Network.{Network}
use Rattle.san_net.specs.Tables.{importers_of}
use Rattle.san_net.specs.declared.part.Part.{Part}
use Rattle.san_net.specs.declared.part.Slot.{Slot}
use Rattle.san_net.specs.declared.part.Slot.TheVariants.{Private}
use Rattle.san_reward.specs.Running.{Running, rates_in, rates_of, terms_in, with_all_rates, with_leaf_rates}
use Rattle.san_reward.proofs.RatesSet.{rates_there}
use Rattle.san_reward.proofs.Setting.{leaves_long, rates_long}
use Rattle.san_plain.specs.inner.Rates.{AreNew, FollowsRates, FollowsAt, FollowsPlace, FollowsPlaces, rates_at}
use Rattle.san_seq.proofs.TouchLemmas.{taken_more}
use Rattle.san_plain.proofs.ImporterLemmas.{imported}
use Rattle.san_plain.specs.inner.Rated.{rate_cells, rated_at}
use Rattle.san_plain.proofs.RatedLemmas.{rated_there}

pub same_of : {X : Type 0} (o : Option X) (x y : X) → o ≡ Some x → o ≡ Some y → x ≡ y
same_of o x y a b = cc

-- the place of a private slot
pub private_place : (shared : ℕ) (slot : Slot) (place : PlaceId) → slot ≡ Private place → IsTagged shared slot → shared ≤ place_of slot
private_place shared slot place is tagged = subst (λ (s : Slot). IsTagged shared s → shared ≤ place_of s) (sym is) (λ h. h) tagged

-- a leaf without terms has no rates
row_long : (m : List ℕ) (parts : List Part) (j : ℕ) → length (slice_index_or (map (rates_of m) parts) j []) ≡ length (slice_index_or (map terms_in parts) j [])
row_long m [] j = refl
row_long m (p ∷ parts) zero = length-map p.atomic.rates (rate_in (gather (places_of p) m)) ∙ sym (length-map p.atomic.rates (λ t. t.reward))
row_long m (p ∷ parts) (suc j) = row_long m parts j

none_of : {X : Type 0} (xs : List X) → length xs ≡ 0 → xs ≡ []
none_of [] e = refl
none_of (x ∷ xs) e = absurd (omega (arith, e))

-- the leaves of a tally
module _ (n : Network) (t : Running) (j : ℕ) (are : t.terms ≡ map terms_in n.parts) (shaped : map length t.tally.rates ≡ map length t.terms) (h : j < length n.parts) where
  pub within_terms : j < length t.terms
  within_terms = let same = ap length are in let many = length-map n.parts terms_in in omega (arith, h, same, many)

  within_rates : j < length t.tally.rates
  within_rates = let l = within_terms in let many = leaves_long t.terms t.tally.rates shaped in omega (arith, l, many)

  module _ (m : List ℕ) where
    pub no_terms : length (slice_index_or t.terms j []) ≡ 0 → t ≡ with_leaf_rates t j (slice_index_or (rates_in n m) j [])
    no_terms none =
        let row = none_of (slice_index_or t.tally.rates j []) (rates_long t.terms t.tally.rates j shaped within_terms ∙ none) in
        let new = none_of (slice_index_or (rates_in n m) j []) (row_long m n.parts j ∙ (ap (λ ts. length (slice_index_or ts j [])) (sym are) ∙ none)) in
        sym (ap (with_leaf_rates t j) (new ∙ sym row) ∙ ap (with_all_rates t) (set-get_or t.tally.rates j []))

    module _ (v : Running) (is : v ≡ with_leaf_rates t j (slice_index_or (rates_in n m) j [])) where
      abbrev row : List Rated
      row = slice_index_or (rates_in n m) j []

      pub set_new : AreNew n m v j
      set_new p at = ap (λ x. rates_at x j) is ∙ (get_or-set_same t.tally.rates j row [] within_rates ∙ sym (rates_there n j p at h m))

      pub set_follows : FollowsRates n m t v
      set_follows = record {
        kept = is ∙ sym (ap (λ (x : Running). with_all_rates t x.tally.rates) is);
        sized = ap (λ (x : Running). length x.tally.rates) is ∙ length-set t.tally.rates j row;
        each = λ i p at. by_case i p at (cases_eq i j);
      }
        where
          by_case : (i : ℕ) (p : Part) → slice_get n.parts i ≡ Some p → (i ≡ j) ⊎ (i ≢ j) → (rates_at v i ≡ rates_at t i) ⊎ (rates_at v i ≡ rates_of m p)
          by_case i p at (inl e) = inr (subst (AreNew n m v) (sym e) set_new p at)
          by_case i p at (inr d) = inl (ap (λ x. rates_at x i) is ∙ get_or-set_other t.tally.rates j i row [] d)

-- one set of rates after another
module _ (n : Network) (m : List ℕ) where
  pub follows_none : (t : Running) → FollowsRates n m t t
  follows_none t = record { kept = refl; sized = refl; each = λ j p is. inl refl }

  pub follows_on : (t u v : Running) → FollowsRates n m t u → FollowsRates n m u v → FollowsRates n m t v
  follows_on t u v f g = record {
    kept = g.kept ∙ ap (λ (x : Running). with_all_rates x v.tally.rates) f.kept;
    sized = g.sized ∙ f.sized;
    each = λ j p is. by_case j p (g.each j p is) (f.each j p is);
  }
    where
      by_case : (j : ℕ) (p : Part) → (rates_at v j ≡ rates_at u j) ⊎ (rates_at v j ≡ rates_of m p) → (rates_at u j ≡ rates_at t j) ⊎ (rates_at u j ≡ rates_of m p) → (rates_at v j ≡ rates_at t j) ⊎ (rates_at v j ≡ rates_of m p)
      by_case j p (inr e) w = inr e
      by_case j p (inl e) (inl k) = inl (e ∙ k)
      by_case j p (inl e) (inr k) = inr (e ∙ k)

  pub new_stays : (u v : Running) (j : ℕ) (p : Part) → FollowsRates n m u v → slice_get n.parts j ≡ Some p → rates_at u j ≡ rates_of m p → rates_at v j ≡ rates_of m p
  new_stays u v j p g is new = by_case (g.each j p is)
    where
      by_case : (rates_at v j ≡ rates_at u j) ⊎ (rates_at v j ≡ rates_of m p) → rates_at v j ≡ rates_of m p
      by_case (inl e) = e ∙ new
      by_case (inr e) = e

  pub terms_stay : (u v : Running) → FollowsRates n m u v → v.terms ≡ u.terms
  terms_stay u v g = ap (λ (x : Running). x.terms) g.kept

  -- leaf by leaf
  pub leaf_more : (leaves : List LeafId) (but k : ℕ) (leaf : LeafId) (t u v : Running) → slice_get leaves k ≡ Some leaf → FollowsAt n (take k leaves) but m t u → FollowsRates n m u v → (leaf.0 ≢ but → AreNew n m v leaf.0) → FollowsAt n (take (k + 1) leaves) but m t v
  leaf_more leaves but k leaf t u v here so g now = record {
    follows = follows_on t u v so.follows g;
    anew = λ i l e d. by_case i l d (taken_more leaves k i l e);
  }
    where
      by_case : (i : ℕ) (l : LeafId) → l.0 ≢ but → (slice_get (take k leaves) i ≡ Some l) ⊎ ((i ≡ k) × (slice_get leaves k ≡ Some l)) → AreNew n m v l.0
      by_case i l d (inl e) = λ p is. new_stays u v l.0 p g is (so.anew i l e d p is)
      by_case i l d (inr e) =
          let same = same_of (slice_get leaves k) leaf l here e.1 in
          subst (λ (x : LeafId). AreNew n m v x.0) same (now (λ w. d (ap (λ (x : LeafId). x.0) (sym same) ∙ w)))

  -- place by place
  module _ (but : ℕ) (before : List ℕ) where
    pub place_leaves : (place : ℕ) (t u : Running) → ((k : ℕ) (p : Part) → slice_get n.parts k ≡ Some p → p.leaf.0 ≡ k) → FollowsAt n (rated_at n place) but m t u → FollowsPlace n place but before m t u
    place_leaves place t u numbered so = record {
      follows = so.follows;
      anew = λ d j i p is at named o.
          let number = numbered j p is in
          let got = rated_there n place j i p is number at named in
          subst (AreNew n m u) number (so.anew got.0 p.leaf got.1 (λ e. o (sym number ∙ e))) p is;
    }

    one_only : (xs : List LeafId) (k l : ℕ) (x y : LeafId) → length xs ≡ 1 → slice_get xs k ≡ Some x → slice_get xs l ≡ Some y → x ≡ y
    one_only [] k l x y h a b = absurd (omega (arith, h))
    one_only (z ∷ []) zero zero x y h a b = same_of (slice_get (z ∷ []) 0) x y a b
    one_only (z ∷ []) zero (suc l) x y h a b = absurd cc
    one_only (z ∷ []) (suc k) l x y h a b = absurd cc
    one_only (z ∷ w ∷ zs) k l x y h a b = absurd (omega (arith, h))

    -- a place of one leaf alone
    pub place_private : (place : ℕ) (t : Running) (q : Part) (c : ℕ) → ((k : ℕ) (p : Part) → slice_get n.parts k ≡ Some p → p.leaf.0 ≡ k) → length (importers_of n.parts place) ≡ 1
        → slice_get n.parts but ≡ Some q → slice_get (places_of q) c ≡ Some place → FollowsPlace n place but before m t t
    place_private place t q c numbered one own has = record {
      follows = follows_none t;
      anew = λ d j i p is at named o.
          let got = imported n.parts place j i p is at in
          let mine = imported n.parts place but c q own has in
          let same = one_only (importers_of n.parts place) got.0 mine.0 p.leaf q.leaf one got.1 mine.1 in
          absurd (o (sym (numbered j p is) ∙ (ap (λ (x : LeafId). x.0) same ∙ numbered but q own)));
    }

    module _ (places : List ℕ) where
      pub places_more : (k place : ℕ) (t u v : Running) → slice_get places k ≡ Some place → FollowsPlaces n (take k places) but before m t u → FollowsPlace n place but before m u v → FollowsPlaces n (take (k + 1) places) but before m t v
      places_more k place t u v here so now = record {
        follows = follows_on t u v so.follows now.follows;
        anew = λ c q e d j i p is at named o. by_case c q d j i p is at named o (taken_more places k c q e);
      }
        where
          by_case : (c q : ℕ) → slice_index before q ≢ slice_index m q → (j i : ℕ) (p : Part) → slice_get n.parts j ≡ Some p → slice_get (places_of p) i ≡ Some q → IsTrue (rate_cells p.atomic.rates i) → j ≢ but → (slice_get (take k places) c ≡ Some q) ⊎ ((c ≡ k) × (slice_get places k ≡ Some q)) → rates_at v j ≡ rates_of m p
          by_case c q d j i p is at named o (inl e) = new_stays u v j p now.follows is (so.anew c q e d j i p is at named o)
          by_case c q d j i p is at named o (inr e) =
              let same : q ≡ place = same_of (slice_get places k) q place e.1 here in
              now.anew (λ w. d (ap (slice_index before) same ∙ (w ∙ ap (slice_index m) (sym same)))) j i p is (at ∙ ap (λ (x : ℕ). (let y : Option ℕ = Some x in y)) same) named o
