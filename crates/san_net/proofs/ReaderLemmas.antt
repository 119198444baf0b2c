-- What the readers of a network's tables give.
use Rattle.std.proofs.Common.{ℕ, zero, suc, ◌+◌, ◌-◌, ◌≤◌, ◌<◌, ◌≡◌, ◌∙◌, ap, sym, refl, subst, arith, Bool, true, false, cond, nat_eq, Some, List, [], ◌∷◌, ◌++◌, map, length, filter, take, ◌⊎◌, inl, inr}
use Rattle.std.specs.Prelude.{All, replicate, slice_get, slice_index}
use Rattle.std.specs.List.{list_any}
use Rattle.std.specs.List.Sorted.{IsStrictlyIncreasing}
use Rattle.std.proofs.lemmas.List.Concat.{flat_map-cons}
use Rattle.std.proofs.lemmas.List.Elements.{All-cons, All-nil}
use Rattle.std.proofs.lemmas.List.Sums.{sum_by-cons}
use Rattle.std.proofs.lemmas.Option.{slice_get_within}
use Rattle.san_base.specs.declared.numbers.LeafId.{LeafId}
use Rattle.san_net.specs.Laid.{EachPart, IsNetwork, acts_of, places_of}
use Rattle.san_net.specs.Network.{Network}
use Rattle.san_net.specs.Tables.{importers_of, leaves_of_acts}
use Rattle.san_net.specs.declared.part.Part.{Part}

-- an item of a list that begins with so many of one
abbrev Splits : ℕ → LeafId → List LeafId → ℕ → LeafId → Type 0
Splits a x rest act leaf = ((act < a) × (leaf ≡ x)) ⊎ ((a ≤ act) × (slice_get rest (act - a) ≡ Some leaf))

split : (a : ℕ) (x : LeafId) (rest : List LeafId) (act : ℕ) (leaf : LeafId) → slice_get (replicate a x ++ rest) act ≡ Some leaf → Splits a x rest act leaf
split zero x rest act leaf is = inr (omega arith, subst (λ (n : ℕ). slice_get rest n ≡ Some leaf) (omega arith) is)
split (suc a) x rest zero leaf is = inl (omega arith, let e : x ≡ leaf = cc in sym e)
split (suc a) x rest (suc act) leaf is = by_case (split a x rest act leaf is)
  where
    by_case : Splits a x rest act leaf → Splits (suc a) x rest (suc act) leaf
    by_case (inl t) = inl (omega (arith, t.0), t.1)
    by_case (inr t) = inr (omega (arith, t.0), subst (λ (n : ℕ). slice_get rest n ≡ Some leaf) (omega arith) t.1)

-- the part that has an activity
record Has (parts : List Part) (act : ℕ) (leaf : LeafId) : Type 0 where
  at : ℕ
  part : Part
  there : slice_get parts at ≡ Some part
  leaf_is : leaf ≡ part.leaf
  low : acts_of (take at parts) ≤ act
  high : act < acts_of (take at parts) + length part.atomic.acts

found : (parts : List Part) (act : ℕ) (leaf : LeafId) → slice_get (leaves_of_acts parts) act ≡ Some leaf → Has parts act leaf
found [] act leaf is = absurd cc
found (p ∷ parts) act leaf is =
    by_case (split (length p.atomic.acts) p.leaf (leaves_of_acts parts) act leaf (subst (λ (xs : List LeafId). slice_get xs act ≡ Some leaf) (flat_map-cons (λ (q : Part). replicate (length q.atomic.acts) q.leaf) p parts) is))
    (λ n h. found parts n leaf h)
  where
    by_case : Splits (length p.atomic.acts) p.leaf (leaves_of_acts parts) act leaf → ((n : ℕ) → slice_get (leaves_of_acts parts) n ≡ Some leaf → Has parts n leaf) → Has (p ∷ parts) act leaf
    by_case (inl t) more = record { at = 0; part = p; there = refl; leaf_is = t.1; low = omega arith; high = omega (arith, t.0) }
    by_case (inr t) more =
        let r = more (act - length p.atomic.acts) t.1 in
        let all = sum_by-cons (λ (q : Part). length q.atomic.acts) p (take r.at parts) in
        record { at = suc r.at; part = r.part; there = r.there; leaf_is = r.leaf_is; low = omega (arith, all, r.low, t.0); high = omega (arith, all, r.high, t.0) }

module _ (n : Network) (net : IsNetwork n) where
  pub leaf_there : (act : ℕ) (leaf : LeafId) → slice_get (leaves_of_acts n.parts) act ≡ Some leaf → leaf.0 < length n.parts
  leaf_there act leaf is =
      let r = found n.parts act leaf is in
      let at : leaf.0 ≡ r.at = ap (λ (l : LeafId). l.0) r.leaf_is ∙ net.numbered.leaves r.at r.part r.there in
      let within = slice_get_within n.parts r.at r.part r.there in
      omega (arith, at, within)

  pub act_there : (act : ℕ) (leaf : LeafId) → slice_get (leaves_of_acts n.parts) act ≡ Some leaf → (p : Part) → slice_get n.parts leaf.0 ≡ Some p → (p.first.0 ≤ act) × (act < p.first.0 + length p.atomic.acts)
  act_there act leaf is p at =
      let r = found n.parts act leaf is in
      let number : leaf.0 ≡ r.at = ap (λ (l : LeafId). l.0) r.leaf_is ∙ net.numbered.leaves r.at r.part r.there in
      let one : Some r.part ≡ Some p = sym r.there ∙ ap (slice_get n.parts) (sym number) ∙ at in
      let same : r.part ≡ p = cc in
      let first : r.part.first.0 ≡ acts_of (take r.at n.parts) = net.numbered.acts r.at r.part r.there in
      subst (λ (x : Part). (x.first.0 ≤ act) × (act < x.first.0 + length x.atomic.acts)) same (omega (arith, first, r.low), omega (arith, first, r.high))

-- leaves that are numbered from k on are below the end
importers_from : (k : ℕ) (parts : List Part) (place : ℕ) → EachPart parts (λ i p. p.leaf.0 ≡ k + i) → All (λ (leaf : LeafId). leaf.0 < k + length parts) (importers_of parts place)
importers_from k [] place h = All-nil (λ (leaf : LeafId). leaf.0 < k + 0)
importers_from k (p ∷ parts) place h =
    by_test (list_any (nat_eq place) (places_of p))
    (subst (λ (m : ℕ). All (λ (leaf : LeafId). leaf.0 < m) (importers_of parts place)) (omega arith) (importers_from (suc k) parts place (λ i q is. let e = h (suc i) q is in omega (arith, e))))
  where
    here : p.leaf.0 < k + suc (length parts)
    here = let e = h 0 p refl in omega (arith, e)

    by_test : (b : Bool) → All (λ (leaf : LeafId). leaf.0 < k + suc (length parts)) (importers_of parts place)
        → All (λ (leaf : LeafId). leaf.0 < k + suc (length parts)) (map (λ (q : Part). q.leaf) (cond b (p ∷ filter (λ q. list_any (nat_eq place) (places_of q)) parts) (filter (λ q. list_any (nat_eq place) (places_of q)) parts)))
    by_test true r = All-cons (λ (leaf : LeafId). leaf.0 < k + suc (length parts)) p.leaf (importers_of parts place) here r
    by_test false r = r

pub importers_below : (n : Network) → IsNetwork n → (place : ℕ) → All (λ (leaf : LeafId). leaf.0 < length n.parts) (importers_of n.parts place)
importers_below n net place = subst (λ (m : ℕ). All (λ (leaf : LeafId). leaf.0 < m) (importers_of n.parts place)) (omega arith) (importers_from 0 n.parts place (λ i p is. let e = net.numbered.leaves i p is in omega (arith, e)))

abbrev numbers : List LeafId → List ℕ
numbers leaves = map (λ (leaf : LeafId). leaf.0) leaves

rising_put : (x : ℕ) (xs : List ℕ) → All (λ y. x < y) xs → IsStrictlyIncreasing xs → IsStrictlyIncreasing (x ∷ xs)
rising_put x [] above rising = λ k l. absurd (omega (arith, l))
rising_put x (y ∷ xs) above rising = by_place
  where
    by_place : IsStrictlyIncreasing (x ∷ y ∷ xs)
    by_place zero l = above 0 0 (omega arith)
    by_place (suc k) l =
        let up : suc (k + 1) ≡ suc k + 1 = omega arith in
        subst (λ (m : ℕ). slice_index (y ∷ xs) k < slice_index (x ∷ y ∷ xs) m) up (rising k (omega (arith, l)))

abbrev Rises : ℕ → List ℕ → Type 0
Rises k xs = All (λ y. k ≤ y) xs × IsStrictlyIncreasing xs

-- leaves that are numbered from k on rise
importers_rise : (k : ℕ) (parts : List Part) (place : ℕ) → EachPart parts (λ i p. p.leaf.0 ≡ k + i) → Rises k (numbers (importers_of parts place))
importers_rise k [] place h = (All-nil (λ y. k ≤ y), λ i l. absurd (omega (arith, l)))
importers_rise k (p ∷ parts) place h =
    by_test (list_any (nat_eq place) (places_of p)) (importers_rise (suc k) parts place (λ i q is. let e = h (suc i) q is in omega (arith, e)))
  where
    here : p.leaf.0 ≡ k
    here = let e = h 0 p refl in omega (arith, e)

    later : All (λ y. suc k ≤ y) (numbers (importers_of parts place)) → All (λ y. k ≤ y) (numbers (importers_of parts place))
    later a = λ i d l. let b = a i d l in omega (arith, b)

    by_test : (b : Bool) → Rises (suc k) (numbers (importers_of parts place))
        → Rises k (numbers (map (λ (q : Part). q.leaf) (cond b (p ∷ filter (λ q. list_any (nat_eq place) (places_of q)) parts) (filter (λ q. list_any (nat_eq place) (places_of q)) parts))))
    by_test true r = (
      All-cons (λ y. k ≤ y) p.leaf.0 (numbers (importers_of parts place)) (omega (arith, here)) (later r.0),
      rising_put p.leaf.0 (numbers (importers_of parts place)) (λ i d l. let b = r.0 i d l in omega (arith, b, here)) r.1,
    )
    by_test false r = (later r.0, r.1)

pub importers_ascend : (n : Network) → IsNetwork n → (place : ℕ) → IsStrictlyIncreasing (map (λ (leaf : LeafId). leaf.0) (importers_of n.parts place))
importers_ascend n net place = (importers_rise 0 n.parts place (λ i p is. let e = net.numbered.leaves i p is in omega (arith, e))).1
