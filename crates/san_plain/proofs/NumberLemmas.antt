-- An activity by its number in the network: its leaf, its impulses, and the places that it may change.
use Rattle.std.proofs.Common.{ℕ, zero, suc, ◌+◌, ◌-◌, ◌<◌, ◌≡◌, ◌⊎◌, inl, inr, ◌∙◌, ap, sym, refl, subst, arith, List, [], ◌∷◌, ◌++◌, length, take, Option, Some, None, slice_index_or}
use Rattle.std.specs.Option.{option_map}
use Rattle.std.specs.Prelude.{replicate, slice_get, slice_index, unwrap_or}
use Rattle.std.proofs.lemmas.List.Concat.{flat_map-cons}
use Rattle.std.proofs.lemmas.List.Sums.{sum_by-cons}
use Rattle.san_base.specs.declared.numbers.LeafId.{LeafId}
use Rattle.san_law.proofs.Places.{index_of_is, scatter_frame}
use Rattle.san_law.specs.Activity as leaf
use Rattle.san_law.specs.Network.{Limits}
use Rattle.san_law.specs.State.{gather, index_of, scatter, slots_of}
use Rattle.san_net.specs.Instants.{Named}
use Rattle.san_net.specs.Laid.{IsNetwork, acts_of, places_of}
use Rattle.san_net.specs.Leaf.{activities_from, impulses_in}
use Rattle.san_net.specs.Network.{Network, net_of}
use Rattle.san_net.specs.Tables.{leaves_of_acts}
use Rattle.san_net.specs.declared.atomic.ImpulseTerm.{ImpulseTerm}
use Rattle.san_net.specs.declared.part.Part.{Part}
use Rattle.san_net.proofs.TableLemmas.{got_at}
use Rattle.san_report.specs.Lines.{leaf_of}
use Rattle.san_plain.specs.inner.Accounts.{Reaches, impulses_by, impulses_of}
use Rattle.san_seq.specs.Reaching.{impulses_at}
use Rattle.san_net.specs.Tables.{IsActOf, act_of, first_of}
use Rattle.san_seq.proofs.NextLemmas.{cut}
use Rattle.san_net.proofs.PartLemmas.{part_is, places_are}
use Rattle.san_net.proofs.FlatLemmas.{acts_within}

front : (a : ℕ) (x : LeafId) (rest : List LeafId) (k : ℕ) → k < a → slice_get (replicate a x ++ rest) k ≡ Some x
front zero x rest k h = absurd (omega (arith, h))
front (suc a) x rest zero h = refl
front (suc a) x rest (suc k) h = front a x rest k (omega (arith, h))

behind : (a : ℕ) (x : LeafId) (rest : List LeafId) (k : ℕ) → slice_get (replicate a x ++ rest) (a + k) ≡ slice_get rest k
behind zero x rest k = ap (slice_get rest) (let z : 0 + k ≡ k = omega arith in z)
behind (suc a) x rest k = ap (slice_get (x ∷ (replicate a x ++ rest))) (let z : suc a + k ≡ suc (a + k) = omega arith in z) ∙ behind a x rest k

abbrev leaves : Part → List LeafId
leaves p = replicate (length p.atomic.acts) p.leaf

leaves_at : (parts : List Part) (j k : ℕ) (p : Part) → slice_get parts j ≡ Some p → k < length p.atomic.acts → slice_get (leaves_of_acts parts) (acts_of (take j parts) + k) ≡ Some p.leaf
leaves_at [] j k p is h = absurd cc
leaves_at (q ∷ qs) zero k p is h =
    let same : q ≡ p = cc in
    let z : acts_of (take 0 (q ∷ qs)) + k ≡ k = omega arith in
    ap (slice_get (leaves_of_acts (q ∷ qs))) z
    ∙ (ap (λ (xs : List LeafId). slice_get xs k) (flat_map-cons leaves q qs)
    ∙ (front (length q.atomic.acts) q.leaf (leaves_of_acts qs) k (subst (λ (x : Part). k < length x.atomic.acts) (sym same) h)
    ∙ ap (λ (x : Part). Some x.leaf) same))
leaves_at (q ∷ qs) (suc j) k p is h =
    let many = sum_by-cons (λ (x : Part). length x.atomic.acts) q (take j qs) in
    let z : acts_of (take (suc j) (q ∷ qs)) + k ≡ length q.atomic.acts + (acts_of (take j qs) + k) = omega (arith, many) in
    ap (slice_get (leaves_of_acts (q ∷ qs))) z
    ∙ (ap (λ (xs : List LeafId). slice_get xs (length q.atomic.acts + (acts_of (take j qs) + k))) (flat_map-cons leaves q qs)
    ∙ (behind (length q.atomic.acts) q.leaf (leaves_of_acts qs) (acts_of (take j qs) + k)
    ∙ leaves_at qs j k p is h))

act_numbered : (terms : List ImpulseTerm) (b k : ℕ) (acts : List Named) (v : List ℕ) → k < length acts → (slice_index_or (activities_from terms b acts) k leaf.no_activity).impulses v ≡ impulses_in terms (b + k) v
act_numbered terms b k [] v h = absurd (omega (arith, h))
act_numbered terms b zero (a ∷ acts) v h = ap (λ (m : ℕ). impulses_in terms m v) (let z : b ≡ b + 0 = omega arith in z)
act_numbered terms b (suc k) (a ∷ acts) v h = act_numbered terms (suc b) k acts v (omega (arith, h)) ∙ ap (λ (m : ℕ). impulses_in terms m v) (let z : suc b + k ≡ b + suc k = omega arith in z)

module _ (n : Network) (known : IsNetwork n) (j k : ℕ) (act : IsActOf n j k) where
  part : Part
  part = (cut n.parts j act.leaf).0

  there : slice_get n.parts j ≡ Some part
  unfolding part
  there = (cut n.parts j act.leaf).1

  within : k < length part.atomic.acts
  within = act.act part there

  number : (act_of n j k).0 ≡ part.first.0 + k
  number = ap (λ (o : Option Part). first_of o + k) there

  pub act_below : (act_of n j k).0 < acts_of n.parts
  act_below = omega (arith, number, within, acts_within n j part known there)

  pub leaf_is : leaf_of n (act_of n j k).0 ≡ j
  leaf_is =
      let first = known.numbered.acts j part there in
      let z : (act_of n j k).0 ≡ acts_of (take j n.parts) + k = omega (arith, number, first) in
      ap (λ (a : ℕ). leaf_of n a) z
      ∙ (ap (λ (o : Option LeafId). unwrap_or (option_map (λ (l : LeafId). l.0) o) 0) (leaves_at n.parts j k part there within)
      ∙ known.numbered.leaves j part there)

  part_there : slice_get n.parts (leaf_of n (act_of n j k).0) ≡ Some part
  part_there = ap (slice_get n.parts) leaf_is ∙ there

  -- the impulses of a completion are those of its number in the marking that it reaches
  pub impulses_same : (draw : ℕ → ℕ → ℕ) (bounds : Limits) (m : List ℕ) → impulses_of n (act_of n j k).0 m ≡ impulses_at n j k (gather (slots_of (net_of n draw bounds) j) m)
  impulses_same draw bounds m =
      let values = gather (slots_of (net_of n draw bounds) j) m in
      let places = places_are n j part there draw bounds in
      let from : (act_of n j k).0 - part.first.0 ≡ 0 + k = omega (arith, number) in
      ap (λ (o : Option Part). impulses_by o (act_of n j k).0 m) part_there
      ∙ (ap (λ (a : ℕ). impulses_in part.atomic.impulses a (gather (places_of part) m)) from
      ∙ (ap (λ (ps : List ℕ). impulses_in part.atomic.impulses (0 + k) (gather ps m)) (sym places)
      ∙ (sym (act_numbered part.atomic.impulses 0 k part.atomic.acts values within)
      ∙ ap (λ (q : leaf.Part). (slice_index_or q.activities k leaf.no_activity).impulses values) (sym (part_is n j part there)))))

  -- a completion changes none but its leaf's places
  pub reaches : (draw : ℕ → ℕ → ℕ) (bounds : Limits) (values old : List ℕ) → Reaches n (act_of n j k).0 old (scatter (slots_of (net_of n draw bounds) j) values old)
  reaches draw bounds values old q = by_place (index_of q (slots_of (net_of n draw bounds) j)) refl
    where
      by_place : (o : Option ℕ) → index_of q (slots_of (net_of n draw bounds) j) ≡ o
          → (slice_index (scatter (slots_of (net_of n draw bounds) j) values old) q ≡ slice_index old q) ⊎ ((p : Part) → slice_get n.parts (leaf_of n (act_of n j k).0) ≡ Some p → (i : ℕ) × (slice_get (places_of p) i ≡ Some q))
      by_place None e = inl (scatter_frame (slots_of (net_of n draw bounds) j) values old q e)
      by_place (Some i) e = inr (λ p at. (let slots = slots_of (net_of n draw bounds) j in
          let h = index_of_is slots q i e in
          let places = places_are n j p (sym (ap (slice_get n.parts) leaf_is) ∙ at) draw bounds in
          (i, ap (λ (ps : List ℕ). slice_get ps i) (sym places) ∙ (got_at slots i h.within ∙ ap (λ (x : ℕ). (let o : Option ℕ = Some x in o)) h.is))))
