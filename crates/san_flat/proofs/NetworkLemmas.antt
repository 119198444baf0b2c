-- A model within the limits makes a network that can be run.
use Rattle.std.proofs.Common.{◌≡◌, ℕ, suc, ◌+◌, ◌<◌, ◌≤◌, Bool, true, false, cond, List, [], ◌∷◌, ◌++◌, length, refl, ap, sym, ◌∙◌, subst, arith, map, take, Some, inl, inr, ◌⊎◌, filter, not, nat_eq, nat_lt, length-append}
use Rattle.std.specs.Prelude.{slice_get, slice_index_or}
use Rattle.std.specs.List.{All, list_any}
use Rattle.std.proofs.lemmas.Bool.Decides.{leb_tells}
use Rattle.std.proofs.lemmas.List.{length-map, map-append}
use Rattle.std.proofs.lemmas.List.Elements.{All-map}
use Rattle.std.proofs.lemmas.List.Filters.{length-filter_both}
use Rattle.std.proofs.lemmas.Option.{slice_get-get_or}
use Rattle.san_check.specs.declared.model.Model.{Model}
use Rattle.san_flat.proofs.LeafLemmas.{Composes, IsPlaced, all-at, home-found, placed, row-apart, row-long}
use Rattle.san_flat.proofs.ListLemmas.{apart-map, get-map, got-map}
use Rattle.san_flat.proofs.NumberLemmas.{at-number, in-ordered, numbers-count, numbers-tell, repeated-count}
use Rattle.san_flat.proofs.PartLemmas.{part-at, parts-acts, parts-long}
use Rattle.san_flat.proofs.TextLemmas.{AreNamed, texts-tell, texts-unbroken}
use Rattle.san_flat.proofs.TreePaths.{IsPath, paths-are}
use Rattle.san_flat.proofs.ValueLemmas.{cell-valued}
use Rattle.san_flat.specs.Homes.{CellHome, homes_in, rows_of, same}
use Rattle.san_flat.specs.Networks.{atomic_at, leaf_count, network_in, network_of_model, slot_at, slot_of, value_at}
use Rattle.san_flat.specs.inner.Models.{act_count, place_count}
use Rattle.san_flat.specs.inner.Models.{homes_of, leaves_of, part_of, parts_from, values_of}
use Rattle.san_flat.specs.Paths.{path_text}
use Rattle.san_net.specs.Accepted.{IsAccepted, rewards_of}
use Rattle.san_net.specs.Apart.{AreApart}
use Rattle.san_net.specs.Laid.{EachPart, IsNetwork, IsSlotted, IsTagged, IsValued, TakesImpulses, acts_of, all_places, is_blank, place_of}
use Rattle.san_net.specs.Numbering.{all_of, counting, firsts, is_often, number, ordered, repeated}
use Rattle.san_net.specs.declared.part.Part.{Part}
use Rattle.san_net.specs.declared.part.Slot.{Slot}
use Rattle.san_net.specs.declared.part.Slot.TheVariants.{Private, Shared}
use Rattle.san_tree.specs.Places.{node_at}
use Rattle.san_tree.specs.declared.instance.Instance.{Instance}

abbrev slot_by : Bool → ℕ → Slot
slot_by b place = cond b (Shared (record { 0 = place })) (Private (record { 0 = place }))

-- a slot's place is the number that it was made of, and it is shared where that is below the shared ones
slot-place : (shared place : ℕ) → place_of (slot_at shared place) ≡ place
slot-place shared place = by_test (nat_lt place shared)
  where
    by_test : (b : Bool) → place_of (slot_by b place) ≡ place
    by_test true = refl
    by_test false = refl

slot-tagged : (shared place : ℕ) → IsTagged shared (slot_at shared place)
slot-tagged shared place = by_test (leb_tells (suc place) shared)
  where
    by_test : ((nat_lt place shared ≡ true) × (suc place ≤ shared)) ⊎ ((nat_lt place shared ≡ false) × (shared < suc place)) → IsTagged shared (slot_at shared place)
    by_test (inl (t, l)) = subst (λ b. IsTagged shared (slot_by b place)) (sym t) (omega (arith, l))
    by_test (inr (t, l)) = subst (λ b. IsTagged shared (slot_by b place)) (sym t) (omega (arith, l))

-- as many homes in order as different ones
order-long : (xs : List CellHome) → length (ordered same xs) ≡ length (firsts same xs)
order-long xs = length-append (repeated same xs) (filter (λ k. not (is_often same xs k)) (firsts same xs)) ∙ length-filter_both (is_often same xs) (λ k. not (is_often same xs k)) (λ k. refl) (firsts same xs)

slots-places : (xs row : List CellHome) → map place_of (map (slot_of xs) row) ≡ map (number same xs) row
slots-places xs [] = refl
slots-places xs (h ∷ row) = ap (λ p. p ∷ map place_of (map (slot_of xs) row)) (slot-place (length (repeated same xs)) (number same xs h)) ∙ ap (λ ps. number same xs h ∷ ps) (slots-places xs row)

module _ (m : Model) (composed : Composes m) (few : leaf_count m ≤ 4096) where
  abbrev leaves : List Instance
  leaves = leaves_of m

  abbrev parts : List Part
  parts = parts_from m 0 0 leaves

  abbrev homes : List CellHome
  homes = homes_of m

  abbrev initial : List ℕ
  initial = map (value_at homes (values_of m)) (ordered same homes)

  -- what holds of the part of each leaf holds of each part
  each-part : (Holds : ℕ → Part → Type 0) → ((n : ℕ) (i : Instance) → slice_get leaves n ≡ Some i → IsPlaced m i → Holds n (part_of m n (acts_of (take n parts)) i)) → EachPart parts Holds
  each-part Holds h n p at =
      let is = part-at m 0 0 leaves n p at in
      let leaf : 0 + n ≡ n = omega arith in
      let first : 0 + acts_of (take n parts) ≡ acts_of (take n parts) = omega arith in
      let same : part_of m n (acts_of (take n parts)) is.instance ≡ p = sym (is.is ∙ ap (λ k. part_of m k (0 + acts_of (take n parts)) is.instance) leaf ∙ ap (λ k. part_of m n k is.instance) first) in
      subst (Holds n) same (h n is.instance is.there (placed m composed few n is.instance is.there))

  found : (n j : ℕ) (i : Instance) (h : CellHome) → slice_get leaves n ≡ Some i → slice_get (homes_in m.tree.nodes m.tree.root m.cells i) j ≡ Some h → list_any (same h) homes ≡ true
  found n j i h at here = home-found m.tree.nodes m.tree.root m.cells leaves n j i h at here

  slotted : (n : ℕ) (i : Instance) → slice_get leaves n ≡ Some i → IsPlaced m i → IsSlotted (length (repeated same homes)) (part_of m n (acts_of (take n parts)) i)
  slotted n i at p =
      let row = homes_in m.tree.nodes m.tree.root m.cells i in
      record {
        each = length-map row (slot_of homes) ∙ row-long m composed i p;
        apart = subst AreApart (sym (slots-places homes row)) (apart-map (number same homes) row (row-apart m composed i p) (λ j k x y a b e. numbers-tell homes x y (found n j i x at a) (found n k i y at b) e));
        tagged = All-map (IsTagged (length (repeated same homes))) (slot_of homes) row (λ k d l. slot-tagged (length (repeated same homes)) (number same homes (slice_index_or row k d)));
      }

  valued : (n : ℕ) (i : Instance) → slice_get leaves n ≡ Some i → IsPlaced m i → IsValued initial (part_of m n (acts_of (take n parts)) i)
  valued n i at p j place is =
      let row = homes_in m.tree.nodes m.tree.root m.cells i in
      let cell = got-map (number same homes) row j place (ap (λ ps. slice_get ps j) (sym (slots-places homes row)) ∙ is) in
      let there = found n j i cell.0 at cell.1.0 in
      ap (slice_get initial) (sym cell.1.1)
      ∙ get-map (value_at homes (values_of m)) (ordered same homes) (number same homes cell.0) cell.0 (at-number (ordered same homes) cell.0 (in-ordered homes cell.0 there))
      ∙ cell-valued m composed few i p j cell.0 cell.1.0 there

  places-are : (leaf first : ℕ) (some : List Instance) → all_places (parts_from m leaf first some) ≡ map (number same homes) (all_of (rows_of m.tree.nodes m.tree.root m.cells some))
  places-are leaf first [] = refl
  places-are leaf first (i ∷ some) =
      let row = homes_in m.tree.nodes m.tree.root m.cells i in
      let acts = length (atomic_at m.atomics i.atomic).acts in
      ap (λ ps. ps ++ all_places (parts_from m (leaf + 1) (first + acts) some)) (slots-places homes row)
      ∙ ap (λ ps. map (number same homes) row ++ ps) (places-are (leaf + 1) (first + acts) some)
      ∙ sym (map-append (number same homes) row (all_of (rows_of m.tree.nodes m.tree.root m.cells some)))

  initial-long : length initial ≡ place_count m
  initial-long = length-map (ordered same homes) (value_at homes (values_of m)) ∙ order-long homes

  the-paths : (n : ℕ) (i : Instance) → slice_get leaves n ≡ Some i → IsPath m.tree.nodes m.tree.root i.path
  the-paths n i at = (placed m composed few n i at).path

  all-named : (n : ℕ) → AreNamed (node_at m.tree.nodes n)
  all-named n = record { names = composed.children_named n; apart = composed.children_apart n }

  abbrev text_of : Instance → List ℕ
  text_of i = path_text m.system m.tree.nodes m.tree.root i.path

  abbrev path_in : Instance → List ℕ
  path_in i = i.path

  texts-apart : AreApart (map text_of leaves)
  texts-apart i j text a b =
      let p = got-map text_of leaves i text a in
      let q = got-map text_of leaves j text b in
      let same = texts-tell m.system m.tree.nodes all-named m.tree.root p.0.path q.0.path (the-paths i p.0 p.1.0) (the-paths j q.0 q.1.0) (p.1.1 ∙ sym q.1.1) in
      (paths-are m.tree.nodes m.tree.root few).apart i j q.0.path (get-map path_in leaves i p.0 p.1.0 ∙ ap Some same) (get-map path_in leaves j q.0 q.1.0)

  texts-whole : All (λ path. list_any is_blank path ≡ false) (map text_of leaves)
  texts-whole = All-map (λ path. list_any is_blank path ≡ false) text_of leaves (λ k d l. texts-unbroken m.system composed.named m.tree.nodes all-named m.tree.root (slice_index_or leaves k d).path (the-paths k (slice_index_or leaves k d) (slice_get-get_or leaves k d l)))

  pub is-network : place_count m ≤ 65536 → act_count m ≤ 65536 → IsNetwork (network_of_model m)
  unfolding network_in
  is-network places acts = record {
    accepted = each-part (λ _ p. IsAccepted p.atomic) (λ n i at p. all-at IsAccepted m.atomics composed.accepted i.atomic (atomic_at m.atomics i.atomic) p.atomic);
    rewarded = record {
      few = composed.few_rewards;
      spans = composed.spans;
      known = each-part (λ _ p. All (λ r. r < length m.rewards) (rewards_of p.atomic)) (λ n i at p. all-at (λ x. All (λ r. r < length m.rewards) (rewards_of x)) m.atomics composed.known i.atomic (atomic_at m.atomics i.atomic) p.atomic);
      intervals = each-part (λ _ p. All (λ t. TakesImpulses (slice_get m.rewards t.reward)) p.atomic.impulses) (λ n i at p. all-at (λ x. All (λ t. TakesImpulses (slice_get m.rewards t.reward)) x.impulses) m.atomics composed.intervals i.atomic (atomic_at m.atomics i.atomic) p.atomic);
    };
    slotted = each-part (λ _ p. IsSlotted (length (repeated same homes)) p) slotted;
    valued = each-part (λ _ p. IsValued initial p) valued;
    paths = record {
      each = length-map leaves text_of ∙ sym (parts-long m 0 0 leaves);
      apart = texts-apart;
      unbroken = texts-whole;
    };
    numbered = record {
      leaves = each-part (λ k p. p.leaf.0 ≡ k) (λ n i at p. refl);
      acts = each-part (λ k p. p.first.0 ≡ acts_of (take k parts)) (λ n i at p. refl);
      places = ap (ordered nat_eq) (places-are 0 0 leaves) ∙ numbers-count homes ∙ ap (counting 0) (sym (length-map (ordered same homes) (value_at homes (values_of m))));
    };
    shared = sym (ap (λ ps. length (repeated nat_eq ps)) (places-are 0 0 leaves) ∙ repeated-count homes);
    small = record {
      leaves = omega (arith, few, parts-long m 0 0 leaves);
      places = omega (arith, places, initial-long);
      acts = omega (arith, acts, parts-acts m 0 0 leaves);
    };
  }
