-- A network's leaf by number: as the law sees it, and over a marking.
use Rattle.std.proofs.Common.{ℕ, zero, suc, ◌≡◌, ◌<◌, ◌∙◌, ap, sym, refl, subst, List, [], ◌∷◌, length, map, Option, Some, None, arith}
use Rattle.std.specs.Prelude.{slice_get}
use Rattle.std.proofs.lemmas.List.{get_or-map, length-map}
use Rattle.std.proofs.lemmas.Option.{get_or_from_slice_get, slice_get_within}
use Rattle.san_law.specs.Activity as leaf
use Rattle.san_law.specs.Lawful.{AllBelow, AreDistinct, IsLaid}
use Rattle.san_law.specs.Network as law
use Rattle.san_law.specs.State.{place_of as law_place, slots_of}
use Rattle.san_net.specs.Laid.{place_of, places_of}
use Rattle.san_net.specs.Leaf.{leaf_of, slot_in, activities_from}
use Rattle.san_net.specs.Network.{Network, net_of, network_in}
use Rattle.san_net.specs.declared.part.Part.{Part}
use Rattle.san_net.specs.declared.part.Slot.{Slot}
use Rattle.san_net.specs.declared.part.Slot.TheVariants.{Private, Shared}
use Rattle.san_net.specs.Cells.{LiesOver}
use Rattle.san_net.specs.Instants.{Named}
use Rattle.san_net.specs.declared.atomic.ImpulseTerm.{ImpulseTerm}

-- a leaf that is there has a part
pub part_there : (parts : List Part) (j : ℕ) → j < length parts → (p : Part) × (slice_get parts j ≡ Some p)
part_there [] j l = absurd (omega (arith, l))
part_there (p ∷ parts) zero l = (p, refl)
part_there (p ∷ parts) (suc j) l = part_there parts j (omega (arith, l))

-- and so has the law's network
pub leaf_there : (parts : List Part) (j : ℕ) (p : Part) → slice_get parts j ≡ Some p → slice_get (map leaf_of parts) j ≡ Some (leaf_of p)
leaf_there [] j p e = cc
leaf_there (q ∷ parts) zero p e = ap leaf_or e
  where
    leaf_or : Option Part → Option leaf.Part
    leaf_or None = None
    leaf_or (Some x) = Some (leaf_of x)
leaf_there (q ∷ parts) (suc j) p e = leaf_there parts j p e

-- the law's activities of a part are as many
pub activities_long : (terms : List ImpulseTerm) (k : ℕ) (acts : List Named) → length (activities_from terms k acts) ≡ length acts
activities_long terms k [] = refl
activities_long terms k (a ∷ acts) = ap suc (activities_long terms (suc k) acts)

slots_in : (ss : List Slot) → map law_place (map slot_in ss) ≡ map place_of ss
slots_in [] = refl
slots_in (Private p ∷ ss) = ap (λ (xs : List ℕ). p.0 ∷ xs) (slots_in ss)
slots_in (Shared p ∷ ss) = ap (λ (xs : List ℕ). p.0 ∷ xs) (slots_in ss)

module _ (n : Network) (j : ℕ) (p : Part) (is : slice_get n.parts j ≡ Some p) where
  pub part_is : law.part_at (network_in n) j ≡ leaf_of p
  part_is = get_or-map leaf_of n.parts j p law.no_part (slice_get_within n.parts j p is) ∙ ap leaf_of (get_or_from_slice_get n.parts j p p is)

  pub places_are : (draw : ℕ → ℕ → ℕ) (limits : law.Limits) → slots_of (net_of n draw limits) j ≡ places_of p
  places_are draw limits =
      ap (map law_place) (get_or-map (λ (q : leaf.Part). q.slots) (map leaf_of n.parts) j law.no_part [] inside ∙ ap (λ (q : leaf.Part). q.slots) part_is) ∙ slots_in p.slots
    where
      inside : j < length (map leaf_of n.parts)
      inside = omega (arith, slice_get_within n.parts j p is, length-map n.parts leaf_of)

  pub lies_over : (m : List ℕ) → length m ≡ length n.initial → ((draw : ℕ → ℕ → ℕ) (limits : law.Limits) → IsLaid (net_of n draw limits) (length n.initial)) → LiesOver (places_of p) m
  lies_over m sized laid =
      let draw : ℕ → ℕ → ℕ = λ s k. 0 in
      let limits : law.Limits = record { horizon = 0; burst = 0; events = 0 } in
      let lies = laid draw limits in
      record {
        apart = subst AreDistinct (places_are draw limits) (lies.distinct j);
        within = subst (λ (k : ℕ). AllBelow (places_of p) k) (sym sized) (subst (λ (ps : List ℕ). AllBelow ps (length n.initial)) (places_are draw limits) (lies.below j));
      }
