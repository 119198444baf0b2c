-- What a network's readers look up.
use Rattle.std.specs.Prelude.{ℕ, ◌≡◌, ◌<◌, ◌+◌, ◌++◌, nat_eq, List, [], ◌∷◌, length, map, filter, replicate, Option, Some, None, slice_get, slice_index_or, if◌then◌else◌}
use Rattle.std.specs.List.{flat_map, list_any}
use Rattle.san_base.specs.declared.numbers.ActId.{ActId}
use Rattle.san_base.specs.declared.numbers.LeafId.{LeafId}
use Rattle.san_net.specs.Laid.{IsNetwork, places_of}
use Rattle.san_net.specs.Network.{Network}
use Rattle.san_net.specs.declared.part.Part.{Part}

-- the leaves that have a place, in order
abbrev pub importers_of : List Part → ℕ → List LeafId
importers_of parts place = map (λ p. p.leaf) (filter (λ p. list_any (nat_eq place) (places_of p)) parts)

-- for each activity its leaf
abbrev pub leaves_of_acts : List Part → List LeafId
leaves_of_acts parts = flat_map (λ p. replicate (length p.atomic.acts) p.leaf) parts

-- the number of a leaf's first activity
abbrev pub first_of : Option Part → ℕ
first_of None = 0
first_of (Some p) = p.first.0

-- the network's number of an activity of a leaf
abbrev pub act_of : Network → ℕ → ℕ → ActId
act_of n j k = record { 0 = first_of (slice_get n.parts j) + k }

-- the network has this activity in this leaf
pub record IsActOf (n : Network) (j k : ℕ) : Type 0 where
  pub leaf : j < length n.parts
  pub act : (p : Part) → slice_get n.parts j ≡ Some p → k < length p.atomic.acts

-- a leaf went behind those of each of the places, and of no other
abbrev pub IsNoted : List (List LeafId) → List (List LeafId) → LeafId → List ℕ → Type 0
IsNoted before after leaf places = (q : ℕ) → slice_index_or after q [] ≡ slice_index_or before q [] ++ (if list_any (nat_eq q) places then leaf ∷ [] else [])

-- a network with the tables of its parts
pub record IsFlat (n : Network) (importers : List (List LeafId)) (leaf_of : List LeafId) : Type 0 where
  pub network : IsNetwork n
  pub sized : length importers ≡ length n.initial
  pub by_place : (place : ℕ) → slice_index_or importers place [] ≡ importers_of n.parts place
  pub acts : leaf_of ≡ leaves_of_acts n.parts
