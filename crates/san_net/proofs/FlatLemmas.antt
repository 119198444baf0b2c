-- The tables of a network.
use Rattle.std.proofs.Common.{◌≡◌, ◌∙◌, ℕ, zero, suc, get_or, sym, ◌+◌, ◌<◌, ◌≤◌, ap, arith, refl, List, [], ◌∷◌, length, length-append, Option, Some, take}
use Rattle.std.specs.Prelude.{replicate, slice_get}
use Rattle.std.proofs.lemmas.List.{length-replicate}
use Rattle.std.proofs.lemmas.List.Concat.{flat_map-cons}
use Rattle.std.proofs.lemmas.List.Sums.{sum_by-cons}
use Rattle.san_base.specs.declared.numbers.LeafId.{LeafId}
use Rattle.san_net.specs.Laid.{EachPart, IsNetwork, acts_of, places_of}
use Rattle.san_net.specs.Network.{Network}
use Rattle.san_net.specs.Tables.{leaves_of_acts}
use Rattle.san_net.specs.declared.part.Part.{Part}
use Rattle.san_net.proofs.FirstLemmas.{got_one}
use Rattle.san_net.proofs.LaidLemmas.{place_below}

-- each activity has its leaf
pub acts_counted : (parts : List Part) → length (leaves_of_acts parts) ≡ acts_of parts
acts_counted [] = refl
acts_counted (p ∷ parts) =
    let front = ap length (flat_map-cons (λ (q : Part). replicate (length q.atomic.acts) q.leaf) p parts) ∙ length-append (replicate (length p.atomic.acts) p.leaf) (leaves_of_acts parts) in
    let here = length-replicate (length p.atomic.acts) p.leaf in
    let all = sum_by-cons (λ (q : Part). length q.atomic.acts) p parts in
    let rest = acts_counted parts in
    omega (arith, front, here, all, rest)

pub places_within : (n : Network) → IsNetwork n → EachPart n.parts (λ _ p. (i place : ℕ) → slice_get (places_of p) i ≡ Some place → place < length n.initial)
places_within n net j p is i q at = place_below n net j i q p is at

-- what a table of the activities' leaves has at an activity
pub leaf_at : (parts : List Part) (table : List LeafId) (act : ℕ) (leaf : LeafId) → table ≡ leaves_of_acts parts → act < acts_of parts → leaf ≡ get_or table act leaf → slice_get (leaves_of_acts parts) act ≡ Some leaf
leaf_at parts table act leaf is within at =
    let many = acts_counted parts in
    got_one (leaves_of_acts parts) act leaf (omega (arith, many, within)) ∙ ap Some (sym (at ∙ ap (λ (xs : List LeafId). get_or xs act leaf) is))

-- the activities of one part more
acts_more : (ps : List Part) (j : ℕ) (p : Part) → slice_get ps j ≡ Some p → acts_of (take j ps) + length p.atomic.acts ≤ acts_of ps
acts_more [] j p is = cc
acts_more (q ∷ qs) zero p is =
    let all : acts_of (q ∷ qs) ≡ length q.atomic.acts + acts_of qs = sum_by-cons (λ x. length x.atomic.acts) q qs in
    let none : acts_of (take zero (q ∷ qs)) ≡ 0 = refl in
    omega (arith, all, none, ap (λ (x : Part). length x.atomic.acts) (some_same q p is))
  where
    some_same : (x y : Part) → (let o : Option Part = Some x in o) ≡ Some y → x ≡ y
    some_same x y e = cc
acts_more (q ∷ qs) (suc j) p is =
    let all : acts_of (q ∷ qs) ≡ length q.atomic.acts + acts_of qs = sum_by-cons (λ x. length x.atomic.acts) q qs in
    let front : acts_of (take (suc j) (q ∷ qs)) ≡ length q.atomic.acts + acts_of (take j qs) = sum_by-cons (λ x. length x.atomic.acts) q (take j qs) in
    omega (arith, all, front, acts_more qs j p is)

pub acts_within : (n : Network) (j : ℕ) (p : Part) → IsNetwork n → slice_get n.parts j ≡ Some p → p.first.0 + length p.atomic.acts ≤ acts_of n.parts
acts_within n j p known is = omega (arith, acts_more n.parts j p is, known.numbered.acts j p is)
