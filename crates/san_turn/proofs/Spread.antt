-- The flags after a block are the law's.
use Rattle.san_base.proofs.Bools.{or_false, and_false}
use Rattle.san_base.proofs.NumberTests.{number_itself, other_number}
use Rattle.std.proofs.Common.{ℕ, zero, suc, ◌+◌, ◌<◌, ◌≡◌, ◌≢◌, ◌∙◌, inl, inr, ap, sym, refl, List, [], ◌∷◌, length, map, filter, Option, Some, None, Bool, true, false, arith, nat_eq, ◌||◌, ◌&&◌, cond, slice_set}
use Rattle.std.specs.Prelude.{slice_get}
use Rattle.std.specs.List.{list_any}
use Rattle.std.proofs.lemmas.Bool.{cases_eq}
use Rattle.std.proofs.lemmas.List.{ext_get_or, get_or-set_other, length-set}
use Rattle.san_base.specs.declared.numbers.PlaceId.{PlaceId}
use Rattle.san_law.specs.Network as law
use Rattle.san_law.specs.Order.{any_in, flag, flags_from, is_in}
use Rattle.san_law.specs.State.{index_of, or_next, slots_of}
use Rattle.san_law.proofs.Flags.{flag_is, length_flags}
use Rattle.san_net.specs.Laid.{places_of}
use Rattle.san_net.specs.Network.{Network, net_of}
use Rattle.san_net.specs.Tables.{importers_of}
use Rattle.san_net.specs.declared.part.Part.{Part}
use Rattle.san_net.proofs.PartLemmas.{places_are}
use Rattle.san_turn.specs.Changes.{flag_after}
use Rattle.san_turn.specs.inner.Marks.{raised_all}
use Rattle.san_turn.proofs.Lists.{set_same}
use Rattle.san_turn.proofs.Raised.{any_leaf, any_place, length_raised_all, raised_all_at}

-- parts are numbered on from a number
abbrev AreFrom : ℕ → List Part → Type 0
AreFrom a parts = (k : ℕ) (p : Part) → slice_get parts k ≡ Some p → p.leaf.0 ≡ a + k

from_next : (a : ℕ) (r : Part) (rs : List Part) → AreFrom a (r ∷ rs) → AreFrom (suc a) rs
from_next a r rs numbered k p is = let e = numbered (suc k) p is in omega (arith, e)

-- the leaves of the first of some parts and of the others
any_first : (a i q : ℕ) (r : Part) (rs : List Part) (b : Bool) → list_any (nat_eq q) (places_of r) ≡ b
    → any_leaf i (importers_of (r ∷ rs) q) ≡ ((b && nat_eq i r.leaf.0) || any_leaf i (importers_of rs q))
any_first a i q r rs true e = ap (λ (b : Bool). any_leaf i (map (λ (x : Part). x.leaf) (cond b (r ∷ filter (λ x. list_any (nat_eq q) (places_of x)) rs) (filter (λ x. list_any (nat_eq q) (places_of x)) rs)))) e
any_first a i q r rs false e = ap (λ (b : Bool). any_leaf i (map (λ (x : Part). x.leaf) (cond b (r ∷ filter (λ x. list_any (nat_eq q) (places_of x)) rs) (filter (λ x. list_any (nat_eq q) (places_of x)) rs)))) e

and_true : (b : Bool) → (b && true) ≡ b
and_true true = refl
and_true false = refl

-- no part has a lesser number
none_before : (a i q : ℕ) (parts : List Part) → AreFrom a parts → i < a → any_leaf i (importers_of parts q) ≡ false
none_before a i q [] numbered h = refl
none_before a i q (r ∷ rs) numbered h =
    let e = numbered 0 r refl in
    let other : i ≢ r.leaf.0 = omega (arith, h, e) in
    let b = list_any (nat_eq q) (places_of r) in
    any_first a i q r rs b refl
    ∙ ap (λ (x : Bool). (b && x) || any_leaf i (importers_of rs q)) (other_number i r.leaf.0 other)
    ∙ ap (λ (x : Bool). x || any_leaf i (importers_of rs q)) (and_false b)
    ∙ none_before (suc a) i q rs (from_next a r rs numbered) (omega (arith, h))

-- a leaf is among those that have a place where it has it
leaf_at : (a i k q : ℕ) (parts : List Part) (p : Part) → AreFrom a parts → i ≡ a + k → slice_get parts k ≡ Some p → any_leaf i (importers_of parts q) ≡ list_any (nat_eq q) (places_of p)
leaf_at a i k q [] p numbered at is = absurd cc
leaf_at a i zero q (r ∷ rs) p numbered at is =
    let e = numbered 0 r refl in
    let same : i ≡ r.leaf.0 = omega (arith, at, e) in
    let b = list_any (nat_eq q) (places_of r) in
    let here : r ≡ p = part_of_some r p is in
    any_first a i q r rs b refl
    ∙ ap (λ (x : Bool). (b && x) || any_leaf i (importers_of rs q)) (ap (λ (n : ℕ). nat_eq n r.leaf.0) same ∙ number_itself r.leaf.0)
    ∙ ap (λ (x : Bool). x || any_leaf i (importers_of rs q)) (and_true b)
    ∙ ap (λ (x : Bool). b || x) (none_before (suc a) i q rs (from_next a r rs numbered) (omega (arith, at)))
    ∙ or_false b
    ∙ ap (λ (x : Part). list_any (nat_eq q) (places_of x)) here
  where
    part_of_some : (x y : Part) → (let o : Option Part = Some x in o) ≡ Some y → x ≡ y
    part_of_some x y e = cc
leaf_at a i (suc k) q (r ∷ rs) p numbered at is =
    let e = numbered 0 r refl in
    let other : i ≢ r.leaf.0 = omega (arith, at, e) in
    let b = list_any (nat_eq q) (places_of r) in
    any_first a i q r rs b refl
    ∙ ap (λ (x : Bool). (b && x) || any_leaf i (importers_of rs q)) (other_number i r.leaf.0 other)
    ∙ ap (λ (x : Bool). x || any_leaf i (importers_of rs q)) (and_false b)
    ∙ leaf_at (suc a) i k q rs p (from_next a r rs numbered) (omega (arith, at)) is

-- a number is in a list where one of it is equal
pub is_there : (q : ℕ) (slots : List ℕ) → is_in (index_of q slots) ≡ list_any (nat_eq q) slots
is_there q [] = refl
is_there q (s ∷ ss) = by_test (nat_eq q s) (is_there q ss)
  where
    by_rest : (o : Option ℕ) → is_in (or_next false o) ≡ is_in o
    by_rest None = refl
    by_rest (Some n) = refl

    by_test : (b : Bool) → is_in (index_of q ss) ≡ list_any (nat_eq q) ss → is_in (or_next b (index_of q ss)) ≡ (b || list_any (nat_eq q) ss)
    by_test true rest = refl
    by_test false rest = by_rest (index_of q ss) ∙ rest

module _ (n : Network) (draw : ℕ → ℕ → ℕ) (limits : law.Limits) (numbered : (k : ℕ) (p : Part) → slice_get n.parts k ≡ Some p → p.leaf.0 ≡ k) where
  pub place_there : (i : ℕ) (p : Part) → slice_get n.parts i ≡ Some p → (places : List PlaceId) → any_place n.parts i places ≡ any_in (map (λ (x : PlaceId). x.0) places) (slots_of (net_of n draw limits) i)
  place_there i p is [] = refl
  place_there i p is (x ∷ xs) =
      ap (λ (b : Bool). b || any_place n.parts i xs)
      (leaf_at 0 i i x.0 n.parts p (λ k r e. numbered k r e ∙ omega arith) (omega arith) is
      ∙ sym (is_there x.0 (places_of p)) ∙ ap (λ (slots : List ℕ). is_in (index_of x.0 slots)) (sym (places_are n i p is draw limits)))
      ∙ ap (λ (b : Bool). is_in (index_of x.0 (slots_of (net_of n draw limits) i)) || b) (place_there i p is xs)

  -- all flags
  pub spread_is : (places : List PlaceId) (j : ℕ) (own : Bool) (fs : List Bool) → length fs ≡ length n.parts → j < length n.parts
      → slice_set (raised_all n.parts places fs) j own ≡ flags_from (flag_after (net_of n draw limits) j (map (λ (x : PlaceId). x.0) places) own) 0 fs
  spread_is places j own fs sized within =
      ext_get_or false _ _ (long ∙ sym (length_flags f 0 fs)) (λ i h. at i (some_part n.parts i (omega (arith, h, long, sized))) (omega (arith, h, long)))
    where
      f : ℕ → Bool → Bool
      f = flag_after (net_of n draw limits) j (map (λ (x : PlaceId). x.0) places) own

      long : length (slice_set (raised_all n.parts places fs) j own) ≡ length fs
      long = length-set (raised_all n.parts places fs) j own ∙ length_raised_all n.parts places fs

      some_part : (parts : List Part) (i : ℕ) → i < length parts → (p : Part) × (slice_get parts i ≡ Some p)
      some_part [] i h = absurd (omega (arith, h))
      some_part (p ∷ ps) zero h = (p, refl)
      some_part (p ∷ ps) (suc i) h = some_part ps i (omega (arith, h))

      at : (i : ℕ) → ((p : Part) × (slice_get n.parts i ≡ Some p)) → i < length fs → flag (slice_set (raised_all n.parts places fs) j own) i ≡ flag (flags_from f 0 fs) i
      at i (p, is) h = elim (cases_eq i j) [
        | inl e ↦ set_same false (raised_all n.parts places fs) j i own e (omega (arith, within, sized, length_raised_all n.parts places fs))
            ∙ sym (flag_is f i fs h ∙ ap (λ (b : Bool). cond b own (flag fs i || any_in (map (λ (x : PlaceId). x.0) places) (slots_of (net_of n draw limits) i))) (ap (λ (m : ℕ). nat_eq m j) e ∙ number_itself j))
        | inr n_ ↦ get_or-set_other (raised_all n.parts places fs) j i own false n_
            ∙ raised_all_at n.parts places fs i h
            ∙ ap (λ (b : Bool). flag fs i || b) (place_there i p is places)
            ∙ sym (flag_is f i fs h ∙ ap (λ (b : Bool). cond b own (flag fs i || any_in (map (λ (x : PlaceId). x.0) places) (slots_of (net_of n draw limits) i))) (other_number i j n_))
      ]
