-- The first flag that is up, and flags that go up.
use Rattle.san_base.proofs.Bools.{or_right, or_assoc}
use Rattle.san_base.proofs.NumberTests.{number_itself, other_number}
use Rattle.std.proofs.Common.{ℕ, ◌<◌, ◌≤◌, ◌≡◌, ◌∙◌, ◌⊎◌, inl, inr, ap, sym, refl, List, [], ◌∷◌, length, Option, Some, None, Bool, true, false, arith, nat_eq, ◌||◌, slice_set}
use Rattle.std.specs.List.{list_any}
use Rattle.std.proofs.lemmas.Bool.{cases_eq, cases_lt}
use Rattle.std.proofs.lemmas.List.{get_or-set_other, length-set}
use Rattle.std.proofs.lemmas.Option.{get_or_from_slice_get}
use Rattle.san_base.specs.declared.numbers.LeafId.{LeafId}
use Rattle.san_base.specs.declared.numbers.PlaceId.{PlaceId}
use Rattle.san_law.specs.Order.{first_true, flag}
use Rattle.san_law.proofs.Flags.{IsLeast, first_is, none_is}
use Rattle.san_net.specs.Tables.{importers_of}
use Rattle.san_net.specs.declared.part.Part.{Part}
use Rattle.san_winner.specs.Flags.{SaysNext}
use Rattle.san_turn.specs.inner.Marks.{raised, raised_all}
use Rattle.san_turn.proofs.Lists.{set_same}

not_both : (b : Bool) → b ≡ true → b ≡ false → {A : Type 0} → A
not_both b x y = cc

-- the next from the front is the first
pub first_next : (fs : List Bool) (o : Option ℕ) → SaysNext 0 fs o → first_true 0 fs ≡ o
first_next fs None h = by_first (first_true 0 fs) refl
  where
    by_first : (w : Option ℕ) → first_true 0 fs ≡ w → w ≡ None
    by_first None e = refl
    by_first (Some i) e =
        let least = first_is fs i e in
        not_both (flag fs i) least.set (get_or_from_slice_get fs i false false (h i (omega arith) least.within))
first_next fs (Some j) h = by_first (first_true 0 fs) refl
  where
    up : flag fs j ≡ true
    up = get_or_from_slice_get fs j true false h.up

    by_least : (i : ℕ) → IsLeast fs i → (i < j) ⊎ (j ≤ i) → (j < i) ⊎ (i ≤ j) → (let o : Option ℕ = Some i in o) ≡ Some j
    by_least i least (inl l) w = not_both (flag fs i) least.set (get_or_from_slice_get fs i false false (h.down i (omega arith) l))
    by_least i least (inr l) (inl w) = not_both (flag fs j) up (least.below j w)
    by_least i least (inr l) (inr w) = let e : i ≡ j = omega (arith, l, w) in ap (λ (n : ℕ). (let o : Option ℕ = Some n in o)) e

    by_first : (w : Option ℕ) → first_true 0 fs ≡ w → w ≡ Some j
    by_first None e = not_both (flag fs j) up (none_is fs e j)
    by_first (Some i) e = by_least i (first_is fs i e) (cases_lt i j) (cases_lt j i)

-- flags keep their number
pub length_raised : (leaves : List LeafId) (fs : List Bool) → length (raised leaves fs) ≡ length fs
length_raised [] fs = refl
length_raised (l ∷ ls) fs = length_raised ls (slice_set fs l.0 true) ∙ length-set fs l.0 true

pub length_raised_all : (parts : List Part) (places : List PlaceId) (fs : List Bool) → length (raised_all parts places fs) ≡ length fs
length_raised_all parts [] fs = refl
length_raised_all parts (p ∷ ps) fs = length_raised_all parts ps (raised (importers_of parts p.0) fs) ∙ length_raised (importers_of parts p.0) fs

-- whether a leaf is one of some
abbrev pub any_leaf : ℕ → List LeafId → Bool
any_leaf i leaves = list_any (λ l. nat_eq i l.0) leaves

-- those of these leaves are up, the others as before
pub raised_at : (leaves : List LeafId) (fs : List Bool) (i : ℕ) → i < length fs → flag (raised leaves fs) i ≡ (flag fs i || any_leaf i leaves)
raised_at [] fs i h = or_false (flag fs i)
  where
    or_false : (b : Bool) → b ≡ (b || false)
    or_false true = refl
    or_false false = refl
raised_at (l ∷ ls) fs i h =
    let next : flag (raised ls (slice_set fs l.0 true)) i ≡ (flag (slice_set fs l.0 true) i || any_leaf i ls) = raised_at ls (slice_set fs l.0 true) i (omega (arith, h, length-set fs l.0 true)) in
    elim (cases_eq i l.0) [
      | inl e ↦ next
          ∙ ap (λ (b : Bool). b || any_leaf i ls) (set_same false fs l.0 i true e (omega (arith, h, e)))
          ∙ sym (or_right (flag fs i))
          ∙ ap (λ (b : Bool). flag fs i || (b || any_leaf i ls)) (sym (ap (λ (n : ℕ). nat_eq n l.0) e ∙ number_itself l.0))
      | inr n ↦ next
          ∙ ap (λ (b : Bool). b || any_leaf i ls) (get_or-set_other fs l.0 i true false n)
          ∙ ap (λ (b : Bool). flag fs i || (b || any_leaf i ls)) (sym (other_number i l.0 n))
    ]

-- whether a leaf has one of these places
abbrev pub any_place : List Part → ℕ → List PlaceId → Bool
any_place parts i [] = false
any_place parts i (p ∷ ps) = any_leaf i (importers_of parts p.0) || any_place parts i ps

pub raised_all_at : (parts : List Part) (places : List PlaceId) (fs : List Bool) (i : ℕ) → i < length fs → flag (raised_all parts places fs) i ≡ (flag fs i || any_place parts i places)
raised_all_at parts [] fs i h = raised_at [] fs i h
raised_all_at parts (p ∷ ps) fs i h =
    raised_all_at parts ps (raised (importers_of parts p.0) fs) i (omega (arith, h, length_raised (importers_of parts p.0) fs))
    ∙ ap (λ (b : Bool). b || any_place parts i ps) (raised_at (importers_of parts p.0) fs i h)
    ∙ or_assoc (flag fs i) (any_leaf i (importers_of parts p.0)) (any_place parts i ps)
