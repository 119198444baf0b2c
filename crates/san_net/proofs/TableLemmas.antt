-- A leaf is noted at its places, one after another.
use Rattle.san_base.proofs.Bools.{or_false}
use Rattle.std.proofs.Common.{◌≡◌, ℕ, zero, suc, ◌+◌, ◌<◌, Bool, true, false, cond, ◌||◌, Some, List, [], ◌∷◌, ◌++◌, length, refl, ap, sym, ◌∙◌, arith, inl, inr, ◌⊎◌, nat_eq, take, set, append-nil, map, get_or}
use Rattle.std.specs.Prelude.{slice_get, slice_index, slice_index_or}
use Rattle.std.specs.List.{list_any}
use Rattle.std.proofs.lemmas.Bool.Decides.{eqb_tells}
use Rattle.std.proofs.lemmas.List.{take_more, get_or-set_other}
use Rattle.std.proofs.lemmas.Grind.{get_or-set_at}
use Rattle.std.proofs.lemmas.List.Folds.{list_any-append}
use Rattle.san_base.specs.declared.numbers.LeafId.{LeafId}
use Rattle.san_net.specs.Apart.{AreApart}
use Rattle.san_net.specs.Laid.{place_of}
use Rattle.san_net.specs.Tables.{IsNoted}
use Rattle.san_net.specs.declared.part.Slot.{Slot}

abbrev has : ℕ → List ℕ → Bool
has q xs = list_any (nat_eq q) xs

pub got_at : (xs : List ℕ) (i : ℕ) → i < length xs → slice_get xs i ≡ Some (slice_index xs i)
got_at [] i l = absurd (omega (arith, l))
got_at (x ∷ xs) zero l = refl
got_at (x ∷ xs) (suc i) l = got_at xs i (omega (arith, l))

-- an item that is at no place before one isn't among the first so many
absent : (q : ℕ) (xs : List ℕ) (i : ℕ) → ((k : ℕ) → k < i → k < length xs → slice_index xs k ≡ q → ⊥) → has q (take i xs) ≡ false
absent q xs zero h = refl
absent q [] (suc i) h = refl
absent q (x ∷ xs) (suc i) h = first (eqb_tells q x) (absent q xs i (λ k l m e. h (suc k) (omega (arith, l)) (omega (arith, m)) e))
  where
    first : ((nat_eq q x ≡ true) × (q ≡ x)) ⊎ ((nat_eq q x ≡ false) × (q ≡ x → ⊥)) → has q (take i xs) ≡ false → (nat_eq q x || has q (take i xs)) ≡ false
    first (inl t) r = absurd (h 0 (omega arith) (omega arith) (sym t.1))
    first (inr t) r = ap (λ (b : Bool). b || has q (take i xs)) t.0 ∙ r

has_more : (q : ℕ) (xs : List ℕ) (i : ℕ) → i < length xs → has q (take (i + 1) xs) ≡ (has q (take i xs) || (nat_eq q (slice_index xs i) || false))
has_more q xs i h = ap (has q) (take_more xs i 0 h) ∙ list_any-append (nat_eq q) (take i xs) (slice_index xs i ∷ [])

abbrev mark : LeafId → Bool → List LeafId
mark leaf b = cond b (leaf ∷ []) []

pub noted_more : (t0 t : List (List LeafId)) (leaf : LeafId) (xs : List ℕ) (i p : ℕ) → AreApart xs → i < length xs → p ≡ slice_index xs i → p < length t → IsNoted t0 t leaf (take i xs)
    → IsNoted t0 (set t p (slice_index_or t p [] ++ leaf ∷ [])) leaf (take (i + 1) xs)
noted_more t0 t leaf xs i p a l e w n q = by_test (eqb_tells q p)
  where
    by_test : ((nat_eq q p ≡ true) × (q ≡ p)) ⊎ ((nat_eq q p ≡ false) × (q ≡ p → ⊥)) → slice_index_or (set t p (slice_index_or t p [] ++ leaf ∷ [])) q [] ≡ slice_index_or t0 q [] ++ mark leaf (has q (take (i + 1) xs))
    by_test (inl y) =
        let same : (k : ℕ) → k < length xs → slice_index xs k ≡ q → k ≡ i = λ k o s. a k i q (got_at xs k o ∙ ap Some s) (got_at xs i l ∙ ap Some (sym e ∙ sym y.1)) in
        let none : has q (take i xs) ≡ false = absent q xs i (λ k m o s. omega (arith, m, same k o s)) in
        let here : nat_eq q (slice_index xs i) ≡ true = ap (nat_eq q) (sym e) ∙ y.0 in
        let after : has q (take (i + 1) xs) ≡ true = has_more q xs i l ∙ ap (λ (b : Bool). b || (nat_eq q (slice_index xs i) || false)) none ∙ ap (λ (b : Bool). b || false) here in
        get_or-set_at t p q _ [] y.1 w ∙ ap (λ (r : ℕ). slice_index_or t r [] ++ leaf ∷ []) (sym y.1)
        ∙ ap (λ (z : List LeafId). z ++ leaf ∷ []) (n q ∙ ap (λ (b : Bool). slice_index_or t0 q [] ++ mark leaf b) none ∙ append-nil (slice_index_or t0 q []))
        ∙ ap (λ (b : Bool). slice_index_or t0 q [] ++ mark leaf b) (sym after)
    by_test (inr y) =
        let there : nat_eq q (slice_index xs i) ≡ false = ap (nat_eq q) (sym e) ∙ y.0 in
        let after : has q (take (i + 1) xs) ≡ has q (take i xs) = has_more q xs i l ∙ ap (λ (b : Bool). has q (take i xs) || (b || false)) there ∙ or_false (has q (take i xs)) in
        get_or-set_other t p q _ [] y.1 ∙ n q ∙ ap (λ (b : Bool). slice_index_or t0 q [] ++ mark leaf b) (sym after)

pub slot_place : (slots : List Slot) (i : ℕ) (d : Slot) → i < length slots → place_of (get_or slots i d) ≡ slice_index (map place_of slots) i
slot_place [] i d l = absurd (omega (arith, l))
slot_place (s ∷ slots) zero d l = refl
slot_place (s ∷ slots) (suc i) d l = slot_place slots i d (omega (arith, l))
