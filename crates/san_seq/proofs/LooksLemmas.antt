-- What a leaf's answer doesn't look at doesn't matter.
use Rattle.std.proofs.Common.{ℕ, zero, suc, ◌<◌, ◌≤◌, ◌≡◌, ◌≢◌, ◌∙◌, ◌⊎◌, inl, inr, ap, sym, refl, subst, arith, List, [], ◌∷◌, length, map, Option, Some, None, Ok, Bool, true, false, cond, nat_le, slice_index, slice_set, All}
use Rattle.std.specs.Prelude.{slice_get}
use Rattle.std.proofs.Math.Path.{fun_ext}
use Rattle.std.proofs.lemmas.Bool.{cases_eq, eq-eqb, ne_eqb, leb-true, le-leb}
use Rattle.std.proofs.lemmas.List.Elements.{All-head, All-tail}
use Rattle.san_base.specs.declared.limits.TheConstants.{MAX_TOKENS}
use Rattle.san_expr.specs.Meets.{Evaluates}
use Rattle.san_expr.specs.View.{Agrees, Answers, IsAt, Known, ReadsCell, ViewState, over, with}
use Rattle.san_law.specs.State.{gather}
use Rattle.san_net.specs.First.{first_of}
use Rattle.san_net.specs.Laid.{IsTagged, place_of, places_of}
use Rattle.san_net.specs.Leaf.{found_by}
use Rattle.san_net.specs.declared.atomic.Atomic.{Atomic}
use Rattle.san_net.specs.declared.first.FirstInstant.TheVariants as first
use Rattle.san_net.specs.declared.part.Part.{Part}
use Rattle.san_net.specs.declared.part.Slot.{Slot}
use Rattle.san_net.specs.declared.part.Slot.TheVariants.{Private}
use Rattle.san_net.proofs.CellLemmas.{cells_are}
use Rattle.san_seq.specs.inner.Known.{IsAsleep}
use Rattle.san_seq.specs.inner.Looks.{IsOwn, Looked, SawOwn, capped, noted, view_state_of}
use Rattle.san_seq.proofs.FlaggedLemmas.{set_other, set_same}

capped_by : (v : ℕ) (b : Bool) → nat_le v MAX_TOKENS ≡ b → (cond b v MAX_TOKENS) ≤ MAX_TOKENS
capped_by v true e = leb-true v MAX_TOKENS e
capped_by v false e = omega arith

capped_small : (v : ℕ) → capped v ≤ MAX_TOKENS
capped_small v = capped_by v (nat_le v MAX_TOKENS) refl

capped_is : (v : ℕ) → v ≤ MAX_TOKENS → capped v ≡ v
capped_is v h = ap (λ (b : Bool). cond b v MAX_TOKENS) (le-leb v MAX_TOKENS h)

-- a flag that is up is put up
set_again : (xs : List Bool) (k : ℕ) → slice_get xs k ≡ Some true → slice_set xs k true ≡ xs
set_again [] k e = absurd cc
set_again (x ∷ xs) zero e = ap (λ (b : Bool). b ∷ xs) (one x e)
  where
    one : (b : Bool) → (let o : Option Bool = Some b in o) ≡ Some true → true ≡ b
    one b f = cc
set_again (x ∷ xs) (suc k) e = ap (λ (ys : List Bool). x ∷ ys) (set_again xs k e)

missing : (xs : List Bool) (k : ℕ) → k < length xs → slice_get xs k ≡ None → {A : Type 0} → A
missing [] k h e = absurd (omega (arith, h))
missing (x ∷ xs) zero h e = absurd cc
missing (x ∷ xs) (suc k) h e = missing xs k (omega (arith, h)) e

-- a read of a cell
module _ (s t : Looked) (k v : ℕ) (inside : k < length s.looked) (values : t.values ≡ s.values) (looked : t.looked ≡ slice_set s.looked k true) (is : v ≡ capped (slice_index s.values k)) where
  abbrev seen : List Bool → ViewState
  seen flags = record { places = length s.values; first = λ p. noted (slice_get flags p) (slice_index s.values p); own = λ p. None; behind = []; kept = s.values }

  left_is : view_state_of t ≡ seen (slice_set s.looked k true)
  left_is =
      ap (λ (xs : List ℕ). record { places = length xs; first = λ p. noted (slice_get t.looked p) (slice_index xs p); own = λ p. None; behind = []; kept = xs }) values
      ∙ ap seen looked

  known_at : (p : ℕ) → slice_get s.looked k ≡ Some false → (p ≡ k) ⊎ (p ≢ k) → noted (slice_get (slice_set s.looked k true) p) (slice_index s.values p) ≡ with (λ q. noted (slice_get s.looked q) (slice_index s.values q)) k v p
  known_at p down (inl e) =
      ap (λ (o : Option Bool). noted o (slice_index s.values p)) (ap (slice_get (slice_set s.looked k true)) e ∙ set_same s.looked k true inside)
      ∙ ap (λ (x : ℕ). (let o : Option ℕ = Some x in o)) (ap (λ (q : ℕ). capped (slice_index s.values q)) e ∙ sym is)
      ∙ sym (ap (λ (b : Bool). cond b (Some v) (noted (slice_get s.looked p) (slice_index s.values p))) (eq-eqb p k e))
  known_at p down (inr n) =
      ap (λ (o : Option Bool). noted o (slice_index s.values p)) (set_other s.looked k p true n)
      ∙ sym (ap (λ (b : Bool). cond b (Some v) (noted (slice_get s.looked p) (slice_index s.values p))) (ne_eqb p k n))

  pub reads : ReadsCell (view_state_of s) (view_state_of t) k v
  reads = by_flag (slice_get s.looked k) refl
    where
      by_flag : (o : Option Bool) → slice_get s.looked k ≡ o → Answers None (noted (slice_get s.looked k) (slice_index s.values k)) (view_state_of s) (view_state_of t) k v
      by_flag None e = missing s.looked k inside e
      by_flag (Some true) e =
          subst (λ (b : Option Bool). Answers None (noted b (slice_index s.values k)) (view_state_of s) (view_state_of t) k v) (sym e)
          (is, left_is ∙ ap seen (set_again s.looked k e))
      by_flag (Some false) e =
          let known : (λ p. noted (slice_get (slice_set s.looked k true) p) (slice_index s.values p)) ≡ with (λ q. noted (slice_get s.looked q) (slice_index s.values q)) k v = fun_ext (λ p. known_at p e (cases_eq p k)) in
          subst (λ (b : Option Bool). Answers None (noted b (slice_index s.values k)) (view_state_of s) (view_state_of t) k v) (sym e) (
            (subst (λ (x : ℕ). x ≤ MAX_TOKENS) (sym is) (capped_small (slice_index s.values k)), tt),
            left_is ∙ ap (λ (f : Known). record { places = length s.values; first = f; own = λ p. None; behind = []; kept = s.values }) known,
          )

-- a view without own values shows the marking behind
over_none : (m : List ℕ) → over (λ p. None) m ≡ m
over_none [] = refl
over_none (x ∷ m) = ap (λ (ys : List ℕ). x ∷ ys) (over_none m)

value_of_cell : (places m : List ℕ) (k q : ℕ) → slice_get places k ≡ Some q → slice_index (gather places m) k ≡ slice_index m q
value_of_cell [] m k q at = absurd cc
value_of_cell (p ∷ ps) m zero q at = ap (slice_index m) (one p q at)
  where
    one : (x y : ℕ) → (let o : Option ℕ = Some x in o) ≡ Some y → x ≡ y
    one x y e = cc
value_of_cell (p ∷ ps) m (suc k) q at = value_of_cell ps m k q at

place_at : (slots : List Slot) (k : ℕ) (s : Slot) → slice_get slots k ≡ Some s → slice_get (map place_of slots) k ≡ Some (place_of s)
place_at [] k s at = absurd cc
place_at (x ∷ xs) zero s at = ap (λ (y : Slot). (let o : Option ℕ = Some (place_of y) in o)) (one x s at)
  where
    one : (a b : Slot) → (let o : Option Slot = Some a in o) ≡ Some b → a ≡ b
    one a b e = cc
place_at (x ∷ xs) (suc k) s at = place_at xs k s at

tagged_at : (shared : ℕ) (slots : List Slot) (k : ℕ) (s : Slot) → All (IsTagged shared) slots → slice_get slots k ≡ Some s → IsTagged shared s
tagged_at shared [] k s all at = absurd cc
tagged_at shared (x ∷ xs) zero s all at = subst (IsTagged shared) (one x s at) (All-head (IsTagged shared) x xs all)
  where
    one : (a b : Slot) → (let o : Option Slot = Some a in o) ≡ Some b → a ≡ b
    one a b e = cc
tagged_at shared (x ∷ xs) (suc k) s all at = tagged_at shared xs k s (All-tail (IsTagged shared) x xs all) at

-- an answer of nothing for which private places alone were looked at
module _ (shared : ℕ) (p : Part) (slots : List Slot) (m : List ℕ) (s t : Looked) (a : Atomic) (slot : slots ≡ p.slots) (atomic : a ≡ p.atomic) (loaded : s.values ≡ gather (map place_of slots) m)
    (tagged : All (IsTagged shared) p.slots) (did : Evaluates (view_state_of s) (view_state_of t) (first_of a) (Ok first.None)) (saw : SawOwn slots t) where
  pub sleeps : IsAsleep shared p m
  sleeps v same = ap found_by (ap (λ (b : Atomic). (first_of b g).answer) (sym atomic) ∙ ap (λ (x : List ℕ). (first_of a x).answer) (sym (over_none g)) ∙ did.meets.answer g agrees)
    where
      g : List ℕ
      g = gather (places_of p) v

      kept : t.values ≡ s.values
      kept = did.meets.kept

      places_is : map place_of slots ≡ places_of p
      places_is = ap (map place_of) slot

      sized : length g ≡ length t.values
      sized = cells_are (places_of p) v ∙ sym (cells_are (places_of p) m) ∙ ap (λ (ps : List ℕ). length (gather ps m)) (sym places_is) ∙ sym (ap length (kept ∙ loaded))

      value_is : (k : ℕ) → IsOwn slots t.values k → slice_index t.values k ≡ slice_index g k
      value_is k own =
          let place : slice_get (places_of p) k ≡ Some own.place.0 = ap (λ (ps : List ℕ). slice_get ps k) (sym places_is) ∙ place_at slots k (Private own.place) own.private in
          let private : shared ≤ own.place.0 = tagged_at shared p.slots k (Private own.place) tagged (ap (λ (ss : List Slot). slice_get ss k) (sym slot) ∙ own.private) in
          ap (λ (xs : List ℕ). slice_index xs k) (kept ∙ loaded ∙ ap (λ (ps : List ℕ). gather ps m) places_is) ∙ value_of_cell (places_of p) m k own.place.0 place ∙ sym (same k own.place.0 place private)
          ∙ sym (value_of_cell (places_of p) v k own.place.0 place)

      has : (k : ℕ) → IsAt (noted (slice_get t.looked k) (slice_index t.values k)) (slice_index g k)
      has k = by_flag (slice_get t.looked k) refl
        where
          by_flag : (o : Option Bool) → slice_get t.looked k ≡ o → IsAt (noted (slice_get t.looked k) (slice_index t.values k)) (slice_index g k)
          by_flag None e = subst (λ (b : Option Bool). IsAt (noted b (slice_index t.values k)) (slice_index g k)) (sym e) tt
          by_flag (Some false) e = subst (λ (b : Option Bool). IsAt (noted b (slice_index t.values k)) (slice_index g k)) (sym e) tt
          by_flag (Some true) e =
              let own = saw k e in
              subst (λ (b : Option Bool). IsAt (noted b (slice_index t.values k)) (slice_index g k)) (sym e) (capped_is (slice_index t.values k) own.small ∙ value_is k own)

      agrees : Agrees (view_state_of t) g
      agrees = record { sized = sized; has = has }
