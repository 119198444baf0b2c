-- A leaf's values in a marking: read, taken out, put back, compared and copied.
use Rattle.std.proofs.Common.{ℕ, zero, suc, ◌+◌, ◌<◌, ◌≤◌, ◌≡◌, ◌≢◌, ◌∙◌, ap, sym, refl, subst, arith, Bool, true, false, ◌&&◌, nat_eq, List, [], ◌∷◌, drop, length, map, Option, Some, None, slice_index, slice_index_or, slice_set, ◌⊎◌, inl, inr}
use Rattle.std.specs.Prelude.{slice_get}
use Rattle.std.proofs.lemmas.Bool.{cases_eq, cases_lt, eq-eqb, ne_eqb}
use Rattle.std.proofs.lemmas.List.{ext_get_or, get_or-map, get_or_past, get_or-set_same, get_or-set_other, length-map, length-set}
use Rattle.san_base.proofs.Lists.{drop_whole}
use Rattle.san_expr.specs.View.{Answers, ReadsCell, plain}
use Rattle.san_law.proofs.Places.{index_of_is, index_of_slot, scatter_at, scatter_length, scatter_same, scatter_twice, below_at}
use Rattle.san_law.specs.Clocks.{same_list}
use Rattle.san_law.specs.Lawful.{AllBelow, AreDistinct}
use Rattle.san_law.specs.State.{gather, index_of, or_next, scatter, taken_from}
use Rattle.san_net.proofs.TableLemmas.{got_at}
use Rattle.san_net.specs.Cells.{LiesOver}
use Rattle.san_net.specs.Laid.{place_of}
use Rattle.san_net.specs.declared.part.Slot.{Slot}
use Rattle.san_net.specs.declared.part.Slot.TheVariants.{Private}

-- the marking without the leaf's values
abbrev pub outside : List ℕ → List ℕ → List ℕ
outside places marking = scatter places [] marking

-- a cell's value is that of its place
pub gathered : (places marking : List ℕ) (k : ℕ) → k < length places → slice_get (gather places marking) k ≡ Some (slice_index marking (slice_index places k))
gathered [] marking k h = absurd (omega (arith, h))
gathered (p ∷ ps) marking zero h = refl
gathered (p ∷ ps) marking (suc k) h = gathered ps marking k (omega (arith, h))

rest_is : (b : Bool) (o : Option ℕ) → or_next b o ≡ None → o ≡ None
rest_is true o h = cc
rest_is false None h = refl
rest_is false (Some n) h = cc

pub not_there : (s : ℕ) (ts : List ℕ) (k : ℕ) → index_of s ts ≡ None → k < length ts → s ≢ slice_index ts k
not_there s [] k none h e = absurd (omega (arith, h))
not_there s (t ∷ ts) zero none h e = let hit : or_next (nat_eq s t) (index_of s ts) ≡ Some 0 = ap (λ b. or_next b (index_of s ts)) (eq-eqb s t e) in cc
not_there s (t ∷ ts) (suc k) none h e = not_there s ts k (rest_is (nat_eq s t) (index_of s ts) none) (omega (arith, h)) e

-- two cells have two places
pub distinct_at : (places : List ℕ) (i k : ℕ) → AreDistinct places → i < length places → k < length places → i ≢ k → slice_index places i ≢ slice_index places k
distinct_at [] i k d a b n e = absurd (omega (arith, a))
distinct_at (p ∷ ps) zero zero d a b n e = n refl
distinct_at (p ∷ ps) zero (suc k) d a b n e = not_there p ps k d.0 (omega (arith, b)) e
distinct_at (p ∷ ps) (suc i) zero d a b n e = not_there p ps i d.0 (omega (arith, a)) (sym e)
distinct_at (p ∷ ps) (suc i) (suc k) d a b n e = distinct_at ps i k d.1 (omega (arith, a)) (omega (arith, b)) (λ f. n (ap suc f)) e

taken_any : (o : Option ℕ) (k x y : ℕ) → o ≡ Some k → taken_from [] o x ≡ taken_from [] o y
taken_any None k x y e = cc
taken_any (Some p) k x y e = refl

-- what a leaf assigns stays inside
pub outside_set : (places m : List ℕ) (k v : ℕ) → AreDistinct places → k < length places → outside places (slice_set m (slice_index places k) v) ≡ outside places m
outside_set places m k v d h =
    let q : ℕ = slice_index places k in
    let n : List ℕ = slice_set m q v in
    let long : length n ≡ length m = length-set m q v in
    ext_get_or 0 (outside places n) (outside places m) (scatter_length places [] n ∙ long ∙ sym (scatter_length places [] m)) (λ i b.
    let within : i < length m = omega (arith, b, scatter_length places [] n, long) in
    scatter_at places [] n i (omega (arith, within, long)) ∙ by_case i (cases_eq i q) ∙ sym (scatter_at places [] m i within))
  where
    by_case : (i : ℕ) → (i ≡ slice_index places k) ⊎ (i ≢ slice_index places k)
        → taken_from [] (index_of i places) (slice_index (slice_set m (slice_index places k) v) i) ≡ taken_from [] (index_of i places) (slice_index m i)
    by_case i (inl e) = taken_any (index_of i places) k _ _ (ap (λ q. index_of q places) e ∙ index_of_slot places k d h)
    by_case i (inr n) = ap (taken_from [] (index_of i places)) (get_or-set_other m (slice_index places k) i v 0 n)

pub cells_are : (places m : List ℕ) → length (gather places m) ≡ length places
cells_are places m = length-map places (λ s. slice_index m s)

-- a marking is what is outside of a leaf and the leaf's values
pub put_together : (places values m n : List ℕ) → gather places n ≡ values → outside places n ≡ outside places m → n ≡ scatter places values m
put_together places values m n is rest =
    sym (scatter_same places n) ∙ ap (λ (v : List ℕ). scatter places v n) is ∙ sym (scatter_twice places values [] n) ∙ ap (scatter places values) rest ∙ scatter_twice places values [] m

module _ (slots : List Slot) (k at : ℕ) (h : k < length slots) (found : at ≡ place_of (slice_index_or slots k (Private (record { 0 = 0 })))) where
  pub at_slot : at ≡ slice_index (map place_of slots) k
  at_slot = found ∙ sym (get_or-map place_of slots k (Private (record { 0 = 0 })) 0 h)

  pub inside : k < length (map place_of slots)
  inside = omega (arith, h, length-map slots place_of)

  pub cell_below : (m : List ℕ) → AllBelow (map place_of slots) (length m) → at < length m
  cell_below m below = subst (λ (n : ℕ). n < length m) (sym at_slot) (below_at (map place_of slots) (length m) k below inside)

  -- one value more is taken out
  pub one_more : (m values : List ℕ) → k < length values → ((i : ℕ) → i < k → slice_index values i ≡ slice_index m (slice_index (map place_of slots) i))
      → (i : ℕ) → i < k + 1 → slice_index (slice_set values k (slice_index m at)) i ≡ slice_index m (slice_index (map place_of slots) i)
  one_more m values room front i b = by_case (cases_eq i k)
    where
      by_case : (i ≡ k) ⊎ (i ≢ k) → slice_index (slice_set values k (slice_index m at)) i ≡ slice_index m (slice_index (map place_of slots) i)
      by_case (inl e) =
          ap (slice_index (slice_set values k (slice_index m at))) e ∙ get_or-set_same values k (slice_index m at) 0 room ∙ ap (slice_index m) at_slot
          ∙ ap (λ (j : ℕ). slice_index m (slice_index (map place_of slots) j)) (sym e)
      by_case (inr n) = get_or-set_other values k i (slice_index m at) 0 n ∙ front i (omega (arith, b, n))

  -- one value more is put back
  pub one_put : (m before : List ℕ) (v : ℕ) (values : List ℕ) → LiesOver (map place_of slots) before → length m ≡ length before → v ≡ slice_index values k
      → ((i : ℕ) → i < k → slice_index m (slice_index (map place_of slots) i) ≡ slice_index values i)
      → (i : ℕ) → i < k + 1 → slice_index (slice_set m at v) (slice_index (map place_of slots) i) ≡ slice_index values i
  one_put m before v values over sized is front i b = by_case (cases_eq i k)
    where
      by_case : (i ≡ k) ⊎ (i ≢ k) → slice_index (slice_set m at v) (slice_index (map place_of slots) i) ≡ slice_index values i
      by_case (inl e) =
          ap (λ (j : ℕ). slice_index (slice_set m at v) (slice_index (map place_of slots) j)) e ∙ ap (slice_index (slice_set m at v)) (sym at_slot)
          ∙ get_or-set_same m at v 0 (omega (arith, cell_below before over.within, sized)) ∙ is ∙ ap (slice_index values) (sym e)
      by_case (inr n) =
          get_or-set_other m at (slice_index (map place_of slots) i) v 0
          (λ e. distinct_at (map place_of slots) i k over.apart (omega (arith, b, inside)) inside n (e ∙ at_slot))
          ∙ front i (omega (arith, b, n))

  pub rest_stays : (m before : List ℕ) (v : ℕ) → LiesOver (map place_of slots) before → outside (map place_of slots) m ≡ outside (map place_of slots) before
      → outside (map place_of slots) (slice_set m at v) ≡ outside (map place_of slots) before
  rest_stays m before v over rest =
      ap (λ (q : ℕ). outside (map place_of slots) (slice_set m q v)) at_slot ∙ outside_set (map place_of slots) m k v over.apart inside ∙ rest

-- all values are taken out
pub taken_out : (slots : List Slot) (m values : List ℕ) → length values ≡ length slots → ((i : ℕ) → i < length slots → slice_index values i ≡ slice_index m (slice_index (map place_of slots) i))
    → values ≡ gather (map place_of slots) m
taken_out slots m values sized front =
    let long : length (gather (map place_of slots) m) ≡ length slots = cells_are (map place_of slots) m ∙ length-map slots place_of in
    ext_get_or 0 values (gather (map place_of slots) m) (sized ∙ sym long) (λ i b.
    let within : i < length slots = omega (arith, b, sized) in
    front i within ∙ sym (get_or-map (λ q. slice_index m q) (map place_of slots) i 0 0 (omega (arith, within, length-map slots place_of))))

-- all values are put back
pub put_back : (slots : List Slot) (m before values : List ℕ) → length values ≡ length slots → outside (map place_of slots) m ≡ outside (map place_of slots) before
    → ((i : ℕ) → i < length slots → slice_index m (slice_index (map place_of slots) i) ≡ slice_index values i)
    → m ≡ scatter (map place_of slots) values before
put_back slots m before values sized rest front =
    put_together (map place_of slots) values before m (sym (taken_out slots m values sized (λ i b. sym (front i b)))) rest

-- the value of a cell among those that are taken out
pub value_at : (slots : List Slot) (m : List ℕ) (k at : ℕ) → k < length slots → at ≡ place_of (slice_index_or slots k (Private (record { 0 = 0 }))) → slice_index m at ≡ slice_index (gather (map place_of slots) m) k
value_at slots m k at h found =
    ap (slice_index m) (at_slot slots k at h found) ∙ sym (get_or-map (λ q. slice_index m q) (map place_of slots) k 0 0 (inside slots k at h found))

from_here : (xs : List ℕ) (k : ℕ) → k < length xs → drop k xs ≡ slice_index xs k ∷ drop (suc k) xs
from_here [] k h = absurd (omega (arith, h))
from_here (x ∷ xs) zero h = refl
from_here (x ∷ xs) (suc k) h = from_here xs k (omega (arith, h))

module _ (slots : List Slot) (a b : List ℕ) (k at : ℕ) (h : k < length slots) (found : at ≡ place_of (slice_index_or slots k (Private (record { 0 = 0 })))) where
  abbrev pub same_from : ℕ → Bool
  same_from j = same_list (gather (drop j (map place_of slots)) a) (gather (drop j (map place_of slots)) b)

  here : same_from k ≡ (nat_eq (slice_index a at) (slice_index b at) && same_from (suc k))
  here =
      ap (λ (ps : List ℕ). same_list (gather ps a) (gather ps b)) (from_here (map place_of slots) k (inside slots k at h found))
      ∙ ap (λ (p : ℕ). nat_eq (slice_index a p) (slice_index b p) && same_from (suc k)) (sym (at_slot slots k at h found))

  pub differs : slice_index a at ≢ slice_index b at → same_from k ≡ false
  differs two = here ∙ ap (λ (x : Bool). x && same_from (suc k)) (ne_eqb (slice_index a at) (slice_index b at) two)

  pub agrees : slice_index a at ≡ slice_index b at → same_from k ≡ same_from (k + 1)
  agrees both = let next : suc k ≡ k + 1 = omega arith in here ∙ ap (λ (x : Bool). x && same_from (suc k)) (eq-eqb (slice_index a at) (slice_index b at) both) ∙ ap same_from next

pub all_same : (slots : List Slot) (a b : List ℕ) (k : ℕ) → length slots ≤ k → same_list (gather (drop k (map place_of slots)) a) (gather (drop k (map place_of slots)) b) ≡ true
all_same slots a b k h = ap (λ (ps : List ℕ). same_list (gather ps a) (gather ps b)) (drop_whole k (map place_of slots) (omega (arith, h, length-map slots place_of)))

-- the place of a cell, found by its slot
module _ (slots : List Slot) (m values : List ℕ) (is : gather (map place_of slots) m ≡ values) (below : AllBelow (map place_of slots) (length m)) (k at : ℕ) (h : k < length values) (found : at ≡ place_of (slice_index_or slots k (Private (record { 0 = 0 })))) where
  inside_all : k < length (map place_of slots)
  inside_all = let same = ap length is in let many = length-map (map place_of slots) (λ s. slice_index m s) in omega (arith, h, same, many)

  at_is : at ≡ slice_index (map place_of slots) k
  at_is = found ∙ sym (get_or-map place_of slots k (Private (record { 0 = 0 })) 0 (let many = length-map slots place_of in let l = inside_all in omega (arith, l, many)))

  pub within : at < length m
  within = subst (λ n. n < length m) (sym at_is) (below_at (map place_of slots) (length m) k below inside_all)

  pub read_there : ReadsCell (plain values) (plain values) k (slice_index m at)
  read_there = subst (λ o. Answers o None (plain values) (plain values) k (slice_index m at)) (sym (ap (λ v. slice_get v k) (sym is) ∙ gathered (map place_of slots) m k inside_all)) (ap (slice_index m) at_is, refl)

-- a marking with the values of another in some places
pub record CaughtUp (places m old new : List ℕ) : Type 0 where
  pub sized : length new ≡ length old
  pub kept : (q : ℕ) → (slice_index new q ≡ slice_index old q) ⊎ (slice_index new q ≡ slice_index m q)
  pub caught : (i q : ℕ) → slice_get places i ≡ Some q → slice_index new q ≡ slice_index m q

module _ (places m old : List ℕ) (same : length old ≡ length m) (below : AllBelow places (length m)) where
  abbrev copy : List ℕ
  copy = scatter places (gather places m) old

  taken : (q : ℕ) (o : Option ℕ) → index_of q places ≡ o → (taken_from (gather places m) o (slice_index old q) ≡ slice_index old q) ⊎ (taken_from (gather places m) o (slice_index old q) ≡ slice_index m q)
  taken q None e = inl refl
  taken q (Some p) e =
      let is = index_of_is places q p e in
      inr (get_or-map (λ s. slice_index m s) places p 0 0 is.within ∙ ap (slice_index m) is.is)

  kept_at : (q : ℕ) → (q < length old) ⊎ (length old ≤ q) → (slice_index copy q ≡ slice_index old q) ⊎ (slice_index copy q ≡ slice_index m q)
  kept_at q (inl h) = by_place (taken q (index_of q places) refl)
    where
      by_place : (taken_from (gather places m) (index_of q places) (slice_index old q) ≡ slice_index old q) ⊎ (taken_from (gather places m) (index_of q places) (slice_index old q) ≡ slice_index m q)
          → (slice_index copy q ≡ slice_index old q) ⊎ (slice_index copy q ≡ slice_index m q)
      by_place (inl e) = inl (scatter_at places (gather places m) old q h ∙ e)
      by_place (inr e) = inr (scatter_at places (gather places m) old q h ∙ e)
  kept_at q (inr h) = inl (get_or_past copy q 0 (omega (arith, h, scatter_length places (gather places m) old)) ∙ sym (get_or_past old q 0 h))

  found_at : (q i : ℕ) (o : Option ℕ) → index_of q places ≡ o → i < length places → slice_index places i ≡ q → taken_from (gather places m) o (slice_index old q) ≡ slice_index m q
  found_at q i None e h is = absurd (not_there q places i e h (sym is))
  found_at q i (Some p) e h is =
      let there = index_of_is places q p e in
      get_or-map (λ s. slice_index m s) places p 0 0 there.within ∙ ap (slice_index m) there.is

  got : (xs : List ℕ) (i q : ℕ) → slice_get xs i ≡ Some q → (i < length xs) × (slice_index xs i ≡ q)
  got [] i q e = cc
  got (x ∷ xs) zero q e = (omega arith, cc)
  got (x ∷ xs) (suc i) q e = let rest = got xs i q e in (omega (arith, rest.0), rest.1)

  -- what is copied
  pub copied : CaughtUp places m old copy
  copied = record {
    sized = scatter_length places (gather places m) old;
    kept = λ q. kept_at q (cases_lt q (length old));
    caught = λ i q e.
        let at = got places i q e in
        let h : q < length old = omega (arith, below_at places (length m) i below at.0, at.1, same) in
        scatter_at places (gather places m) old q h ∙ found_at q i (index_of q places) refl at.0 at.1;
  }

-- a slot's place among all
pub slot_at : (slots : List Slot) (k at : ℕ) (h : k < length slots) (is : at ≡ place_of (slice_index_or slots k (Private (record { 0 = 0 })))) → slice_get (map place_of slots) k ≡ Some at
slot_at slots k at h is = got_at (map place_of slots) k (inside slots k at h is) ∙ ap (λ (x : ℕ). (let o : Option ℕ = Some x in o)) (sym (at_slot slots k at h is))

-- markings with the same values in some places
pub gather_eq : (places a b : List ℕ) → ((k q : ℕ) → slice_get places k ≡ Some q → slice_index a q ≡ slice_index b q) → gather places a ≡ gather places b
gather_eq [] a b h = refl
gather_eq (p ∷ ps) a b h =
    ap (λ (x : ℕ). x ∷ gather ps a) (h 0 p refl) ∙ ap (λ (xs : List ℕ). slice_index b p ∷ xs) (gather_eq ps a b (λ k q e. h (suc k) q e))
