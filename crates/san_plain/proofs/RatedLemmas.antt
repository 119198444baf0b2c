-- The leaves whose rates hang on a place.
use Rattle.std.proofs.Common.{ℕ, zero, suc, ◌+◌, ◌<◌, ◌≤◌, ◌≡◌, ◌∙◌, ◌⊎◌, inl, inr, ◌&&◌, ◌||◌, ap, sym, refl, subst, arith, List, [], ◌∷◌, ◌++◌, All, filter, length, map, drop, Option, Some, Bool, true, false, cond, nat_eq, slice_index, slice_index_or}
use Rattle.std.specs.Prelude.{IsTrue, slice_get}
use Rattle.std.proofs.lemmas.Bool.{cases_lt}
use Rattle.std.proofs.lemmas.Option.{get_or_from_slice_get, slice_get_within}
use Rattle.san_base.proofs.Bools.{and_false, holds_left, holds_right, or_right}
use Rattle.san_base.proofs.NumberTests.{number_itself, some_same}
use Rattle.san_base.specs.Rated.{rated_by}
use Rattle.san_base.specs.declared.numbers.LeafId.{LeafId}
use Rattle.san_expr.proofs.ConcernLemmas.{value_concerns}
use Rattle.san_expr.specs.Concerns.{AreEqualOn}
use Rattle.san_expr.specs.Mentions.{CellSet, mentions}
use Rattle.san_law.specs.Net.{Rated}
use Rattle.san_law.specs.State.{gather}
use Rattle.san_net.proofs.CellLemmas.{cells_are}
use Rattle.san_net.specs.Laid.{places_of}
use Rattle.san_net.specs.Leaf.{rate_in}
use Rattle.san_net.specs.Network.{Network}
use Rattle.san_net.specs.Tables.{importers_of}
use Rattle.san_net.specs.declared.atomic.RateTerm.{RateTerm}
use Rattle.san_net.specs.declared.part.Part.{Part}
use Rattle.san_plain.specs.inner.Rated.{hangs_by, hangs_in, hangs_on, named_from, rate_cells, rated_at}
use Rattle.san_plain.proofs.ImporterLemmas.{imported}
use Rattle.san_reward.specs.Running.{rates_of}

-- terms that name cells whose values are equal have equal values
terms_same : (terms : List RateTerm) (v w : List ℕ) → AreEqualOn (rate_cells terms) v w → map (rate_in v) terms ≡ map (rate_in w) terms
terms_same [] v w same = refl
terms_same (t ∷ ts) v w same =
    ap (λ (x : Rated). x ∷ map (rate_in v) ts)
    (ap rated_by ((value_concerns t.expr).alike v w (record { sized = same.sized; same = λ q h. same.same q (holds_left (mentions t.expr q) (rate_cells ts q) h) })).answer)
    ∙ ap (λ (xs : List Rated). rate_in w t ∷ xs) (terms_same ts v w (record { sized = same.sized; same = λ q h. same.same q (holds_right (mentions t.expr q) (rate_cells ts q) h) }))

-- these of the cells have the same values in both markings
abbrev pub HaveSameOn : CellSet → List ℕ → List ℕ → List ℕ → Type 0
HaveSameOn cells places before m = (k q : ℕ) → slice_get places k ≡ Some q → IsTrue (cells k) → slice_index before q ≡ slice_index m q

gathered_on : (cells : CellSet) (places before m : List ℕ) → HaveSameOn cells places before m → (i : ℕ) → IsTrue (cells i) → slice_index (gather places before) i ≡ slice_index (gather places m) i
gathered_on cells [] before m so i h = refl
gathered_on cells (p ∷ ps) before m so zero h = so 0 p refl h
gathered_on cells (p ∷ ps) before m so (suc i) h = gathered_on (λ k. cells (suc k)) ps before m (λ k q e t. so (suc k) q e t) i h

pub rates_same : (p : Part) (before m : List ℕ) → HaveSameOn (rate_cells p.atomic.rates) (places_of p) before m → rates_of before p ≡ rates_of m p
rates_same p before m so =
    terms_same p.atomic.rates (gather (places_of p) before) (gather (places_of p) m)
    (record { sized = cells_are (places_of p) before ∙ sym (cells_are (places_of p) m); same = gathered_on (rate_cells p.atomic.rates) (places_of p) before m so })

-- a cell that is named at a place
pub named_there : (cells : CellSet) (q k : ℕ) (xs : List ℕ) (i : ℕ) → slice_get xs i ≡ Some q → IsTrue (cells (k + i)) → named_from cells q k xs ≡ true
unfolding named_from
named_there cells q k [] i e h = absurd cc
named_there cells q k (x ∷ xs) zero e h =
    let at : k + 0 ≡ k = omega arith in
    ap (λ (n : ℕ). (nat_eq n q && cells k) || named_from cells q (suc k) xs) (some_same x q e)
    ∙ ap (λ (b : Bool). (b && cells k) || named_from cells q (suc k) xs) (number_itself q)
    ∙ ap (λ (b : Bool). b || named_from cells q (suc k) xs) (ap cells (sym at) ∙ h)
named_there cells q k (x ∷ xs) (suc i) e h =
    let on : suc k + i ≡ k + suc i = omega arith in
    ap (λ (b : Bool). (nat_eq x q && cells k) || b) (named_there cells q (suc k) xs i e (ap cells on ∙ h)) ∙ or_right (nat_eq x q && cells k)

-- without terms none is
none_named : (q k : ℕ) (xs : List ℕ) → named_from (rate_cells []) q k xs ≡ false
unfolding named_from
none_named q k [] = refl
none_named q k (x ∷ xs) = ap (λ (b : Bool). b || named_from (rate_cells []) q (suc k) xs) (and_false (nat_eq x q)) ∙ none_named q (suc k) xs

pub none_hangs : (p : Part) (q : ℕ) → length p.atomic.rates ≡ 0 → hangs_on p q ≡ false
none_hangs p q none = ap (λ (ts : List RateTerm). named_from (rate_cells ts) q 0 (places_of p)) (empty p.atomic.rates none) ∙ none_named q 0 (places_of p)
  where
    empty : (ts : List RateTerm) → length ts ≡ 0 → ts ≡ []
    empty [] e = refl
    empty (t ∷ ts) e = absurd (omega (arith, e))

-- cell by cell
split : (xs : List ℕ) (k x : ℕ) → slice_get xs k ≡ Some x → drop k xs ≡ x ∷ drop (suc k) xs
split [] k x e = absurd cc
split (y ∷ ys) zero x e = ap (λ (z : ℕ). z ∷ ys) (some_same y x e)
split (y ∷ ys) (suc k) x e = split ys k x e

pub named_step : (cells : CellSet) (q k x : ℕ) (xs : List ℕ) → slice_get xs k ≡ Some x → named_from cells q k (drop k xs) ≡ ((nat_eq x q && cells k) || named_from cells q (k + 1) (drop (k + 1) xs))
unfolding named_from
named_step cells q k x xs e =
    let next : suc k ≡ k + 1 = omega arith in
    ap (named_from cells q k) (split xs k x e) ∙ ap (λ (n : ℕ). (nat_eq x q && cells k) || named_from cells q n (drop n xs)) next

pub named_past : (cells : CellSet) (q k : ℕ) (xs : List ℕ) → length xs ≤ k → named_from cells q k (drop k xs) ≡ false
unfolding named_from
named_past cells q k xs h = ap (named_from cells q k) (Rattle.std.proofs.lemmas.List.drop_all k xs h)

-- what passes a test is among those that do
in_filter : (f : LeafId → Bool) (xs : List LeafId) (k : ℕ) (x : LeafId) → slice_get xs k ≡ Some x → f x ≡ true → (i : ℕ) × (slice_get (filter f xs) i ≡ Some x)
in_filter f [] k x e h = absurd cc
in_filter f (y ∷ ys) zero x e h =
    let same : y ≡ x = some_same y x e in
    (0, ap (λ (b : Bool). slice_get (cond b (y ∷ filter f ys) (filter f ys)) 0) (ap f same ∙ h) ∙ e)
in_filter f (y ∷ ys) (suc k) x e h = by_test (f y) (in_filter f ys k x e h)
  where
    by_test : (b : Bool) → (i : ℕ) × (slice_get (filter f ys) i ≡ Some x) → (i : ℕ) × (slice_get (cond b (y ∷ filter f ys) (filter f ys)) i ≡ Some x)
    by_test true got = (suc got.0, got.1)
    by_test false got = got

of_filter : (f : LeafId → Bool) (xs : List LeafId) (k : ℕ) (x : LeafId) → slice_get (filter f xs) k ≡ Some x → (i : ℕ) × (slice_get xs i ≡ Some x)
of_filter f [] k x e = absurd cc
of_filter f (y ∷ ys) k x e = by_test (f y) k e (λ j d. of_filter f ys j x d)
  where
    later : (i : ℕ) × (slice_get ys i ≡ Some x) → (i : ℕ) × (slice_get (y ∷ ys) i ≡ Some x)
    later got = (suc got.0, got.1)

    by_test : (b : Bool) (k : ℕ) → slice_get (cond b (y ∷ filter f ys) (filter f ys)) k ≡ Some x → ((j : ℕ) → slice_get (filter f ys) j ≡ Some x → (i : ℕ) × (slice_get ys i ≡ Some x)) → (i : ℕ) × (slice_get (y ∷ ys) i ≡ Some x)
    by_test true zero e go = (0, e)
    by_test true (suc k) e go = later (go k e)
    by_test false k e go = later (go k e)

module _ (n : Network) (q : ℕ) where
  -- a leaf whose term names a cell at the place is one of its leaves
  pub rated_there : (j i : ℕ) (p : Part) → slice_get n.parts j ≡ Some p → p.leaf.0 ≡ j → slice_get (places_of p) i ≡ Some q → IsTrue (rate_cells p.atomic.rates i) → (k : ℕ) × (slice_get (rated_at n q) k ≡ Some p.leaf)
  rated_there j i p is number at named =
      let got = imported n.parts q j i p is at in
      let zeroth : 0 + i ≡ i = omega arith in
      in_filter (hangs_in n q) (importers_of n.parts q) got.0 p.leaf got.1
      (ap (λ (x : ℕ). hangs_by (slice_get n.parts x) q) number ∙ ap (λ (o : Option Part). hangs_by o q) is
      ∙ named_there (rate_cells p.atomic.rates) q 0 (places_of p) i at (ap (rate_cells p.atomic.rates) zeroth ∙ named))

  pub rated_within : (many : ℕ) → All (λ leaf. leaf.0 < many) (importers_of n.parts q) → (k : ℕ) (leaf : LeafId) → slice_get (rated_at n q) k ≡ Some leaf → leaf.0 < many
  rated_within many all k leaf is =
      let at = of_filter (hangs_in n q) (importers_of n.parts q) k leaf is in
      subst (λ (x : LeafId). x.0 < many) (get_or_from_slice_get (importers_of n.parts q) at.0 leaf leaf at.1)
      (all at.0 leaf (slice_get_within (importers_of n.parts q) at.0 leaf at.1))

-- one list more
abbrev pub AreFirst : Network → ℕ → List (List LeafId) → Type 0
AreFirst n many table = (i : ℕ) → i < many → slice_index_or table i [] ≡ rated_at n i

one_behind : (xs : List (List LeafId)) (x : List LeafId) → slice_index_or (xs ++ x ∷ []) (length xs) [] ≡ x
one_behind [] x = refl
one_behind (y ∷ ys) x = one_behind ys x

still_before : (xs : List (List LeafId)) (x : List LeafId) (i : ℕ) → i < length xs → slice_index_or (xs ++ x ∷ []) i [] ≡ slice_index_or xs i []
still_before [] x i h = absurd (omega (arith, h))
still_before (y ∷ ys) x zero h = refl
still_before (y ∷ ys) x (suc i) h = still_before ys x i (omega (arith, h))

pub first_more : (n : Network) (q : ℕ) (table : List (List LeafId)) (x : List LeafId) → length table ≡ q → AreFirst n q table → x ≡ rated_at n q → AreFirst n (q + 1) (table ++ x ∷ [])
first_more n q table x sized so is i h = by_case (cases_lt i q)
  where
    by_case : (i < q) ⊎ (q ≤ i) → slice_index_or (table ++ x ∷ []) i [] ≡ rated_at n i
    by_case (inl l) = still_before table x i (omega (arith, l, sized)) ∙ so i l
    by_case (inr l) =
        let here : i ≡ length table = omega (arith, h, l, sized) in
        let it : q ≡ i = omega (arith, h, l) in
        ap (λ (k : ℕ). slice_index_or (table ++ x ∷ []) k []) here ∙ one_behind table x ∙ is ∙ ap (rated_at n) it
