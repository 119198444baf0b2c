-- What a read and an assignment do to a leaf's cells.
use Rattle.std.proofs.Common.{ℕ, zero, suc, ◌<◌, ◌≤◌, ◌≡◌, ◌≢◌, ◌∙◌, ap, sym, refl, subst, arith, Bool, cond, List, [], ◌∷◌, ◌++◌, length, map, Option, Some, None, slice_index, slice_set, ◌⊎◌, inl, inr}
use Rattle.std.proofs.Math.Path.{fun_ext}
use Rattle.std.proofs.lemmas.Bool.{cases_eq, eq-eqb, ne_eqb}
use Rattle.std.proofs.lemmas.List.{get_or-set_same, get_or-set_other}
use Rattle.san_base.specs.declared.limits.TheConstants.{MAX_TOKENS}
use Rattle.san_expr.specs.View.{Answers, IsBehind, Known, ReadsCell, ViewState, assigned, with}
use Rattle.san_leaf.specs.Views.{Shows}
use Rattle.san_leaf.specs.inner.ViewStates.{Seeing, behind_of, code_of, kept_of, known, view_state_of}

with_at : (cells : List (Option ℕ)) (k v p : ℕ) → k < length cells → (p ≡ k) ⊎ (p ≢ k) → known (slice_set cells k (Some v)) p ≡ with (known cells) k v p
with_at cells k v p h (inl e) =
    ap (known (slice_set cells k (Some v))) e ∙ get_or-set_same cells k (Some v) None h ∙ sym (ap (λ (b : Bool). cond b (Some v) (known cells p)) (eq-eqb p k e))
with_at cells k v p h (inr n) =
    get_or-set_other cells k p (Some v) None n ∙ sym (ap (λ (b : Bool). cond b (Some v) (known cells p)) (ne_eqb p k n))

-- a value that is put in
pub with_is : (cells : List (Option ℕ)) (k v : ℕ) → k < length cells → known (slice_set cells k (Some v)) ≡ with (known cells) k v
with_is cells k v h = fun_ext (λ p. with_at cells k v p h (cases_eq p k))

shown_at : (places m : List ℕ) (p v : ℕ) → p < length places → slice_index m (slice_index places p) ≡ v → slice_index (map (λ q. slice_index m q) places) p ≡ v
shown_at [] m p v h is = absurd (omega (arith, h))
shown_at (q ∷ places) m zero v h is = is
shown_at (q ∷ places) m (suc p) v h is = shown_at places m p v (omega (arith, h)) is

behind_at : (places : List ℕ) (o : Option (List ℕ)) (p v : ℕ) → p < length places → Shows o (slice_index places p) v → IsBehind (behind_of places o) p v
behind_at places None p v h t = tt
behind_at [] (Some m) p v h t = tt
behind_at (q ∷ places) (Some m) p v h t = shown_at (q ∷ places) m p v h t

abbrev seeing : List ℕ → List (Option ℕ) → List (Option ℕ) → Option (List ℕ) → List ℕ → Seeing
seeing places own first marking kept = record { places = places; own = own; first = first; marking = marking; kept = kept }

-- a first read enters the value that the lent view gave
pub first_read : (s : Seeing) (p v : ℕ) → p < length s.places → p < length s.first → known s.own p ≡ None → known s.first p ≡ None
    → v ≤ MAX_TOKENS → Shows s.marking (slice_index s.places p) v → ReadsCell (view_state_of s) (view_state_of (seeing s.places s.own (slice_set s.first p (Some v)) s.marking s.kept)) p v
first_read s p v h l none unread small shown =
    let after : ViewState = view_state_of (seeing s.places s.own (slice_set s.first p (Some v)) s.marking s.kept) in
    subst (λ (a : Option ℕ). Answers a (known s.first p) (view_state_of s) after p v) (sym none)
    (subst (λ (b : Option ℕ). Answers None b (view_state_of s) after p v) (sym unread)
    ((small, behind_at s.places s.marking p v h shown), ap (λ (f : Known). record { places = length s.places; first = f; own = known s.own; behind = behind_of s.places s.marking; kept = kept_of s }) (with_is s.first p v l)))

-- the same, by what a view holds
pub read_there : (places : List ℕ) (own first after : List (Option ℕ)) (o o' : Option (List ℕ)) (kept kept' : List ℕ) (p v : ℕ) (now : Seeing)
    → now ≡ seeing places own first o kept
    → p < length now.places → length first ≡ length places → known own p ≡ None → known first p ≡ None → after ≡ slice_set first p (Some v) → v ≤ MAX_TOKENS
    → Shows o (slice_index places p) v → o' ≡ o → kept' ≡ kept
    → ReadsCell (view_state_of now) (view_state_of (seeing places own after o' kept')) p v
read_there places own first after o o' kept kept' p v now is h sized none unread new small shown same keeps =
    let s : Seeing = seeing places own first o kept in
    let below : p < length places = subst (λ (x : Seeing). p < length x.places) is h in
    let r = first_read s p v below (omega (arith, below, sized)) none unread small shown in
    subst (λ (x : Seeing). ReadsCell (view_state_of x) (view_state_of (seeing places own after o' kept')) p v) (sym is)
    (subst (λ (fs : List (Option ℕ)). ReadsCell (view_state_of s) (view_state_of (seeing places own fs o' kept')) p v) (sym new)
    (subst (λ (m : Option (List ℕ)). ReadsCell (view_state_of s) (view_state_of (seeing places own (slice_set first p (Some v)) m kept')) p v) (sym same)
    (subst (λ (ks : List ℕ). ReadsCell (view_state_of s) (view_state_of (seeing places own (slice_set first p (Some v)) o ks)) p v) (sym keeps) r)))

-- an assignment
pub set_cell : (s : Seeing) (p v : ℕ) → p < length s.own → view_state_of (seeing s.places (slice_set s.own p (Some v)) s.first s.marking s.kept) ≡ assigned (view_state_of s) p v
set_cell s p v h = ap (λ (f : Known). record { places = length s.places; first = known s.first; own = f; behind = behind_of s.places s.marking; kept = kept_of s }) (with_is s.own p v h)

-- what is kept records all that no call changes
front_same : (xs ys : List ℕ) (cs ds : List ℕ) → length xs ≡ length ys → xs ++ cs ≡ ys ++ ds → (xs ≡ ys) × (cs ≡ ds)
front_same [] [] cs ds l e = (refl, e)
front_same [] (y ∷ ys) cs ds l e = cc
front_same (x ∷ xs) [] cs ds l e = cc
front_same (x ∷ xs) (y ∷ ys) cs ds l e =
    let heads : x ≡ y = ap first_of e in
    let tails : xs ++ cs ≡ ys ++ ds = ap rest_of e in
    let r = front_same xs ys cs ds (omega (arith, l)) tails in
    (ap (λ z. z ∷ xs) heads ∙ ap (λ zs. y ∷ zs) r.0, r.1)
  where
    first_of : List ℕ → ℕ
    first_of [] = 0
    first_of (z ∷ zs) = z

    rest_of : List ℕ → List ℕ
    rest_of [] = []
    rest_of (z ∷ zs) = zs

code_same : (a b : Option (List ℕ)) (cs ds : List ℕ) → code_of a ++ cs ≡ code_of b ++ ds → (a ≡ b) × (cs ≡ ds)
code_same None None cs ds e = let r = front_same (0 ∷ []) (0 ∷ []) cs ds refl e in (refl, r.1)
code_same None (Some m) cs ds e = absurd cc
code_same (Some m) None cs ds e = absurd cc
code_same (Some m) (Some n) cs ds e =
    let heads : suc (length m) ≡ suc (length n) = ap first_of e in
    let long : length (suc (length m) ∷ m) ≡ length (suc (length n) ∷ n) = omega (arith, heads) in
    let r = front_same (suc (length m) ∷ m) (suc (length n) ∷ n) cs ds long e in
    (ap some_rest r.0, r.1)
  where
    first_of : List ℕ → ℕ
    first_of [] = 0
    first_of (z ∷ zs) = z

    some_rest : List ℕ → Option (List ℕ)
    some_rest [] = None
    some_rest (z ∷ zs) = Some zs

pub record IsKept (s t : Seeing) : Type 0 where
  pub places : t.places ≡ s.places
  pub marking : t.marking ≡ s.marking
  pub kept : t.kept ≡ s.kept

pub all_kept : (s t : Seeing) → length t.places ≡ length s.places → kept_of t ≡ kept_of s → IsKept s t
all_kept s t l e =
    let places = front_same t.places s.places (code_of t.marking ++ t.kept) (code_of s.marking ++ s.kept) l e in
    let marking = code_same t.marking s.marking t.kept s.kept places.1 in
    record { places = places.0; marking = marking.0; kept = marking.1 }
