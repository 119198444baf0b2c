-- What a log has noted, and one place more.
use Rattle.san_base.proofs.NumberTests.{number_turned}
use Rattle.std.proofs.Common.{ℕ, zero, suc, ◌+◌, ◌<◌, ◌≤◌, ◌≡◌, ◌↔◌, sym, refl, ap, subst, arith, Bool, true, false, nat_eq, IfSome, List, [], ◌∷◌, ◌++◌, length, drop, Option, Some, None, All}
use Rattle.std.specs.Prelude.{slice_get, slice_index_or}
use Rattle.std.proofs.lemmas.Bool.{eq-eqb, eqb-true}
use Rattle.std.proofs.lemmas.List.Elements.{All-append}
use Rattle.san_base.specs.declared.limits.TheConstants.{MAX_TOKENS}
use Rattle.san_log.specs.Logs.{AreEntriesOf, Entry, find, found_by}
use Rattle.san_log.specs.Once.{AreNoted, AreOnce}

-- a place that isn't the last one's has no more than before
pub still_none : (p : ℕ) (es : List Entry) (e : Entry) → find p es ≡ None → nat_eq e.0.0 p ≡ false → find p (es ++ e ∷ []) ≡ None
still_none p [] e none other = ap (λ (b : Bool). found_by b e.1 None) other
still_none p (x ∷ xs) e none other = by_test (nat_eq x.0.0 p) none (still_none p xs e)
  where
    by_test : (b : Bool) → found_by b x.1 (find p xs) ≡ None → (find p xs ≡ None → nat_eq e.0.0 p ≡ false → find p (xs ++ e ∷ []) ≡ None) → found_by b x.1 (find p (xs ++ e ∷ [])) ≡ None
    by_test true h go = cc
    by_test false h go = go h other

head_once : (x : Entry) (xs : List Entry) (e : Entry) (b : Bool) → nat_eq x.0.0 e.0.0 ≡ b → find x.0.0 xs ≡ None → found_by b x.1 (find e.0.0 xs) ≡ None → (find x.0.0 (xs ++ e ∷ []) ≡ None) × (find e.0.0 xs ≡ None)
head_once x xs e true is once h = cc
head_once x xs e false is once h = (still_none x.0.0 xs e once (number_turned x.0.0 e.0.0 is), h)

once_more : (es : List Entry) (e : Entry) → AreOnce es → find e.0.0 es ≡ None → AreOnce (es ++ e ∷ [])
once_more [] e once none = (refl, tt)
once_more (x ∷ xs) e once none =
    let h = head_once x xs e (nat_eq x.0.0 e.0.0) refl once.0 none in
    (h.0, once_more xs e once.1 h.1)

-- the last entry's place is new
pub one_more : (es : List Entry) (e : Entry) → AreNoted es → e.1 ≤ MAX_TOKENS → find e.0.0 es ≡ None → AreNoted (es ++ e ∷ [])
one_more es e noted small none = record {
  once = once_more es e noted.once none;
  small = All-append (λ (x : Entry). x.1 ≤ MAX_TOKENS) es (e ∷ []) noted.small (one_of small);
}
  where
    one_of : e.1 ≤ MAX_TOKENS → All (λ (x : Entry). x.1 ≤ MAX_TOKENS) (e ∷ [])
    one_of h zero d lt = h
    one_of h (suc i) d lt = absurd (omega arith)

-- what is found is small
pub found_small : (p : ℕ) (es : List Entry) → AreNoted es → IfSome (find p es) (λ v. v ≤ MAX_TOKENS)
found_small p es noted = of_all es noted.small
  where
    by_test : (b : Bool) (x : Entry) (rest : Option ℕ) → x.1 ≤ MAX_TOKENS → IfSome rest (λ v. v ≤ MAX_TOKENS) → IfSome (found_by b x.1 rest) (λ v. v ≤ MAX_TOKENS)
    by_test true x rest h k = h
    by_test false x rest h k = k

    of_all : (xs : List Entry) → All (λ (x : Entry). x.1 ≤ MAX_TOKENS) xs → IfSome (find p xs) (λ v. v ≤ MAX_TOKENS)
    of_all [] h = tt
    of_all (x ∷ xs) h = by_test (nat_eq x.0.0 p) x (find p xs) (h 0 x (omega arith)) (of_all xs (λ i d lt. h (suc i) d (omega (arith, lt))))

-- an entry that agrees leaves the question to those behind it
step : (shared : List ℕ) (es : List Entry) (i : ℕ) (d : Entry) → i < length es → slice_get shared (slice_index_or es i d).0.0 ≡ Some (slice_index_or es i d).1 → AreEntriesOf (drop i es) shared ↔ AreEntriesOf (drop (suc i) es) shared
step shared [] i d lt is = absurd (omega arith)
step shared (e ∷ es) zero d lt is = (λ h. h.1, λ h. (is, h))
step shared (e ∷ es) (suc i) d lt is = step shared es i d (omega (arith, lt)) is

pub agree_as_far : (shared : List ℕ) (es : List Entry) (i : ℕ) (d : Entry) → i < length es → slice_get shared (slice_index_or es i d).0.0 ≡ Some (slice_index_or es i d).1
    → (AreEntriesOf es shared ↔ AreEntriesOf (drop i es) shared) → AreEntriesOf es shared ↔ AreEntriesOf (drop (i + 1) es) shared
agree_as_far shared es i d lt is so_far =
    let one : suc i ≡ i + 1 = omega arith in
    let s = subst (λ (k : ℕ). AreEntriesOf (drop i es) shared ↔ AreEntriesOf (drop k es) shared) one (step shared es i d lt is) in
    (λ h. s.0 (so_far.0 h), λ h. so_far.1 (s.1 h))

-- one that doesn't agree settles it
at : (shared : List ℕ) (es : List Entry) (i : ℕ) (d : Entry) → i < length es → AreEntriesOf (drop i es) shared → slice_get shared (slice_index_or es i d).0.0 ≡ Some (slice_index_or es i d).1
at shared [] i d lt h = absurd (omega arith)
at shared (e ∷ es) zero d lt h = h.0
at shared (e ∷ es) (suc i) d lt h = at shared es i d (omega (arith, lt)) h

pub agree_no_more : (shared : List ℕ) (es : List Entry) (i : ℕ) (d : Entry) → i < length es → (AreEntriesOf es shared ↔ AreEntriesOf (drop i es) shared) → AreEntriesOf es shared → slice_get shared (slice_index_or es i d).0.0 ≡ Some (slice_index_or es i d).1
agree_no_more shared es i d lt so_far h = at shared es i d lt (so_far.0 h)
