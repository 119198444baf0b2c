-- Completions and impulses, recorded one after another.
use Rattle.std.proofs.Common.{ℕ, suc, ◌+◌, ◌≤◌, ◌<◌, ◌≡◌, ◌∙◌, ap, refl, arith, Bool, true, false, cond, nat_eq, List, [], ◌∷◌, ◌++◌, length, map, filter}
use Rattle.std.specs.Prelude.{All}
use Rattle.std.proofs.lemmas.Bool.{eq-eqb, ne_eqb}
use Rattle.san_base.specs.declared.limits.TheConstants.{MAX_ACTS}
use Rattle.san_leaf.specs.declared.recorder.Impulse.{Impulse}
use Rattle.san_leaf.specs.Events.{completions_from, impulse_in, impulses_at}
use Rattle.san_leaf.specs.inner.Recorded.{AreWellRecorded, recorded_of, with_event, with_impulse}
use Rattle.std.proofs.lemmas.List.{length-append}
use Rattle.std.proofs.lemmas.List.Elements.{All-append, All-cons, All-nil}

abbrev of_event : ℕ → Impulse → Bool
of_event i x = nat_eq x.event i

filter_more : (p : Impulse → Bool) (xs ys : List Impulse) → filter p (xs ++ ys) ≡ filter p xs ++ filter p ys
filter_more p [] ys = refl
filter_more p (x ∷ xs) ys = by_test (p x) (filter_more p xs ys)
  where
    by_test : (b : Bool) → filter p (xs ++ ys) ≡ filter p xs ++ filter p ys → cond b (x ∷ filter p (xs ++ ys)) (filter p (xs ++ ys)) ≡ cond b (x ∷ filter p xs) (filter p xs) ++ filter p ys
    by_test true e = ap (λ (zs : List Impulse). x ∷ zs) e
    by_test false e = e

map_more : (xs ys : List Impulse) → map impulse_in (xs ++ ys) ≡ map impulse_in xs ++ map impulse_in ys
map_more [] ys = refl
map_more (x ∷ xs) ys = ap (λ zs. impulse_in x ∷ zs) (map_more xs ys)

one_more : (i : ℕ) (is : List Impulse) (x : Impulse) → x.event ≡ i → impulses_at i (is ++ x ∷ []) ≡ impulses_at i is ++ impulse_in x ∷ []
one_more i is x e =
    ap (map impulse_in) (filter_more (of_event i) is (x ∷ [])) ∙ map_more (filter (of_event i) is) (filter (of_event i) (x ∷ []))
    ∙ ap (λ (b : Bool). impulses_at i is ++ map impulse_in (cond b (x ∷ []) [])) (eq-eqb x.event i e)

append_none : (xs : List Impulse) → xs ++ [] ≡ xs
append_none [] = refl
append_none (x ∷ xs) = ap (λ (ys : List Impulse). x ∷ ys) (append_none xs)

no_more : (i : ℕ) (is : List Impulse) (x : Impulse) → (x.event ≡ i → ⊥) → impulses_at i (is ++ x ∷ []) ≡ impulses_at i is
no_more i is x n =
    ap (map impulse_in) (filter_more (of_event i) is (x ∷ []) ∙ ap (λ (b : Bool). filter (of_event i) is ++ cond b (x ∷ []) []) (ne_eqb x.event i n) ∙ append_none (filter (of_event i) is))

-- a later impulse changes no completion
same_completions : (i : ℕ) (es : List (ℕ × ℕ)) (is : List Impulse) (x : Impulse) → i + length es ≤ x.event → completions_from i es (is ++ x ∷ []) ≡ completions_from i es is
same_completions i [] is x h = refl
same_completions i (e ∷ es) is x h =
    let later : i + 1 + length es ≤ x.event = omega (arith, h) in
    ap (λ ys. record { act = e.0; case = e.1; impulses = ys } ∷ completions_from (i + 1) es (is ++ x ∷ [])) (no_more i is x (λ e. omega (arith, h, e)))
    ∙ ap (λ cs. record { act = e.0; case = e.1; impulses = impulses_at i is } ∷ cs) (same_completions (i + 1) es is x later)

pub recorded_with_impulse : (es : List (ℕ × ℕ)) (is : List Impulse) (x : Impulse) → x.event ≡ length es → recorded_of es (is ++ x ∷ []) ≡ with_impulse (recorded_of es is) (impulse_in x)
recorded_with_impulse es is x h =
    ap (λ cs. record { completions = cs; pending = impulses_at (length es) (is ++ x ∷ []) }) (same_completions 0 es is x (omega (arith, h)))
    ∙ ap (λ ys. record { completions = completions_from 0 es is; pending = ys }) (one_more (length es) is x h)

-- one completion more
completions_more : (i : ℕ) (es : List (ℕ × ℕ)) (is : List Impulse) (e : ℕ × ℕ) → completions_from i (es ++ e ∷ []) is ≡ completions_from i es is ++ record { act = e.0; case = e.1; impulses = impulses_at (i + length es) is } ∷ []
completions_more i [] is e = let z : i ≡ i + 0 = omega arith in ap (λ n. record { act = e.0; case = e.1; impulses = impulses_at n is } ∷ []) z
completions_more i (f ∷ es) is e =
    let z : i + 1 + length es ≡ i + length (f ∷ es) = omega arith in
    ap (λ cs. record { act = f.0; case = f.1; impulses = impulses_at i is } ∷ cs)
    (completions_more (i + 1) es is e ∙ ap (λ n. completions_from (i + 1) es is ++ record { act = e.0; case = e.1; impulses = impulses_at n is } ∷ []) z)

-- none is pending for the next
none_later : (i : ℕ) (is : List Impulse) → All (λ x. x.event < i) is → impulses_at i is ≡ []
none_later i [] h = refl
none_later i (x ∷ is) h =
    let first : x.event < i = h 0 x (omega arith) in
    let off : x.event ≡ i → ⊥ = λ e. omega (arith, first, e) in
    ap (λ (b : Bool). map impulse_in (cond b (x ∷ filter (of_event i) is) (filter (of_event i) is))) (ne_eqb x.event i off) ∙ none_later i is (λ k d l. h (suc k) d (omega (arith, l)))

pub recorded_with_event : (es : List (ℕ × ℕ)) (is : List Impulse) (e : ℕ × ℕ) → AreWellRecorded es is → recorded_of (es ++ e ∷ []) is ≡ with_event (recorded_of es is) e.0 e.1
recorded_with_event es is e h =
    let long : length (es ++ e ∷ []) ≡ suc (length es) = length-append es (e ∷ []) ∙ omega arith in
    let zero_first : 0 + length es ≡ length es = omega arith in
    ap (λ cs. record { completions = cs; pending = impulses_at (length (es ++ e ∷ [])) is }) (completions_more 0 es is e ∙ ap (λ n. completions_from 0 es is ++ record { act = e.0; case = e.1; impulses = impulses_at n is } ∷ []) zero_first)
    ∙ ap (λ n. record { completions = completions_from 0 es is ++ record { act = e.0; case = e.1; impulses = impulses_at (length es) is } ∷ []; pending = impulses_at n is }) long
    ∙ ap (λ ys. record { completions = completions_from 0 es is ++ record { act = e.0; case = e.1; impulses = impulses_at (length es) is } ∷ []; pending = ys }) (none_later (suc (length es)) is (λ k d l. let b = h.early k d l in omega (arith, b)))

-- what is kept of them
pub impulse_recorded : (es : List (ℕ × ℕ)) (is : List Impulse) (x : Impulse) → AreWellRecorded es is → x.event ≡ length es → AreWellRecorded es (is ++ x ∷ [])
impulse_recorded es is x h e = record { few = h.few; acts = h.acts; early = All-append (λ y. y.event ≤ length es) is (x ∷ []) h.early (All-cons (λ y. y.event ≤ length es) x [] (omega (arith, e)) (All-nil (λ y. y.event ≤ length es))) }

pub completions_long : (i : ℕ) (es : List (ℕ × ℕ)) (is : List Impulse) → length (completions_from i es is) ≡ length es
completions_long i [] is = refl
completions_long i (e ∷ es) is = ap suc (completions_long (i + 1) es is)

pub event_recorded : (es : List (ℕ × ℕ)) (is : List Impulse) (e : ℕ × ℕ) → AreWellRecorded es is → length (completions_from 0 es is) < 64 → e.0 < MAX_ACTS → AreWellRecorded (es ++ e ∷ []) is
event_recorded es is e h l a =
    let long : length (es ++ e ∷ []) ≡ suc (length es) = length-append es (e ∷ []) ∙ omega arith in
    let same = completions_long 0 es is in
    record { few = omega (arith, long, same, l); acts = All-append (λ (x : ℕ × ℕ). x.0 < MAX_ACTS) es (e ∷ []) h.acts (All-cons (λ (x : ℕ × ℕ). x.0 < MAX_ACTS) e [] a (All-nil (λ (x : ℕ × ℕ). x.0 < MAX_ACTS))); early = λ k d b. let f = h.early k d b in omega (arith, f, long) }
