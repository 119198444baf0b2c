-- The leaves' least timers as keys and activities.
use Rattle.std.proofs.Common.{ℕ, zero, suc, ◌+◌, ◌-◌, ◌<◌, ◌≡◌, ◌≢◌, ◌∙◌, inl, inr, ap, sym, refl, List, [], ◌∷◌, ◌++◌, length, map, replicate, take, Option, Some, None, Bool, true, false, arith, nat_lt, cond, slice_index, slice_index_or, slice_set}
use Rattle.std.specs.Prelude.{slice_get}
use Rattle.std.proofs.lemmas.Bool.{cases_eq}
use Rattle.std.proofs.lemmas.List.{ext_get_or, get_or-set_other, length-set}
use Rattle.san_base.specs.declared.numbers.ActId.{ActId}
use Rattle.san_base.specs.declared.numbers.Tick.{Tick}
use Rattle.san_law.specs.Renewal as law
use Rattle.san_law.proofs.Orders.{due_within}
use Rattle.san_net.specs.declared.part.Part.{Part}
use Rattle.san_winner.specs.Least.{Won, least_from, sooner}
use Rattle.san_turn.specs.inner.Timed.{TimersValue, keyed, timed, with_due}
use Rattle.san_turn.proofs.Lists.{set_same}

pub length_timed : (firsts acts : List ℕ) (i : ℕ) (keys : List (Option ℕ)) → length (timed firsts acts i keys) ≡ length keys
length_timed firsts acts i [] = refl
length_timed firsts acts i (k ∷ ks) = ap suc (length_timed firsts acts (suc i) ks)

timed_from : (firsts acts : List ℕ) (keys : List (Option ℕ)) (i j k : ℕ) → j ≡ i + k → k < length keys → slice_index_or (timed firsts acts i keys) k None ≡ keyed (slice_index firsts j) (slice_index acts j) (slice_index_or keys k None)
timed_from firsts acts [] i j k e h = absurd (omega (arith, h))
timed_from firsts acts (x ∷ xs) i j zero e h = let same : i ≡ j = omega (arith, e) in ap (λ (n : ℕ). keyed (slice_index firsts n) (slice_index acts n) x) same
timed_from firsts acts (x ∷ xs) i j (suc k) e h = timed_from firsts acts xs (suc i) j k (omega (arith, e)) (omega (arith, h))

-- a leaf's timer
pub timed_is : (firsts acts : List ℕ) (keys : List (Option ℕ)) (k : ℕ) → k < length keys → slice_index_or (timed firsts acts 0 keys) k None ≡ keyed (slice_index firsts k) (slice_index acts k) (slice_index_or keys k None)
timed_is firsts acts keys k h = timed_from firsts acts keys 0 k k (omega arith) h

-- the least key is the least timer's
abbrev pub as_due : List ℕ → List ℕ → Won → Option law.Due
as_due firsts acts None = None
as_due firsts acts (Some w) = Some (record { time = w.0; leaf = w.1; act = slice_index acts w.1 - slice_index firsts w.1 })

sooner_is : (firsts acts : List ℕ) (i t : ℕ) (rest : Won) → law.sooner (record { time = t; leaf = i; act = slice_index acts i - slice_index firsts i }) (as_due firsts acts rest) ≡ as_due firsts acts (sooner (Some (t, i)) rest)
sooner_is firsts acts i t None = refl
sooner_is firsts acts i t (Some b) = by_test (nat_lt b.0 t)
  where
    by_test : (c : Bool) → cond c (as_due firsts acts (Some b)) (as_due firsts acts (Some (t, i))) ≡ as_due firsts acts (cond c (Some b) (Some (t, i)))
    by_test true = refl
    by_test false = refl

pub least_timed : (firsts acts : List ℕ) (i : ℕ) (keys : List (Option ℕ)) → law.least_from i (timed firsts acts i keys) ≡ as_due firsts acts (least_from i keys)
unfolding least_from
least_timed firsts acts i [] = refl
least_timed firsts acts i (None ∷ ks) = least_timed firsts acts (suc i) ks
least_timed firsts acts i (Some t ∷ ks) =
    ap (law.sooner (record { time = t; leaf = i; act = slice_index acts i - slice_index firsts i })) (least_timed firsts acts (suc i) ks)
    ∙ sooner_is firsts acts i t (least_from (suc i) ks)

pub get_is : (firsts acts : List ℕ) (keys : List (Option ℕ)) (k : ℕ) (o : Option ℕ) → k < length keys → o ≡ slice_index_or keys k None → keyed (slice_index firsts k) (slice_index acts k) o ≡ slice_index_or (timed firsts acts 0 keys) k None
get_is firsts acts keys k o h e = ap (keyed (slice_index firsts k) (slice_index acts k)) e ∙ sym (timed_is firsts acts keys k h)

pub least_within : (firsts acts : List ℕ) (keys : List (Option ℕ)) (w : ℕ × ℕ) → least_from 0 keys ≡ Some w → w.1 < length keys
least_within firsts acts keys w e =
    let d : law.Due = record { time = w.0; leaf = w.1; act = slice_index acts w.1 - slice_index firsts w.1 } in
    let h = due_within (timed firsts acts 0 keys) d (least_timed firsts acts 0 keys ∙ ap (as_due firsts acts) e) in
    omega (arith, h, length_timed firsts acts 0 keys)

pub least_below : (keys : List (Option ℕ)) (time at : ℕ) → least_from 0 keys ≡ Some (time, at) → at < length keys
least_below keys time at e = least_within [] [] keys (time, at) e

-- a key and an activity are set
pub timed_set : (firsts acts new : List ℕ) (keys : List (Option ℕ)) (j : ℕ) (key : Option ℕ) → j < length keys → ((i : ℕ) → i ≢ j → slice_index new i ≡ slice_index acts i)
    → timed firsts new 0 (slice_set keys j key) ≡ slice_set (timed firsts acts 0 keys) j (keyed (slice_index firsts j) (slice_index new j) key)
timed_set firsts acts new keys j key within same =
    ext_get_or None _ _ (long ∙ sym long_old) (λ i h. at i (omega (arith, h, long)))
  where
    is : Option (ℕ × ℕ)
    is = keyed (slice_index firsts j) (slice_index new j) key

    long : length (timed firsts new 0 (slice_set keys j key)) ≡ length keys
    long = length_timed firsts new 0 (slice_set keys j key) ∙ length-set keys j key

    long_old : length (slice_set (timed firsts acts 0 keys) j is) ≡ length keys
    long_old = length-set (timed firsts acts 0 keys) j is ∙ length_timed firsts acts 0 keys

    at : (i : ℕ) → i < length keys → slice_index_or (timed firsts new 0 (slice_set keys j key)) i None ≡ slice_index_or (slice_set (timed firsts acts 0 keys) j is) i None
    at i h =
        let here = timed_is firsts new (slice_set keys j key) i (omega (arith, h, length-set keys j key)) in
        elim (cases_eq i j) [
          | inl e ↦ here
              ∙ ap (λ (o : Option ℕ). keyed (slice_index firsts i) (slice_index new i) o) (set_same None keys j i key e within)
              ∙ ap (λ (n : ℕ). keyed (slice_index firsts n) (slice_index new n) key) e
              ∙ sym (set_same None (timed firsts acts 0 keys) j i is e (omega (arith, within, length_timed firsts acts 0 keys)))
          | inr n ↦ here
              ∙ ap (λ (o : Option ℕ). keyed (slice_index firsts i) (slice_index new i) o) (get_or-set_other keys j i key None n)
              ∙ ap (λ (a : ℕ). keyed (slice_index firsts i) a (slice_index_or keys i None)) (same i n)
              ∙ sym (timed_is firsts acts keys i h)
              ∙ sym (get_or-set_other (timed firsts acts 0 keys) j i is None n)
        ]

-- no leaf has a timer
timed_none : (firsts acts : List ℕ) (i n : ℕ) → timed firsts acts i (replicate n None) ≡ replicate n None
timed_none firsts acts i zero = refl
timed_none firsts acts i (suc n) = ap (λ (ds : List (Option (ℕ × ℕ))). None ∷ ds) (timed_none firsts acts (suc i) n)

pub timed_open : (firsts acts : List ℕ) (keys : List (Option ℕ)) (n m : ℕ) → n ≡ m → keys ≡ replicate n None → timed firsts acts 0 keys ≡ replicate m None
timed_open firsts acts keys n m e is = ap (timed firsts acts 0) is ∙ timed_none firsts acts 0 n ∙ ap (λ (k : ℕ). replicate k (let none : Option (ℕ × ℕ) = None in none)) e

-- a leaf's timer is set
abbrev pub value : List ℕ → List ℕ → List (Option ℕ) → TimersValue
value firsts acts keys = record { dues = timed firsts acts 0 keys; firsts = firsts }

pub set_none : (firsts acts : List ℕ) (keys : List (Option ℕ)) (j : ℕ) → j < length keys → value firsts acts (slice_set keys j None) ≡ with_due (value firsts acts keys) j None
set_none firsts acts keys j h = ap (λ (ds : List (Option (ℕ × ℕ))). (let t : TimersValue = record { dues = ds; firsts = firsts } in t)) (timed_set firsts acts acts keys j None h (λ i n. refl))

pub set_some : (firsts acts : List ℕ) (keys : List (Option ℕ)) (j : ℕ) (due : Tick × ActId) → j < length keys → j < length acts
    → value firsts (slice_set acts j due.1.0) (slice_set keys j (Some due.0.0)) ≡ with_due (value firsts acts keys) j (Some due)
set_some firsts acts keys j due h l = ap (λ (ds : List (Option (ℕ × ℕ))). (let t : TimersValue = record { dues = ds; firsts = firsts } in t))
    (timed_set firsts acts (slice_set acts j due.1.0) keys j (Some due.0.0) h (λ i n. get_or-set_other acts j i due.1.0 0 n)
    ∙ ap (λ (a : ℕ). slice_set (timed firsts acts 0 keys) j (Some (due.0.0, a - slice_index firsts j))) (set_same 0 acts j j due.1.0 refl l))

-- the number of leaves, from the value
pub long_as : (firsts acts : List ℕ) (keys : List (Option ℕ)) (t : TimersValue) → value firsts acts keys ≡ t → length keys ≡ length t.dues
long_as firsts acts keys t e = sym (length_timed firsts acts 0 keys) ∙ ap (λ (x : TimersValue). length x.dues) e

abbrev firsts_of : Option Part → List ℕ
firsts_of None = []
firsts_of (Some p) = p.first.0 ∷ []

-- the first activities of one part more
pub firsts_more : (parts : List Part) (k : ℕ) (p : Part) (xs : List ℕ) → slice_get parts k ≡ Some p → xs ≡ map (λ (q : Part). q.first.0) (take k parts) → xs ++ (p.first.0 ∷ []) ≡ map (λ (q : Part). q.first.0) (take (k + 1) parts)
firsts_more parts k p xs is e = let next : suc k ≡ k + 1 = omega arith in
    ap (λ (ys : List ℕ). ys ++ (p.first.0 ∷ [])) e ∙ one_more parts k p is ∙ ap (λ (n : ℕ). map (λ (q : Part). q.first.0) (take n parts)) next
  where
    one_more : (parts : List Part) (k : ℕ) (p : Part) → slice_get parts k ≡ Some p → map (λ (q : Part). q.first.0) (take k parts) ++ (p.first.0 ∷ []) ≡ map (λ (q : Part). q.first.0) (take (suc k) parts)
    one_more [] k p is = absurd cc
    one_more (q ∷ qs) zero p is = ap (λ (o : Option Part). firsts_of o) (sym is)
    one_more (q ∷ qs) (suc k) p is = ap (λ (ys : List ℕ). q.first.0 ∷ ys) (one_more qs k p is)
