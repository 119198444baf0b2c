-- A ring passes all checks.
use Rattle.std.proofs.Common.{ℕ, zero, suc, ◌+◌, ◌<◌, ◌≤◌, ◌^◌, ◌≡◌, ◌≢◌, ◌∙◌, ap, sym, subst, refl, arith, List, [], ◌∷◌, ◌++◌, Option, Some, None, Bool, true, false, nat_lt, nat_le, nat_eq, cond, not, ◌&&◌, ◌||◌, ◌⊎◌, inl, inr, codes, true≢false}
use Rattle.std.specs.Fmt.{decimal}
use Rattle.std.specs.Prelude.{is_some}
use Rattle.std.specs.Str.{bytes_eq}
use Rattle.std.proofs.lemmas.Bool.{leb-true, ltb-true, ltb-false}
use Rattle.std.proofs.lemmas.Bool.Decides.{eqb_tells}
use Rattle.std.proofs.lemmas.Fmt.{decimal_injective}
use Rattle.std.proofs.lemmas.List.Folds.{list_any-append}
use Rattle.std.proofs.lemmas.Slice.Eq.{bytes_eq-Decides}
use Rattle.san_check.specs.declared.known.Known.{Known}
use Rattle.san_check.specs.declared.place.Place.{Place}
use Rattle.san_check.specs.Tables.{Pairs, Table, all_paired, declared, found, has_pair, is_known, paired, same_pair}
use Rattle.san_check.specs.walk.Composition.{Children, Models, all_children, child_code, children_entries, model_code, part_code, part_place, parts_entries, place_in, share_code, shared_code, shares_entries, shown_as}
use Rattle.san_check.specs.walk.Entries.{Entries, code, ◌else◌, first_fault}
use Rattle.san_check.specs.walk.Expression.{Places}
use Rattle.san_gen.specs.Texts.{next_station}
use Rattle.san_made.proofs.RingModel.{children, shares}
use Rattle.san_made.proofs.RingWords.{station_name, wire_name}

-- what the atomic shows
abbrev pub one : Place
one = record { initial = 1; length = None }

abbrev pub station_places : Places
station_places = (codes "inbox", one) ∷ (codes "outbox", one) ∷ (codes "done", record { initial = 0; length = None }) ∷ []

-- what it declares
abbrev pub station_known : Known
station_known = record { atomic = true; places = station_places; acts = (codes "local", tt) ∷ (codes "pass", tt) ∷ [] }

abbrev pub models : Models
models = (codes "station", station_known) ∷ []

-- ---- names

same_bytes : (xs : List ℕ) → bytes_eq xs xs ≡ true
same_bytes xs = (bytes_eq-Decides xs xs).1 refl

tail_of : List ℕ → List ℕ
tail_of [] = []
tail_of (x ∷ xs) = xs

is_apart : (c a b : ℕ) → a < 2 ^ 64 → b < 2 ^ 64 → a ≢ b → (t : Bool) → bytes_eq (c ∷ decimal a) (c ∷ decimal b) ≡ t → bytes_eq (c ∷ decimal a) (c ∷ decimal b) ≡ false
unfolding tail_of
is_apart c a b h k l false e = e
is_apart c a b h k l true e = absurd (l (decimal_injective a b h k (ap tail_of ((bytes_eq-Decides (c ∷ decimal a) (c ∷ decimal b)).0 e))))

-- names of different numbers differ
apart : (c a b : ℕ) → a < 1024 → b < 1024 → a ≢ b → bytes_eq (c ∷ decimal a) (c ∷ decimal b) ≡ false
apart c a b h k l = is_apart c a b (omega (arith, h)) (omega (arith, k)) l (bytes_eq (c ∷ decimal a) (c ∷ decimal b)) refl

-- ---- entries without a code

abbrev pub AllNone : Entries → Type 0
AllNone [] = Unit {0}
AllNone (x ∷ xs) = (x ≡ None) × AllNone xs

pub none_append : (xs ys : Entries) → AllNone xs → AllNone ys → AllNone (xs ++ ys)
none_append [] ys h k = k
none_append (x ∷ xs) ys h k = (h.0, none_append xs ys h.1 k)

pub no_fault : (w : ℕ) (xs : Entries) → AllNone xs → first_fault w xs ≡ None
no_fault w [] h = refl
no_fault w (None ∷ xs) h = no_fault (suc w) xs h.1
no_fault w (Some c ∷ xs) h = absurd (let e = h.0 in cc)

no_code : (c d : ℕ) (p q : Bool) → p ≡ false → q ≡ false → code c p else code d q ≡ None
no_code c d p q h k = ap (λ (x : Bool). code c x else code d q) h ∙ ap (λ (x : Bool). code c false else code d x) k

-- ---- names by numbers

rows : {V : Type 0} → ℕ → V → ℕ → Table V
rows c v zero = []
rows c v (suc j) = rows c v j ++ (c ∷ decimal j, v) ∷ []

or_else : {V : Type 0} → Option V → Option V → Option V
or_else None b = b
or_else (Some x) b = Some x

module _ {V : Type 0} where
  by_front : (b : Bool) (x : V) (r t : Option V) → or_else (cond b (Some x) r) t ≡ cond b (Some x) (or_else r t)
  unfolding or_else
  by_front true x r t = refl
  by_front false x r t = refl

  found_append : (xs ys : Table V) (name : List ℕ) → found (xs ++ ys) name ≡ or_else (found xs name) (found ys name)
  unfolding or_else
  found_append [] ys name = refl
  found_append (e ∷ xs) ys name = ap (λ (o : Option V). cond (bytes_eq name e.0) (Some e.1) o) (found_append xs ys name) ∙ sym (by_front (bytes_eq name e.0) e.1 (found xs name) (found ys name))

  found_last : (c k j : ℕ) (v : V) → found (rows c v (suc j)) (c ∷ decimal k) ≡ or_else (found (rows c v j) (c ∷ decimal k)) (cond (bytes_eq (c ∷ decimal k) (c ∷ decimal j)) (Some v) None)
  unfolding rows
  found_last c k j v = found_append (rows c v j) ((c ∷ decimal j, v) ∷ []) (c ∷ decimal k)

  not_found : (c k j : ℕ) (v : V) → j ≤ k → k < 1024 → found (rows c v j) (c ∷ decimal k) ≡ None
  unfolding rows or_else
  not_found c k zero v h l = refl
  not_found c k (suc j) v h l =
      found_last c k j v
      ∙ (ap (λ (o : Option V). or_else o (cond (bytes_eq (c ∷ decimal k) (c ∷ decimal j)) (Some v) None)) (not_found c k j v (omega (arith, h)) l)
      ∙ ap (λ (b : Bool). cond b (Some v) None) (apart c k j l (omega (arith, h, l)) (λ e. absurd (omega (arith, h, e)))))

  found_by : (c k j : ℕ) (v : V) → k < suc j → suc j ≤ 1024 → (k < j → found (rows c v j) (c ∷ decimal k) ≡ Some v) → ((nat_eq k j ≡ true) × (k ≡ j)) ⊎ ((nat_eq k j ≡ false) × (k ≢ j)) → found (rows c v (suc j)) (c ∷ decimal k) ≡ Some v
  unfolding or_else
  found_by c k j v h l before (inl q) =
      let e = q.1 in
      found_last c k j v
      ∙ (ap (λ (o : Option V). or_else o (cond (bytes_eq (c ∷ decimal k) (c ∷ decimal j)) (Some v) None)) (not_found c k j v (omega (arith, e)) (omega (arith, h, l)))
      ∙ (ap (λ (i : ℕ). cond (bytes_eq (c ∷ decimal k) (c ∷ decimal i)) (Some v) None) (sym e)
      ∙ ap (λ (b : Bool). cond b (Some v) None) (same_bytes (c ∷ decimal k))))
  found_by c k j v h l before (inr q) =
      let less : k < j = (let d = q.1 in omega (arith, h, d)) in
      found_last c k j v ∙ ap (λ (o : Option V). or_else o (cond (bytes_eq (c ∷ decimal k) (c ∷ decimal j)) (Some v) None)) (before less)

  is_found : (c k j : ℕ) (v : V) → k < j → j ≤ 1024 → found (rows c v j) (c ∷ decimal k) ≡ Some v
  is_found c k zero v h l = absurd (omega (arith, h))
  is_found c k (suc j) v h l = found_by c k j v h l (λ less. is_found c k j v less (omega (arith, l))) (eqb_tells k j)

  declared_next : (c j : ℕ) (v : V) → j < 1024 → declared (rows c v j) (c ∷ decimal j) v ≡ rows c v (suc j)
  unfolding declared rows
  declared_next c j v h = ap (λ (o : Option V). cond (is_some o) (rows c v j) (rows c v j ++ (c ∷ decimal j, v) ∷ [])) (not_found c j j v (omega arith) h)

few : (j : ℕ) → j < 1024 → nat_le 1024 j ≡ false
few j h = by_test (nat_le 1024 j) refl
  where
    by_test : (t : Bool) → nat_le 1024 j ≡ t → nat_le 1024 j ≡ false
    by_test false e = e
    by_test true e = absurd (let l = leb-true 1024 j e in omega (arith, h, l))

-- ---- children

pub stations : ℕ → Children
stations j = rows 115 station_places j

child_passes : (j i : ℕ) → i ≡ j → j < 1024 → child_code (stations j) i (station_name j) ≡ None
unfolding child_code stations
child_passes j i e here = no_code _ _ (is_known (stations j) (station_name j)) (nat_le 1024 i) (ap (λ (o : Option Places). is_some o) (not_found 115 j j station_places (omega arith) here)) (few i (omega (arith, e, here)))

model_passes : model_code models (codes "station") ≡ None
unfolding model_code
model_passes = refl

children_pass : (left j i : ℕ) → i ≡ j → j + left ≤ 1024 → AllNone (children_entries models (stations j) i (children j left))
unfolding stations
children_pass zero j i e h = tt
children_pass (suc left) j i e h =
    let here : j < 1024 = omega (arith, h) in (
      child_passes j i e here,
      (
        model_passes,
        subst (λ (t : Children). AllNone (children_entries models t (i + 1) (children (suc j) left))) (sym (declared_next 115 j station_places here)) (children_pass left (suc j) (i + 1) (omega (arith, e)) (omega (arith, h))),
      ),
    )

pub all_stations : (left j : ℕ) → j + left ≤ 1024 → all_children models (stations j) (children j left) ≡ stations (j + left)
unfolding stations
all_stations zero j h = let e : j ≡ j + 0 = omega arith in ap stations e
all_stations (suc left) j h =
    let e : suc j + left ≡ j + suc left = omega arith in
    ap (λ (t : Children). all_children models t (children (suc j) left)) (declared_next 115 j station_places (omega (arith, h))) ∙ (all_stations left (suc j) (omega (arith, h)) ∙ ap stations e)

-- ---- shares

next_within : (n k : ℕ) → 1 ≤ n → next_station n k < n
next_within n k h = by_test (nat_lt (suc k) n) refl
  where
    by_test : (t : Bool) → nat_lt (suc k) n ≡ t → cond t (suc k) 0 < n
    by_test true e = ltb-true (suc k) n e
    by_test false e = omega (arith, h)

next_other : (n k : ℕ) → 2 ≤ n → k < n → next_station n k ≢ k
next_other n k h l = by_test (nat_lt (suc k) n) refl
  where
    by_test : (t : Bool) → nat_lt (suc k) n ≡ t → cond t (suc k) 0 ≢ k
    by_test true e q = absurd (omega (arith, q))
    by_test false e q = absurd (let m = ltb-false (suc k) n e in omega (arith, q, m, h))

next_apart : (n i k : ℕ) → i < k → k < n → next_station n k ≢ next_station n i
next_apart n i k h l = by_tests (nat_lt (suc k) n) (nat_lt (suc i) n) refl refl
  where
    by_tests : (s t : Bool) → nat_lt (suc k) n ≡ s → nat_lt (suc i) n ≡ t → cond s (suc k) 0 ≢ cond t (suc i) 0
    by_tests true true e f q = absurd (omega (arith, q, h))
    by_tests true false e f q = absurd (omega (arith, q))
    by_tests false true e f q = absurd (omega (arith, q))
    by_tests false false e f q = absurd (let m = ltb-false (suc i) n f in omega (arith, m, h, l))

out_of : ℕ → List ℕ × List ℕ
out_of k = (station_name k, codes "outbox")

into : ℕ → List ℕ × List ℕ
into k = (station_name k, codes "inbox")

-- the pairs of the first shares
taken : ℕ → ℕ → Pairs
taken n zero = []
taken n (suc k) = (taken n k ++ out_of k ∷ []) ++ into (next_station n k) ∷ []

any_two : (p q r : Bool) → p ≡ false → q ≡ false → r ≡ false → ((p || (q || false)) || (r || false)) ≡ false
any_two false false false a b c = refl
any_two true q r a b c = absurd cc
any_two p true r a b c = absurd cc
any_two p q true a b c = absurd cc

has_last : (n k : ℕ) (q : List ℕ × List ℕ) → has_pair (taken n (suc k)) q ≡ ((has_pair (taken n k) q || (same_pair q (out_of k) || false)) || (same_pair q (into (next_station n k)) || false))
unfolding taken
has_last n k q =
    list_any-append (same_pair q) (taken n k ++ out_of k ∷ []) (into (next_station n k) ∷ [])
    ∙ ap (λ (b : Bool). b || (same_pair q (into (next_station n k)) || false)) (list_any-append (same_pair q) (taken n k) (out_of k ∷ []))

no_and : (p q : Bool) → q ≡ false → (p && q) ≡ false
no_and true q e = e
no_and false q e = refl

not_and : (p q : Bool) → p ≡ false → (p && q) ≡ false
not_and false q e = refl
not_and true q e = absurd cc

or_false : (p q : Bool) → p ≡ false → q ≡ false → (p || q) ≡ false
or_false false q a b = b
or_false true q a b = absurd cc

or_last : (p : Bool) → p ≡ false → (p || false) ≡ false
or_last false a = refl
or_last true a = absurd cc

out_free : (n k a : ℕ) → k ≤ a → a < 1024 → 1 ≤ n → n ≤ 1024 → has_pair (taken n k) (out_of a) ≡ false
unfolding taken out_of into
out_free n zero a h l m o = refl
out_free n (suc k) a h l m o =
    has_last n k (out_of a)
    ∙ any_two (has_pair (taken n k) (out_of a)) (same_pair (out_of a) (out_of k)) (same_pair (out_of a) (into (next_station n k)))
    (out_free n k a (omega (arith, h)) l m o)
    (not_and (bytes_eq (station_name a) (station_name k)) true (apart 115 a k l (omega (arith, h, l)) (λ e. absurd (omega (arith, e, h)))))
    (no_and (bytes_eq (station_name a) (station_name (next_station n k))) false refl)

into_free : (n k a : ℕ) → k ≤ a → a < n → 1 ≤ n → n ≤ 1024 → has_pair (taken n k) (into (next_station n a)) ≡ false
unfolding taken out_of into
into_free n zero a h l m o = refl
into_free n (suc k) a h l m o =
    let x = next_within n a m in
    let y = next_within n k m in
    has_last n k (into (next_station n a))
    ∙ any_two (has_pair (taken n k) (into (next_station n a))) (same_pair (into (next_station n a)) (out_of k)) (same_pair (into (next_station n a)) (into (next_station n k)))
    (into_free n k a (omega (arith, h)) l m o)
    (no_and (bytes_eq (station_name (next_station n a)) (station_name k)) false refl)
    (not_and (bytes_eq (station_name (next_station n a)) (station_name (next_station n k))) true (apart 115 (next_station n a) (next_station n k) (omega (arith, x, o)) (omega (arith, y, o)) (next_apart n k a (omega (arith, h)) l)))

wires : ℕ → Places
wires k = rows 119 one k

-- the place of a part, where its station is there
first_is : (n k : ℕ) → k < n → n ≤ 1024 → part_place (stations n) (station_name k, codes "outbox") ≡ Some one
unfolding stations
first_is n k h l = ap (λ (o : Option Places). place_in o (codes "outbox")) (is_found 115 k n station_places h l)

second_is : (n k : ℕ) → k < n → n ≤ 1024 → part_place (stations n) (station_name k, codes "inbox") ≡ Some one
unfolding stations
second_is n k h l = ap (λ (o : Option Places). place_in o (codes "inbox")) (is_found 115 k n station_places h l)

known_station : (n k : ℕ) → k < n → n ≤ 1024 → not (is_known (stations n) (station_name k)) ≡ false
unfolding stations
known_station n k h l = ap (λ (o : Option Places). not (is_some o)) (is_found 115 k n station_places h l)

first_part : (n k : ℕ) → k < n → n ≤ 1024 → part_code (stations n) [] (station_name k) ≡ None
unfolding part_code
first_part n k h l = no_code _ 0 (not (is_known (stations n) (station_name k))) false (known_station n k h l) refl

second_part : (n k m : ℕ) → k < n → m < n → n ≤ 1024 → m ≢ k → part_code (stations n) (declared [] (station_name k) tt) (station_name m) ≡ None
unfolding part_code declared
second_part n k m h j l d =
    no_code _ _ (not (is_known (stations n) (station_name m))) (is_known (declared [] (station_name k) tt) (station_name m)) (known_station n m j l)
    (ap (λ (b : Bool). is_some (cond b (Some tt) None)) (apart 115 m k (omega (arith, j, l)) (omega (arith, h, l)) d))

shared_by : (p : List ℕ × List ℕ) (cs : Children) (ts : Pairs) (first : Option Place) → part_place cs p ≡ Some one → first ≡ Some one → has_pair ts p ≡ false → shared_code cs ts first p ≡ None
unfolding shared_code
shared_by p cs ts first here is free = rw (here, is, free) refl

share_passes : (n k i : ℕ) → i ≡ k → k < n → n ≤ 1024 → share_code (wires k) i (wire_name k) ≡ None
unfolding share_code wires
share_passes n k i e h l = no_code _ _ (is_known (wires k) (wire_name k)) (nat_le 1024 i) (ap (λ (o : Option Place). is_some o) (not_found 119 k k one (omega arith) (omega (arith, h, l)))) (few i (omega (arith, e, h, l)))

parts_pass : (n k : ℕ) → 2 ≤ n → k < n → n ≤ 1024 → AllNone (parts_entries (stations n) (taken n k) (part_place (stations n) (station_name k, codes "outbox")) [] ((station_name k, codes "outbox") ∷ (station_name (next_station n k), codes "inbox") ∷ []))
unfolding out_of into
parts_pass n k two h l =
    let m = next_within n k (omega (arith, two)) in (
      first_part n k h l,
      (
        shared_by (station_name k, codes "outbox") (stations n) (taken n k) (part_place (stations n) (station_name k, codes "outbox")) (first_is n k h l) (first_is n k h l) (out_free n k k (omega arith) (omega (arith, h, l)) (omega (arith, two)) l),
        (
          second_part n k (next_station n k) h m l (next_other n k two h),
          (
            shared_by (station_name (next_station n k), codes "inbox") (stations n) (taken n k) (part_place (stations n) (station_name k, codes "outbox")) (second_is n (next_station n k) m l) (first_is n k h l) (into_free n k k (omega arith) h (omega (arith, two)) l),
            tt,
          ),
        ),
      ),
    )

shown_next : (n k : ℕ) → k < n → n ≤ 1024 → declared (wires k) (wire_name k) (shown_as (part_place (stations n) (station_name k, codes "outbox"))) ≡ wires (suc k)
unfolding wires
shown_next n k h l = ap (λ (o : Option Place). declared (wires k) (wire_name k) (shown_as o)) (first_is n k h l) ∙ declared_next 119 k one (omega (arith, h, l))

taken_next : (n k : ℕ) → 2 ≤ n → k < n → n ≤ 1024 → all_paired (taken n k) ((station_name k, codes "outbox") ∷ (station_name (next_station n k), codes "inbox") ∷ []) ≡ taken n (suc k)
unfolding paired taken out_of into
taken_next n k two h l =
    let ts = taken n k in
    let p = out_of k in
    let q = into (next_station n k) in
    let one_more : paired ts p ≡ ts ++ p ∷ [] = ap (λ (b : Bool). cond b ts (ts ++ p ∷ [])) (out_free n k k (omega arith) (omega (arith, h, l)) (omega (arith, two)) l) in
    let free : has_pair (ts ++ p ∷ []) q ≡ false =
    list_any-append (same_pair q) ts (p ∷ []) ∙ or_false (has_pair ts q) (same_pair q p || false) (into_free n k k (omega arith) h (omega (arith, two)) l) (or_last (same_pair q p) (no_and (bytes_eq (station_name (next_station n k)) (station_name k)) false refl)) in
    ap (λ (us : Pairs). paired us q) one_more ∙ ap (λ (b : Bool). cond b (ts ++ p ∷ []) ((ts ++ p ∷ []) ++ q ∷ [])) free

shares_pass : (left n k i : ℕ) → i ≡ k → k + left ≡ n → 2 ≤ n → n ≤ 1024 → AllNone (shares_entries (stations n) (wires k) (taken n k) i (shares n k left))
shares_pass zero n k i e s two l = tt
shares_pass (suc left) n k i e s two l =
    let h : k < n = omega (arith, s) in
    let more = shares_pass left n (suc k) (i + 1) (omega (arith, e)) (omega (arith, s)) two l in (
      share_passes n k i e h l,
      none_append
          (parts_entries (stations n) (taken n k) (part_place (stations n) (station_name k, codes "outbox")) [] ((station_name k, codes "outbox") ∷ (station_name (next_station n k), codes "inbox") ∷ []))
          (shares_entries (stations n) (declared (wires k) (wire_name k) (shown_as (part_place (stations n) (station_name k, codes "outbox")))) (all_paired (taken n k) ((station_name k, codes "outbox") ∷ (station_name (next_station n k), codes "inbox") ∷ [])) (i + 1) (shares n (suc k) left))
          (parts_pass n k two h l)
          (rw (shown_next n k h l, taken_next n k two h l) more),
    )

-- the join has no fault
pub join_passes : (n : ℕ) → 2 ≤ n → n ≤ 1024 → AllNone (children_entries models [] 0 (children 0 n) ++ shares_entries (all_children models [] (children 0 n)) [] [] 0 (shares n 0 n))
unfolding stations rows wires taken
join_passes n two l =
    let zero_n : 0 + n ≡ n = omega arith in
    none_append (children_entries models [] 0 (children 0 n)) (shares_entries (all_children models [] (children 0 n)) [] [] 0 (shares n 0 n))
    (children_pass n 0 0 refl (omega (arith, l)))
    (subst (λ (cs : Children). AllNone (shares_entries cs [] [] 0 (shares n 0 n))) (sym (all_stations n 0 (omega (arith, l)) ∙ ap stations zero_n)) (shares_pass n n 0 0 refl zero_n two l))

-- ---- the whole text

abbrev pub clear : Entries → Bool
clear [] = true
clear (None ∷ xs) = clear xs
clear (Some c ∷ xs) = false

pub all_clear : (xs : Entries) → clear xs ≡ true → AllNone xs
all_clear [] e = tt
all_clear (None ∷ xs) e = (refl, all_clear xs e)
all_clear (Some c ∷ xs) e = absurd (true≢false (sym e))
