-- The whole tree and its list of keys.
use Rattle.std.proofs.Common.{ℕ, zero, suc, ◌+◌, ◌-◌, ◌<◌, ◌≤◌, ◌≡◌, ◌≢◌, ◌∙◌, ap, sym, refl, List, [], ◌∷◌, length, Option, None, inl, inr, arith, slice_index_or, slice_set, take, drop, get_or-set_same, get_or-set_other, replicate}
use Rattle.std.proofs.lemmas.Bool.{cases_eq}
use Rattle.san_winner.specs.Least.{Won, sooner, leaf, least_from, least_between, AreWon, HasLeaves, IsPower, span}
use Rattle.san_winner.proofs.SpanLemmas.{sooner_none, span_add, span_list, span_none, root, double, power}

-- past a list's end there is nothing
pub past : (xs : List (Option ℕ)) (k : ℕ) → length xs ≤ k → slice_index_or xs k None ≡ None
past [] k h = refl
past (x ∷ xs) zero h = absurd (omega (arith, h))
past (x ∷ xs) (suc k) h = past xs k (omega (arith, h))

pub top : (size : ℕ) (nodes : List Won) (keys : List (Option ℕ)) → IsPower size → length keys ≤ size → AreWon size nodes → HasLeaves size nodes keys → slice_index_or nodes 1 None ≡ least_from 0 keys
top size nodes keys (h, e) b t l =
    let f : ℕ → Won = λ v. slice_index_or nodes v None in
    let n : ℕ = length keys in
    let r : f 1 ≡ span f size size = root f h (λ v p q. t v p (omega (arith, q, e))) ∙ sym (ap (λ k. span f k k) e) in
    let g : n + (size - n) ≡ size = omega (arith, b) in
    let none : span f (size + n) (size - n) ≡ None = span_none f (size + n) (size - n) (λ k j.
    let a : size + (n + k) ≡ size + n + k = omega arith in
    sym (ap f a) ∙ l (n + k) (omega (arith, j)) ∙ ap (leaf (n + k)) (past keys (n + k) (omega arith))) in
    let some : span f size n ≡ least_from 0 keys = span_list f size 0 keys (λ k j. let a : k ≡ 0 + k = omega arith in l k (omega (arith, j, b)) ∙ ap (λ m. leaf m (slice_index_or keys k None)) a) in
    r ∙ sym (ap (span f size) g) ∙ span_add f size n (size - n) ∙ ap (sooner (span f size n)) none ∙ sooner_none (span f size n) ∙ some

pub get_drop : (lo k : ℕ) (xs : List (Option ℕ)) → slice_index_or (drop lo xs) k None ≡ slice_index_or xs (lo + k) None
get_drop zero k xs = let e : k ≡ 0 + k = omega arith in ap (λ i. slice_index_or xs i None) e
get_drop (suc lo) k [] = refl
get_drop (suc lo) k (x ∷ xs) = let e : suc (lo + k) ≡ suc lo + k = omega arith in get_drop lo k xs ∙ ap (λ i. slice_index_or (x ∷ xs) i None) e

pub get_take : (n k : ℕ) (xs : List (Option ℕ)) → k < n → slice_index_or (take n xs) k None ≡ slice_index_or xs k None
get_take zero k xs h = absurd (omega (arith, h))
get_take (suc n) k [] h = refl
get_take (suc n) zero (x ∷ xs) h = refl
get_take (suc n) (suc k) (x ∷ xs) h = get_take n k xs (omega (arith, h))

pub length_take : (n : ℕ) (xs : List (Option ℕ)) → n ≤ length xs → length (take n xs) ≡ n
length_take zero xs h = refl
length_take (suc n) [] h = absurd (omega (arith, h))
length_take (suc n) (x ∷ xs) h = ap suc (length_take n xs (omega (arith, h)))

pub length_drop : (n : ℕ) (xs : List (Option ℕ)) → length (drop n xs) ≡ length xs - n
length_drop zero xs = omega arith
length_drop (suc n) [] = omega arith
length_drop (suc n) (x ∷ xs) = let r = length_drop n xs in omega (arith, r)

pub part : (size lo hi : ℕ) (nodes : List Won) (keys : List (Option ℕ)) → lo ≤ hi → hi ≤ length keys → length keys ≤ size → HasLeaves size nodes keys → span (λ v. slice_index_or nodes v None) (size + lo) (hi - lo) ≡ least_between lo hi keys
part size lo hi nodes keys a b s l =
    let f : ℕ → Won = λ v. slice_index_or nodes v None in
    let xs : List (Option ℕ) = take (hi - lo) (drop lo keys) in
    let d = length_drop lo keys in
    let n : length xs ≡ hi - lo = length_take (hi - lo) (drop lo keys) (omega (arith, d, a, b)) in
    sym (ap (span f (size + lo)) n) ∙ span_list f (size + lo) lo xs (λ k j.
    let e : size + (lo + k) ≡ size + lo + k = omega arith in
    let m : k < hi - lo = omega (arith, j, n) in
    sym (ap f e) ∙ l (lo + k) (omega (arith, m, a, b, s)) ∙ ap (leaf (lo + k)) (sym (get_take (hi - lo) k (drop lo keys) m ∙ get_drop lo k keys)))

pub leaves_set : (size at : ℕ) (nodes new : List Won) (keys : List (Option ℕ)) (key : Option ℕ) → at < length keys → HasLeaves size nodes keys → slice_index_or new (size + at) None ≡ leaf at key
    → ((k : ℕ) → size ≤ k → k ≢ size + at → slice_index_or new k None ≡ slice_index_or nodes k None) → HasLeaves size new (slice_set keys at key)
leaves_set size at nodes new keys key b l here others k h = elim (cases_eq k at) [
  | inl e ↦ rw e (here ∙ ap (leaf at) (sym (get_or-set_same keys at key None b)))
  | inr n ↦ others (size + k) (omega arith) (omega (arith, n)) ∙ l k h ∙ ap (leaf k) (sym (get_or-set_other keys at k key None n))
]

get_same : {A : Type 0} → (n k : ℕ) (d : A) → slice_index_or (replicate n d) k d ≡ d
get_same zero k d = refl
get_same (suc n) zero d = refl
get_same (suc n) (suc k) d = get_same n k d

pub tree_none : (size n : ℕ) (nodes : List Won) → nodes ≡ replicate n None → AreWon size nodes
tree_none size n nodes e v p q =
    let d : Won = None in
    let at : (k : ℕ) → slice_index_or nodes k None ≡ None = λ k. ap (λ (xs : List Won). slice_index_or xs k None) e ∙ get_same n k d in
    at v ∙ sym (ap (λ x. sooner x (slice_index_or nodes (v + v + 1) None)) (at (v + v)) ∙ at (v + v + 1))

pub leaves_none : (size n m : ℕ) (nodes : List Won) (keys : List (Option ℕ)) → nodes ≡ replicate n None → keys ≡ replicate m None → HasLeaves size nodes keys
leaves_none size n m nodes keys e f k h =
    let d : Won = None in let o : Option ℕ = None in
    ap (λ (xs : List Won). slice_index_or xs (size + k) None) e ∙ get_same n (size + k) d ∙ sym (ap (λ (xs : List (Option ℕ)). leaf k (slice_index_or xs k None)) f ∙ ap (leaf k) (get_same m k o))

pub power_more : (n : ℕ) → IsPower n → IsPower (n + n)
power_more n (h, e) = (suc h, rw e (sym (double h)))

pub two : (n : ℕ) → IsPower n → 0 < n
two n (h, e) = let p = power h in omega (arith, p, e)
