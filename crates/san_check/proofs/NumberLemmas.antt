-- Two names that are known have two numbers.
use Rattle.std.proofs.Common.{◌≡◌, ℕ, ◌+◌, ◌<◌, ◌≤◌, Bool, true, false, cond, not, List, [], ◌∷◌, ◌++◌, length, min, Option, Some, None, is_some, nat_lt, refl, sym, ap, ◌∙◌, true≢false, arith}
use Rattle.std.proofs.lemmas.Bool.{lt-ltb}
use Rattle.std.proofs.lemmas.List.{length-map}
use Rattle.std.proofs.lemmas.Slice.Eq.{bytes_eq-Decides}
use Rattle.std.specs.Prelude.{unwrap_or}
use Rattle.std.specs.List.{position_or_len}
use Rattle.std.specs.Map.{keys_of, lookup}
use Rattle.std.specs.Str.{bytes_eq}
use Rattle.san_check.specs.Tables.{Table, found, is_known, declared}
use Rattle.san_check.specs.build.Composition.{number}
use Rattle.san_check.proofs.TableLemmas.{declared_last, declared_known}
use Rattle.san_check.proofs.TreeLemmas.{here}

abbrev first_of : {V : Type 0} → Table V → List ℕ → ℕ
first_of table name = position_or_len (bytes_eq name) (keys_of table)

known_below : {V : Type 0} (t : Table V) (name : List ℕ) → is_known t name ≡ true → first_of t name < length t
known_below [] name h = absurd (true≢false (sym h))
known_below (e ∷ t) name h = here (bytes_eq name e.0) e.1 (lookup (bytes_eq name) t) (first_of t name) (length t) h (known_below t name)

two : {V : Type 0} (p q : Bool) (top a b : List ℕ) (v : V) (oa ob : Option V) (m n : ℕ) → (p ≡ true → a ≡ top) → (q ≡ true → b ≡ top) → is_some (cond p (Some v) oa) ≡ true → is_some (cond q (Some v) ob) ≡ true
    → cond (not p) (1 + m) 0 ≡ cond (not q) (1 + n) 0 → (is_some oa ≡ true → is_some ob ≡ true → m ≡ n → a ≡ b) → a ≡ b
two true true top a b v oa ob m n ha hb ka kb same more = ha refl ∙ sym (hb refl)
two true false top a b v oa ob m n ha hb ka kb same more = absurd (omega (arith, same))
two false true top a b v oa ob m n ha hb ka kb same more = absurd (omega (arith, same))
two false false top a b v oa ob m n ha hb ka kb same more = more ka kb (omega (arith, same))

firsts_apart : {V : Type 0} (t : Table V) (a b : List ℕ) → is_known t a ≡ true → is_known t b ≡ true → first_of t a ≡ first_of t b → a ≡ b
firsts_apart [] a b ka kb same = absurd (true≢false (sym ka))
firsts_apart (e ∷ t) a b ka kb same =
    two (bytes_eq a e.0) (bytes_eq b e.0) e.0 a b e.1 (lookup (bytes_eq a) t) (lookup (bytes_eq b) t) (first_of t a) (first_of t b) (bytes_eq-Decides a e.0).0 (bytes_eq-Decides b e.0).0 ka kb same (firsts_apart t a b)

pub number_is : {V : Type 0} (t : Table V) (name : List ℕ) → is_known t name ≡ true → length t ≤ 4294967295 → number t name ≡ position_or_len (bytes_eq name) (keys_of t)
number_is t name h few =
    let p = first_of t name in
    let below = known_below t name h in
    let keys = length-map t (λ e. e.0) in
    let inside : nat_lt p (length (keys_of t)) ≡ true = lt-ltb p (length (keys_of t)) (omega (arith, below, keys)) in
    let small : min p 4294967295 ≡ p = omega (arith, below) in
    ap (λ (b : Bool). min (unwrap_or (cond b (Some p) None) 0) 4294967295) inside ∙ small

pub numbers_apart : {V : Type 0} (t : Table V) (a b : List ℕ) → length t ≤ 4294967295 → is_known t a ≡ true → is_known t b ≡ true → number t a ≡ number t b → a ≡ b
numbers_apart t a b few ka kb same = firsts_apart t a b ka kb (sym (number_is t a ka few) ∙ same ∙ number_is t b kb few)

still : {V : Type 0} (b : Bool) (v : V) (o o1 : Option V) → is_some (cond b (Some v) o) ≡ true → (is_some o ≡ true → o1 ≡ o) → cond b (Some v) o1 ≡ cond b (Some v) o
still true v o o1 h more = refl
still false v o o1 h more = more h

-- what is found in front stays
pub found_front : {V : Type 0} (t rest : Table V) (name : List ℕ) → is_known t name ≡ true → found (t ++ rest) name ≡ found t name
found_front [] rest name h = absurd (true≢false (sym h))
found_front (e ∷ t) rest name h = still (bytes_eq name e.0) e.1 (lookup (bytes_eq name) t) (lookup (bytes_eq name) (t ++ rest)) h (found_front t rest name)

either : {V : Type 0} (b : Bool) (v : V) (o : Option V) → is_some o ≡ true → is_some (cond b (Some v) o) ≡ true
either true v o h = refl
either false v o h = h

last_known : {V : Type 0} (t : Table V) (name : List ℕ) (v : V) → is_known (t ++ (name, v) ∷ []) name ≡ true
last_known [] name v = ap (λ (b : Bool). is_some (cond b (Some v) None)) ((bytes_eq-Decides name name).1 refl)
last_known (e ∷ t) name v = either (bytes_eq name e.0) e.1 (lookup (bytes_eq name) (t ++ (name, v) ∷ [])) (last_known t name v)

itself_by : {V : Type 0} (b : Bool) (t : Table V) (name : List ℕ) (v : V) → is_known t name ≡ b → is_known (declared t name v) name ≡ true
itself_by true t name v h = ap (λ u. is_known u name) (declared_known t name v h) ∙ h
itself_by false t name v h = ap (λ u. is_known u name) (declared_last t name v h) ∙ last_known t name v

pub known_itself : {V : Type 0} (t : Table V) (name : List ℕ) (v : V) → is_known (declared t name v) name ≡ true
known_itself t name v = itself_by (is_known t name) t name v refl

stays_by : {V : Type 0} (b : Bool) (t : Table V) (other name : List ℕ) (v : V) → is_known t other ≡ b → is_known t name ≡ true → is_known (declared t other v) name ≡ true
stays_by true t other name v h k = ap (λ u. is_known u name) (declared_known t other v h) ∙ k
stays_by false t other name v h k = ap (λ u. is_known u name) (declared_last t other v h) ∙ ap is_some (found_front t ((other, v) ∷ []) name k) ∙ k

pub known_stays : {V : Type 0} (t : Table V) (other name : List ℕ) (v : V) → is_known t name ≡ true → is_known (declared t other v) name ≡ true
known_stays t other name v k = stays_by (is_known t other) t other name v refl k
