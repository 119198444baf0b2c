-- Tables over hashed entries.
use Rattle.std.proofs.Common.{◌≡◌, ℕ, suc, ◌+◌, length, ap₂, Bool, true, false, cond, ◌||◌, List, [], ◌∷◌, ◌++◌, map, Option, Some, None, is_some, refl, sym, ap, ◌∙◌, true≢false}
use Rattle.std.proofs.lemmas.List.{map-append}
use Rattle.std.specs.Map.{lookup, keys_of}
use Rattle.std.specs.Prelude.{nat_lt, not, position}
use Rattle.std.specs.List.{position_or_len}
use Rattle.std.specs.Str.{bytes_eq}
use Rattle.indexmap.specs.IndexMap.{insert_entry}
use Rattle.std.specs.Option.{option_map}
use Rattle.std.specs.List.{list_any}
use Rattle.san_check.specs.Tables.{Table, Pairs, is_known, declared, same_pair, has_pair, paired}

module _ {K L V : Type 0} (see : K → L) (test : L → Bool) where
  -- what is found under a name as it is seen
  pub lookup_seen : (es : List (K × V)) → lookup test (map (λ e. (see e.0, e.1)) es) ≡ lookup (λ k. test (see k)) es
  lookup_seen [] = refl
  lookup_seen (e ∷ es) = ap (cond (test (see e.0)) (Some e.1)) (lookup_seen es)

module _ {K L : Type 0} (see : K → L) (test : L → Bool) where
  pub any_seen : (ks : List K) → list_any test (map see ks) ≡ list_any (λ k. test (see k)) ks
  any_seen [] = refl
  any_seen (k ∷ ks) = ap (λ (b : Bool). test (see k) || b) (any_seen ks)

module _ {K L V W : Type 0} (see : K → L) (look : V → W) (test : L → Bool) where
  one_of : (b : Bool) (v : V) (rest : Option V) → cond b (Some (look v)) (option_map look rest) ≡ option_map look (cond b (Some v) rest)
  one_of true v rest = refl
  one_of false v rest = refl

  pub lookup_both : (es : List (K × V)) → lookup test (map (λ e. (see e.0, look e.1)) es) ≡ option_map look (lookup (λ k. test (see k)) es)
  lookup_both [] = refl
  lookup_both (e ∷ es) = ap (cond (test (see e.0)) (Some (look e.1))) (lookup_both es) ∙ one_of (test (see e.0)) e.1 (lookup (λ k. test (see k)) es)

still_some : {V W : Type 0} (look : V → W) (o : Option V) → is_some (option_map look o) ≡ is_some o
still_some look None = refl
still_some look (Some v) = refl

pub known_both : {K L V W : Type 0} (see : K → L) (look : V → W) (test : L → Bool) (es : List (K × V)) → is_some (lookup test (map (λ e. (see e.0, look e.1)) es)) ≡ is_some (lookup (λ k. test (see k)) es)
known_both see look test es = ap is_some (lookup_both see look test es) ∙ still_some look (lookup (λ k. test (see k)) es)

pub none_of : {A : Type 0} (o : Option A) → is_some o ≡ false → o ≡ None
none_of None h = refl
none_of (Some x) h = absurd (true≢false h)

-- a name that isn't known goes last
pub declared_last : {V : Type 0} (table : Table V) (name : List ℕ) (value : V) → is_known table name ≡ false → declared table name value ≡ table ++ (name, value) ∷ []
unfolding declared
declared_last table name value h = ap (λ (b : Bool). cond b table (table ++ (name, value) ∷ [])) h

pub declared_known : {V : Type 0} (table : Table V) (name : List ℕ) (value : V) → is_known table name ≡ true → declared table name value ≡ table
unfolding declared
declared_known table name value h = ap (λ (b : Bool). cond b table (table ++ (name, value) ∷ [])) h

-- an entry whose key isn't there goes last
step : {A : Type 0} {V : Type 0} (b : Bool) (v : V) (rest : Option V) (set put last : A) → is_some (cond b (Some v) rest) ≡ false → (is_some rest ≡ false → put ≡ last) → cond b set put ≡ last
step true v rest set put last h more = absurd (true≢false h)
step false v rest set put last h more = more h

insert_last : {K V : Type 0} (eq : K → K → Bool) (k : K) (v : V) (es : List (K × V)) → is_some (lookup (eq k) es) ≡ false → insert_entry eq es k v ≡ es ++ (k, v) ∷ []
insert_last eq k v [] h = refl
insert_last eq k v (e ∷ es) h = step (eq k e.0) e.1 (lookup (eq k) es) ((e.0, v) ∷ es) (e ∷ insert_entry eq es k v) (e ∷ (es ++ (k, v) ∷ [])) h (λ n. ap (λ t. e ∷ t) (insert_last eq k v es n))

pub declared_seen : {K V W : Type 0} (see : K → List ℕ) (look : V → W) (es new : List (K × V)) (table : Table W) (k : K) (v : V) → new ≡ insert_entry (λ x y. bytes_eq (see x) (see y)) es k v
    → map (λ e. (see e.0, look e.1)) es ≡ table → is_known table (see k) ≡ false → map (λ e. (see e.0, look e.1)) new ≡ declared table (see k) (look v)
declared_seen see look es new table k v made is h =
    let fresh = sym (known_both see look (bytes_eq (see k)) es) ∙ ap (λ t. is_known t (see k)) is ∙ h in
    ap (map (λ e. (see e.0, look e.1))) (made ∙ insert_last (λ x y. bytes_eq (see x) (see y)) k v es fresh)
    ∙ map-append (λ e. (see e.0, look e.1)) es ((k, v) ∷ []) ∙ ap (λ t. t ++ (see k, look v) ∷ []) is ∙ sym (declared_last table (see k) (look v) h)

kept : {K L : Type 0} (see : K → L) (b : Bool) (ks : List K) (k : K) → map see (cond b ks (ks ++ k ∷ [])) ≡ cond b (map see ks) (map see ks ++ see k ∷ [])
kept see true ks k = refl
kept see false ks k = map-append see ks (k ∷ [])

pub pair_seen : {K : Type 0} (see : K → List ℕ × List ℕ) (ks new : List K) (pairs : Pairs) (k : K) → new ≡ cond (list_any (λ x. same_pair (see k) (see x)) ks) ks (ks ++ k ∷ []) → map see ks ≡ pairs → map see new ≡ paired pairs (see k)
unfolding paired
pair_seen see ks new pairs k made is =
    ap (map see) made ∙ kept see (list_any (λ x. same_pair (see k) (see x)) ks) ks k
    ∙ ap (λ (b : Bool). cond b (map see ks) (map see ks ++ see k ∷ [])) (sym (any_seen see (same_pair (see k)) ks))
    ∙ ap (λ (ps : Pairs). cond (has_pair ps (see k)) ps (ps ++ see k ∷ [])) is

module _ {K L V W : Type 0} (see : K → L) (look : V → W) (test : L → Bool) where
  first_seen : (es : List (K × V)) → position_or_len test (keys_of (map (λ e. (see e.0, look e.1)) es)) ≡ position_or_len (λ k. test (see k)) (keys_of es)
  first_seen [] = refl
  first_seen (e ∷ es) = ap (λ n. cond (not (test (see e.0))) (1 + n) 0) (first_seen es)

  as_many : (es : List (K × V)) → length (keys_of (map (λ e. (see e.0, look e.1)) es)) ≡ length (keys_of es)
  as_many [] = refl
  as_many (e ∷ es) = ap suc (as_many es)

  pub position_seen : (es : List (K × V)) → position test (keys_of (map (λ e. (see e.0, look e.1)) es)) ≡ position (λ k. test (see k)) (keys_of es)
  position_seen es = ap₂ (λ n l. cond (nat_lt n l) (Some n) None) (first_seen es) (as_many es)
