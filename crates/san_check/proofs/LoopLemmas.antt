-- A turn of a loop over declarations.
use Rattle.std.proofs.Common.{◌≡◌, ℕ, suc, ◌+◌, ◌<◌, List, [], ◌∷◌, ◌++◌, length, drop, get_or, map, replicate, append_assoc, sym, ap, ◌∙◌, drop-cons}
use Rattle.san_check.specs.declared.walk.Walk.{Walk}
use Rattle.san_check.specs.walk.Entries.{Entries}
use Rattle.san_check.specs.inner.Walks.{seen_all}
use Rattle.san_check.proofs.EntryLemmas.{part_goes_on, dropped}

-- what declarations make of what was known before them, one by one
pub all_turn : {T D R : Type 0} (all : T → List D → R) (next : T → D → T) → ((t : T) (d : D) (ds : List D) → all t (d ∷ ds) ≡ all (next t d) ds)
    → (ds : List D) (i : ℕ) (d : D) (t t1 : T) (total : R) → i < length ds → d ≡ get_or ds i d → t1 ≡ next t d → all t (drop i ds) ≡ total → all t1 (drop (i + 1) ds) ≡ total
all_turn all next cons ds i d t t1 total lt is e so_far =
    ap (λ u. all u (drop (i + 1) ds)) e ∙ sym (cons t d (drop (i + 1) ds)) ∙ ap (all t) (sym (dropped ds i d lt is)) ∙ so_far

-- the entries of declarations behind i others
pub entries_turn : {T D : Type 0} (run : T → ℕ → List D → Entries) (here : T → ℕ → ℕ → D → Entries) (next : T → D → T) → ((t : T) (n : ℕ) (d : D) (ds : List D) → run t n (d ∷ ds) ≡ here t n (length ds) d ++ run (next t d) (n + 1) ds)
    → (ds : List D) (i : ℕ) (d : D) (t t1 : T) (w w1 total : Walk) → i < length ds → d ≡ get_or ds i d → w1 ≡ seen_all w (here t i (length (drop (i + 1) ds)) d) → t1 ≡ next t d
    → seen_all w (run t i (drop i ds)) ≡ total → seen_all w1 (run t1 (i + 1) (drop (i + 1) ds)) ≡ total
entries_turn run here next cons ds i d t t1 w w1 total lt is h e so_far =
    ap (λ u. seen_all w1 (run u (i + 1) (drop (i + 1) ds))) e
    ∙ part_goes_on w w1 total (here t i (length (drop (i + 1) ds)) d) (run (next t d) (i + 1) (drop (i + 1) ds)) h
    (ap (seen_all w) (sym (cons t i d (drop (i + 1) ds)) ∙ ap (run t i) (sym (dropped ds i d lt is))) ∙ so_far)

-- what a list is made into, item by item
pub map_turn : {D E : Type 0} (f : D → E) (ds : List D) (i : ℕ) (d : D) (v v1 : List E) (y : E) → i < length ds → d ≡ get_or ds i d → v1 ≡ v ++ y ∷ [] → y ≡ f d → v ++ map f (drop i ds) ≡ map f ds → v1 ++ map f (drop (i + 1) ds) ≡ map f ds
map_turn f ds i d v v1 y lt is made at so_far =
    ap (λ u. u ++ map f (drop (i + 1) ds)) (made ∙ ap (λ z. v ++ z ∷ []) at) ∙ append_assoc v (f d ∷ []) (map f (drop (i + 1) ds)) ∙ ap (λ zs. v ++ map f zs) (sym (dropped ds i d lt is)) ∙ so_far

-- what items add to a list, one by one, behind so many others
pub added_turn : {D E : Type 0} (all : ℕ → List D → List E) (f : ℕ → D → List E) (next : ℕ → ℕ) → ((n : ℕ) (d : D) (ds : List D) → all n (d ∷ ds) ≡ f n d ++ all (next n) ds)
    → (ds : List D) (i : ℕ) (d : D) (n n1 : ℕ) (v v1 total : List E) → i < length ds → d ≡ get_or ds i d → n1 ≡ next n → v1 ≡ v ++ f n d → v ++ all n (drop i ds) ≡ total → v1 ++ all n1 (drop (i + 1) ds) ≡ total
added_turn all f next cons ds i d n n1 v v1 total lt is up made so_far =
    ap (λ (m : ℕ). v1 ++ all m (drop (i + 1) ds)) up
    ∙ ap (λ u. u ++ all (next n) (drop (i + 1) ds)) made ∙ append_assoc v (f n d) (all (next n) (drop (i + 1) ds)) ∙ ap (λ zs. v ++ zs) (sym (cons n d (drop (i + 1) ds)) ∙ ap (all n) (sym (dropped ds i d lt is))) ∙ so_far

-- one more value of so many
pub value_turn : {E : Type 0} (left left1 : ℕ) (x : E) (v v1 total : List E) → left ≡ suc left1 → v1 ≡ v ++ x ∷ [] → v ++ replicate left x ≡ total → v1 ++ replicate left1 x ≡ total
value_turn left left1 x v v1 total down made so_far = ap (λ u. u ++ replicate left1 x) made ∙ append_assoc v (x ∷ []) (replicate left1 x) ∙ ap (λ n. v ++ replicate n x) (sym down) ∙ so_far
