-- What a renewal reads.
use Rattle.std.proofs.Common.{ℕ, suc, ◌≡◌, ◌∙◌, ap, sym, refl, true, List, [], ◌∷◌, ◌++◌, length, map, Option, Some, None, slice_index}
use Rattle.san_law.specs.Net.{Private, Shared, Slot}
use Rattle.san_law.specs.Piece.{leaf_view}
use Rattle.san_leaf.specs.Claimed.{IsReadFrom}
use Rattle.san_leaf.specs.Pieces.{AgreesWith, reads_from}
use Rattle.san_leaf.specs.Views.{Shows}
use Rattle.san_leaf.specs.inner.Gathers.{joined, place_in, shared_of}
use Rattle.san_leaf.specs.States.{pair_in}
use Rattle.san_base.specs.declared.numbers.PlaceId.{PlaceId}

-- a read more of a marking that is read
pub read_more : (o : Option (List ℕ)) (log : List (ℕ × ℕ)) (q v : ℕ) → IsReadFrom o log → Shows o q v → IsReadFrom o (log ++ (q, v) ∷ [])
read_more None log q v h t = tt
read_more (Some m) [] q v h t = (t, tt)
read_more (Some m) (e ∷ log) q v h t = (h.0, read_more (Some m) log q v h.1 t)

pub pairs_more : (xs : List (PlaceId × ℕ)) (x : PlaceId × ℕ) → map pair_in (xs ++ x ∷ []) ≡ map pair_in xs ++ pair_in x ∷ []
pairs_more [] x = refl
pairs_more (y ∷ ys) x = ap (λ (es : List (ℕ × ℕ)). pair_in y ∷ es) (pairs_more ys x)

-- places of a log
abbrev pub firsts : List (ℕ × ℕ) → List ℕ
firsts [] = []
firsts (e ∷ es) = e.0 ∷ firsts es

pub firsts_are : (xs : List (PlaceId × ℕ)) → firsts (map pair_in xs) ≡ map place_in xs
firsts_are [] = refl
firsts_are (x ∷ xs) = ap (λ qs. x.0.0 ∷ qs) (firsts_are xs)

-- a leaf sees what was read, where the shared values agree
pub joined_sees : (ss : List Slot) (own : List ℕ) (log : List (ℕ × ℕ)) (shared : List ℕ) → firsts log ≡ shared_of ss → AgreesWith log shared → leaf_view ss own shared ≡ joined ss own log
joined_sees [] own log shared is h = refl
joined_sees (Private q ∷ ss) [] log shared is h = ap (λ vs. 0 ∷ vs) (joined_sees ss [] log shared is h)
joined_sees (Private q ∷ ss) (v ∷ own) log shared is h = ap (λ vs. v ∷ vs) (joined_sees ss own log shared is h)
joined_sees (Shared q ∷ ss) own [] shared is h = absurd cc
joined_sees (Shared q ∷ ss) own (e ∷ log) shared is h =
    let here : e.0 ≡ q = ap first_of is in
    let rest : firsts log ≡ shared_of ss = ap rest_of is in
    ap (λ p. slice_index shared p ∷ leaf_view ss own shared) (sym here) ∙ ap (λ v. v ∷ leaf_view ss own shared) h.0 ∙ ap (λ vs. e.1 ∷ vs) (joined_sees ss own log shared rest h.1)
  where
    first_of : List ℕ → ℕ
    first_of [] = 0
    first_of (z ∷ zs) = z

    rest_of : List ℕ → List ℕ
    rest_of [] = []
    rest_of (z ∷ zs) = zs

-- and reads all of it
pub joined_reads : (k : ℕ) (ss : List Slot) (own : List ℕ) (log : List (ℕ × ℕ)) → firsts log ≡ shared_of ss → reads_from (λ i. true) k ss (joined ss own log) ≡ log
joined_reads k [] own [] is = refl
joined_reads k [] own (e ∷ log) is = absurd cc
joined_reads k (Private q ∷ ss) [] log is = joined_reads (suc k) ss [] log is
joined_reads k (Private q ∷ ss) (v ∷ own) log is = joined_reads (suc k) ss own log is
joined_reads k (Shared q ∷ ss) own [] is = absurd cc
joined_reads k (Shared q ∷ ss) own (e ∷ log) is =
    let here : e.0 ≡ q = ap first_of is in
    let rest : firsts log ≡ shared_of ss = ap rest_of is in
    ap (λ p. (p, e.1) ∷ reads_from (λ i. true) (suc k) ss (joined ss own log)) (sym here) ∙ ap (λ es. e ∷ es) (joined_reads (suc k) ss own log rest)
  where
    first_of : List ℕ → ℕ
    first_of [] = 0
    first_of (z ∷ zs) = z

    rest_of : List ℕ → List ℕ
    rest_of [] = []
    rest_of (z ∷ zs) = zs

pub joined_long : (ss : List Slot) (own : List ℕ) (log : List (ℕ × ℕ)) → length (joined ss own log) ≡ length ss
joined_long [] own log = refl
joined_long (Private q ∷ ss) [] log = ap suc (joined_long ss [] log)
joined_long (Private q ∷ ss) (v ∷ own) log = ap suc (joined_long ss own log)
joined_long (Shared q ∷ ss) own [] = ap suc (joined_long ss own [])
joined_long (Shared q ∷ ss) own (r ∷ log) = ap suc (joined_long ss own log)
