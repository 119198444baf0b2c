-- The pieces after so many are the rest of the pieces.
use Rattle.std.proofs.Common.{ℕ, zero, suc, ◌+◌, ◌<◌, ◌≤◌, ◌≡◌, ◌∙◌, ap, sym, refl, List, [], ◌∷◌, length, Some, None, arith}
use Rattle.std.specs.Prelude.{drop, slice_get}
use Rattle.san_law.specs.Net.{Net}
use Rattle.san_law.specs.Core.{Core, advance_by, after_pieces}
use Rattle.san_law.specs.Lawful.{IsLawful}
use Rattle.san_law.specs.Pieces.{Piece, next_piece, pieces}
use Rattle.san_law.specs.Starts.{AfterMore, MorePieces, NoMorePieces, RestOfPieces}
use Rattle.san_law.proofs.Pieces.{pieces_are_needed}
use Rattle.san_law.proofs.Standing.{pieces_keep}

pub none_more : (k : ℕ) → 0 + k ≡ k
none_more k = omega arith

one_more : (m k : ℕ) → suc m + k ≡ suc (m + k)
one_more m k = omega arith

pub after_more : (net : Net) → AfterMore net
unfolding after_pieces
after_more net c zero k = ap (λ (i : ℕ). after_pieces net i c) (none_more k)
after_more net c (suc m) k = ap (λ (i : ℕ). after_pieces net i c) (one_more m k) ∙ ap (λ (d : Core). advance_by net d d.stop) (after_more net c m k)

no_less : (i : ℕ) → i ≡ i + 0
no_less i = omega arith

get_drop : (xs : List Piece) (m i : ℕ) → slice_get (drop m xs) i ≡ slice_get xs (i + m)
get_drop xs zero i = ap (slice_get xs) (no_less i)
get_drop [] (suc m) i = refl
get_drop (x ∷ xs) (suc m) i = get_drop xs m i ∙ ap (slice_get (x ∷ xs)) (more i m)
  where
    more : (i m : ℕ) → suc (i + m) ≡ i + suc m
    more i m = omega arith

same_gets : (xs ys : List Piece) → ((i : ℕ) → slice_get xs i ≡ slice_get ys i) → xs ≡ ys
same_gets [] [] h = refl
same_gets [] (y ∷ ys) h = let e = h 0 in cc
same_gets (x ∷ xs) [] h = let e = h 0 in cc
same_gets (x ∷ xs) (y ∷ ys) h = cong-cons (is (h 0)) (same_gets xs ys (λ i. h (suc i)))
  where
    is : Some x ≡ Some y → x ≡ y
    is e = cc

    cong-cons : x ≡ y → xs ≡ ys → x ∷ xs ≡ y ∷ ys
    cong-cons e f = ap (λ (z : Piece). z ∷ xs) e ∙ ap (λ (zs : List Piece). y ∷ zs) f

get_some : (xs : List Piece) (m : ℕ) (p : Piece) → slice_get xs m ≡ Some p → m < length xs
get_some [] m p e = cc
get_some (x ∷ xs) zero p e = omega arith
get_some (x ∷ xs) (suc m) p e = let h = get_some xs m p e in omega (arith, h)

get_none : (xs : List Piece) (m : ℕ) → slice_get xs m ≡ None → length xs ≤ m
get_none [] m e = omega arith
get_none (x ∷ xs) zero e = cc
get_none (x ∷ xs) (suc m) e = let h = get_none xs m e in omega (arith, h)

pub rest_of_pieces : (net : Net) → IsLawful net → RestOfPieces net
rest_of_pieces net law opening past c h m = same_gets (pieces net d) (drop m (pieces net c)) at
  where
    d : Core
    d = after_pieces net m c

    at : (i : ℕ) → slice_get (pieces net d) i ≡ slice_get (drop m (pieces net c)) i
    at i =
        sym (pieces_are_needed net law opening past d (pieces_keep net law opening past c h m) i)
        ∙ (ap (next_piece net) (sym (after_more net c i m))
        ∙ (pieces_are_needed net law opening past c h (i + m)
        ∙ sym (get_drop (pieces net c) m i)))

pub more_pieces : (net : Net) → IsLawful net → MorePieces net
more_pieces net law opening past c h m p e = get_some (pieces net c) m p (sym (pieces_are_needed net law opening past c h m) ∙ e)

pub no_more_pieces : (net : Net) → IsLawful net → NoMorePieces net
no_more_pieces net law opening past c h m e = get_none (pieces net c) m (sym (pieces_are_needed net law opening past c h m) ∙ e)
