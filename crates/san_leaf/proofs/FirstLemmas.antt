-- A leaf's state before its first piece.
use Rattle.std.proofs.Common.{ℕ, ◌<◌, ◌≡◌, ◌∙◌, ap, sym, refl, arith, List, [], ◌∷◌, ◌++◌, length}
use Rattle.std.proofs.lemmas.List.{append-nil}
use Rattle.san_law.specs.Net.{Slot}
use Rattle.san_law.specs.Piece.{own}

none_own : (ss : List Slot) (values : List ℕ) → length values < 1 → own ss values ≡ []
none_own [] values l = refl
none_own (s ∷ ss) [] l = refl
none_own (s ∷ ss) (v ∷ values) l = absurd (omega (arith, l))

pub all_own : (list : List ℕ) (ss : List Slot) (values whole : List ℕ) → length values < 1 → list ++ own ss values ≡ whole → list ≡ whole
all_own list ss values whole l is = sym (append-nil list) ∙ ap (λ xs. list ++ xs) (sym (none_own ss values l)) ∙ is
