-- What decides an evaluation, and a piece.
use Rattle.std.specs.Prelude.{ℕ, ◌≡◌, false, IsTrue, List, length, slice_index}
use Rattle.san_expr.specs.Concerns.{AreEqualOn}
use Rattle.san_expr.specs.Meaning.{Evaluation, Meaning}
use Rattle.san_law.specs.Piece.{Kind, LeafState}
use Rattle.san_leaf.specs.Pieces.{AgreesWith, piece_in, reads_in}
use Rattle.san_net.specs.declared.part.Part.{Part}

-- two outcomes with one answer, which look at the same cells, and assign the same values to the same cells
pub record HaveOneAnswer {T : Type 0} (a b : Evaluation T) : Type 0 where
  pub answer : a.answer ≡ b.answer
  pub looks : (p : ℕ) → a.looks p ≡ b.looks p
  pub sets : (p : ℕ) → a.sets p ≡ b.sets p
  pub assigned : (p : ℕ) → IsTrue (a.sets p) → slice_index a.left p ≡ slice_index b.left p

-- markings that are equal in the cells that are looked at give such outcomes; what isn't assigned stays
pub record Decides {T : Type 0} (a : Meaning T) : Type 0 where
  pub alike : (m n : List ℕ) → AreEqualOn (a m).looks m n → HaveOneAnswer (a m) (a n)
  pub unset : (m : List ℕ) (p : ℕ) → (a m).sets p ≡ false → slice_index (a m).left p ≡ slice_index m p
  pub sized : (m : List ℕ) → length (a m).left ≡ length m

-- over other shared values that agree with what a piece read, it reads the same and makes the same
pub record ComeAlike (p : Part) (seed : ℕ) (kind : Kind) (time : ℕ) (base : LeafState) (shared other : List ℕ) : Type 0 where
  pub reads : reads_in p seed kind base other ≡ reads_in p seed kind base shared
  pub makes : piece_in p seed kind time base other ≡ piece_in p seed kind time base shared

abbrev pub ReadsDecide : Part → Type 0
ReadsDecide p = (seed : ℕ) (kind : Kind) (time : ℕ) (base : LeafState) (shared other : List ℕ) → AgreesWith (reads_in p seed kind base shared) other → ComeAlike p seed kind time base shared other
