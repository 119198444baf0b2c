-- Which cells an evaluation has to do with.
use Rattle.std.specs.Prelude.{ℕ, ◌≡◌, ◌≤◌, false, IsTrue, List, length, slice_index}
use Rattle.san_base.specs.declared.limits.TheConstants.{MAX_TOKENS}
use Rattle.san_expr.specs.Meaning.{Evaluation, Meaning}
use Rattle.san_expr.specs.Mentions.{CellSet}

abbrev pub IsPartOf : CellSet → CellSet → Type 0
IsPartOf some all = (p : ℕ) → IsTrue (some p) → IsTrue (all p)

-- two markings of as many cells that have the same values in these cells
pub record AreEqualOn (cells : CellSet) (m n : List ℕ) : Type 0 where
  pub sized : length m ≡ length n
  pub same : (p : ℕ) → IsTrue (cells p) → slice_index m p ≡ slice_index n p

-- two outcomes that differ in other cells alone
pub record AreAlike {T : Type 0} (cells : CellSet) (a b : Evaluation T) : Type 0 where
  pub answer : a.answer ≡ b.answer
  pub looks : (p : ℕ) → a.looks p ≡ b.looks p
  pub sets : (p : ℕ) → a.sets p ≡ b.sets p
  pub left : AreEqualOn cells a.left b.left

-- each cell has a number from 0 to `MAX_TOKENS`
abbrev pub IsMarking : List ℕ → Type 0
IsMarking m = (p : ℕ) → slice_index m p ≤ MAX_TOKENS

-- no other cell is looked at or assigned, and two markings that are equal on these cells give one outcome; what isn't
-- assigned stays, and a marking stays one
pub record Concerns {T : Type 0} (cells : CellSet) (a : Meaning T) : Type 0 where
  pub looks : (m : List ℕ) → IsPartOf (a m).looks cells
  pub sets : (m : List ℕ) → IsPartOf (a m).sets cells
  pub alike : (m n : List ℕ) → AreEqualOn cells m n → AreAlike cells (a m) (a n)
  pub unset : (m : List ℕ) (p : ℕ) → (a m).sets p ≡ false → slice_index (a m).left p ≡ slice_index m p
  pub sized : (m : List ℕ) → length (a m).left ≡ length m
  pub marking : (m : List ℕ) → IsMarking m → IsMarking (a m).left

-- nothing is assigned
abbrev pub AssignsNothing : {T : Type 0} → Meaning T → Type 0
AssignsNothing a = (m : List ℕ) → ((a m).left ≡ m) × ((p : ℕ) → (a m).sets p ≡ false)
