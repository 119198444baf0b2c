-- What a call over a view does, by what it means.
use Rattle.std.specs.Prelude.{ℕ, ◌≡◌, false, not, ◌||◌, ◌&&◌, Some, None, List, Result}
use Rattle.san_base.specs.declared.ending.Trap.{Trap}
use Rattle.san_expr.specs.Meaning.{Meaning}
use Rattle.san_expr.specs.View.{ViewState, Agrees, Grows, IsSeen, is_known, over}

-- the view's marking over a marking that agrees with it
abbrev pub marking_of : ViewState → List ℕ → List ℕ
marking_of s m = over s.own m

-- for every marking that agrees with the view afterwards, with `was` the view's marking before: the answer is that of
-- the meaning in `was`, and the marking that it leaves is the view's, also after a trap. Just the cells that are looked
-- at and aren't the view's own become known, and just the assigned ones become its own.
pub record Meets {T : Type 0} (old new : ViewState) (a : Meaning T) (result : Result T Trap) : Type 0 where
  pub answer : (m : List ℕ) → Agrees new m → (a (marking_of old m)).answer ≡ result
  pub left : (m : List ℕ) → Agrees new m → marking_of new m ≡ (a (marking_of old m)).left
  pub looks : (m : List ℕ) → Agrees new m → (p : ℕ)
      → is_known (new.first p) ≡ (is_known (old.first p) || (not (is_known (old.own p)) && (a (marking_of old m)).looks p))
  pub sets : (m : List ℕ) → Agrees new m → (p : ℕ) → is_known (new.own p) ≡ (is_known (old.own p) || (a (marking_of old m)).sets p)
  pub unset : (m : List ℕ) → Agrees new m → (p : ℕ) → (a (marking_of old m)).sets p ≡ false → new.own p ≡ old.own p
  pub grows : Grows old.first new.first
  pub seen : (p v : ℕ) → old.first p ≡ None → new.first p ≡ Some v → IsSeen old.behind p v
  pub places : new.places ≡ old.places
  pub behind : new.behind ≡ old.behind
  pub kept : new.kept ≡ old.kept

-- the same of a call that assigns nothing
pub record Evaluates {T : Type 0} (old new : ViewState) (a : Meaning T) (result : Result T Trap) : Type 0 where
  pub meets : Meets old new a result
  pub own : new.own ≡ old.own
