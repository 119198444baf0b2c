-- The outcome of a piece's completions.
use Rattle.std.proofs.Common.{ℕ, ◌≡◌, ap, refl, List, [], ◌∷◌, Option}
use Rattle.san_law.specs.Block.{Completion}
use Rattle.san_law.specs.Block as law
use Rattle.san_law.specs.Net.{Row}
use Rattle.san_law.specs.Piece.{LeafState}
use Rattle.san_net.specs.declared.part.Part.{Part}
use Rattle.san_leaf.specs.inner.Ends.{busy, idle, outcome_by}

pub outcome_idle : (p : Part) (base : LeafState) (cells : List (Option ℕ)) (row : Row) (cs : List Completion) (close : law.Close) → cs ≡ [] → outcome_by p base cells row cs close ≡ idle base close
outcome_idle p base cells row cs close none = ap (λ xs. outcome_by p base cells row xs close) none

pub outcome_busy : (p : Part) (base : LeafState) (cells : List (Option ℕ)) (row : Row) (cs : List Completion) (close : law.Close) → (cs ≡ [] → ⊥) → outcome_by p base cells row cs close ≡ busy p base cells row cs close
outcome_busy p base cells row [] close some = absurd (some refl)
outcome_busy p base cells row (c ∷ cs) close some = refl
