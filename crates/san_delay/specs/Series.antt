-- Least numbers of ticks.
use Rattle.std.specs.Prelude.{ℕ, suc, ◌≤◌, ◌<◌, ◌≡◌, List, length, slice_index}
use Rattle.san_expr.specs.Delay.{chance_left}

-- the least number, at least 1, of which a fact holds
pub record IsLeast (holds : ℕ → Type 0) (d : ℕ) : Type 0 where
  pub some : 1 ≤ d
  pub here : holds d
  pub before : (k : ℕ) → 1 ≤ k → k < d → holds k → ⊥

-- the chances after 1, 2, .. ticks, down to 0
pub record IsSeries (p q : ℕ) (chances : List ℕ) : Type 0 where
  pub each : (k : ℕ) → k < length chances → slice_index chances k ≡ chance_left p q (suc k)
  pub ends : chance_left p q (length chances) ≡ 0
