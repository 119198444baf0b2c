-- What is recorded of a completion's impulses.
use Rattle.std.specs.Prelude.{ℕ, ◌≡◌, List, Ok}
use Rattle.san_expr.specs.Meets.{Evaluates}
use Rattle.san_expr.specs.View.{ViewState}
use Rattle.san_law.specs.Net.{Impulse}
use Rattle.san_net.specs.declared.atomic.ImpulseTerm.{ImpulseTerm}
use Rattle.san_leaf.specs.Blocks.{impulses_of}
use Rattle.san_leaf.specs.inner.Recorded.{Recorded, with_impulses}

-- the terms' impulses in a view's values were recorded
abbrev pub Records : Recorded → Recorded → ViewState → ViewState → ℕ → List ImpulseTerm → Type 0
Records was now old new act terms = (xs : List Impulse) × (now ≡ with_impulses was xs) × Evaluates old new (impulses_of act terms) (Ok xs)
