use Rattle.std.proofs.Common.{◌≡◌, ◌∙◌, ℕ, ap, refl}
use Rattle.san_law.specs.Net.{Row, without_timer}
use Rattle.san_leaf.proofs.work.started.Goals.{in-Some, in_default}
use Rattle.san_leaf.proofs.work.started.Goals as goal

kept : (r : Row) (k : ℕ) → (without_timer r k).cases ≡ r.cases
unfolding without_timer
kept r k = refl

pub returns-clause-cases : goal.returns-clause-cases
returns-clause-cases c = elim c.match-fired.branch [
  | in-Some w ↦ ap (λ (r : Row). r.cases) (w.started-is ∙ w.drop_timer.ensures) ∙ kept c.in_ok-started.started w.in-Some.act ∙ ap (λ (r : Row). r.cases) c.in_ok-started.ensures
  | in_default w ↦ ap (λ (r : Row). r.cases) (w.started-is ∙ c.in_ok-started.ensures)
]
