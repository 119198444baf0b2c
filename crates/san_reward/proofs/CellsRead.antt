-- The value of a term over a leaf's cells.
use Rattle.std.proofs.Common.{ℕ, ◌≡◌, ◌∙◌, ap, sym, List, Result}
use Rattle.std.specs.Prelude.{ℤ}
use Rattle.san_base.specs.declared.ending.Trap.{Trap}
use Rattle.san_expr.specs.Meets.{Evaluates}
use Rattle.san_expr.specs.Value.{value_of}
use Rattle.san_expr.specs.View.{plain}
use Rattle.san_expr.proofs.WholeLemmas.{plain_evaluates}
use Rattle.san_net.specs.Leaf.{rate_in}
use Rattle.san_base.specs.Rated.{rated_by, term_value}
use Rattle.san_net.specs.declared.atomic.RateTerm.{RateTerm}
use Rattle.san_base.specs.declared.term.Rated.{Rated}

-- a term's value over all of a leaf's cells
pub value_there : (t : RateTerm) (values left : List ℕ) (r : Result ℤ Trap) (w : Rated) → Evaluates (plain values) (plain left) (value_of t.expr) r → term_value w ≡ rated_by r → term_value w ≡ rate_in values t
value_there t values left r w e is = is ∙ ap rated_by (sym (plain_evaluates values left t.expr r e).0)
