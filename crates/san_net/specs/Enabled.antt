-- Whether an activity is enabled, or the trap that ends the test.
use Rattle.std.specs.Prelude.{ℕ, pos, int_lt, Bool, true, false, not, List, [], ◌∷◌, Ok}
use Rattle.san_expr.specs.Meaning.{Meaning, settled, then_do, value_at}
use Rattle.san_expr.specs.Value.{is_zero, value_of}
use Rattle.san_expr.specs.declared.expr.Expr.{Expr}
use Rattle.san_net.specs.declared.activity.Input.{Input}
use Rattle.san_net.specs.declared.activity.Input.TheVariants.{Arc, Gate}
use Rattle.san_net.specs.declared.activity.Activity.{Activity}

-- a predicate is passed where its value isn't 0
abbrev pub truth_of : Expr → Meaning Bool
truth_of e = then_do (value_of e) (λ x. settled (Ok (not (is_zero x))))

-- a cell has at least so many tokens
abbrev pub has_tokens : ℕ → ℕ → Meaning Bool
has_tokens p w = then_do (value_at p) (λ x. settled (Ok (not (int_lt x (pos w)))))

abbrev pub predicate_of : Input → Meaning Bool
predicate_of (Arc p w) = has_tokens p w
predicate_of (Gate e body) = truth_of e

-- the first that isn't passed gives no
abbrev pub and_then : Meaning Bool → Bool → Meaning Bool
and_then rest true = rest
and_then rest false = settled (Ok false)

-- the predicates in order of declaration
abbrev pub all_hold : List Input → Meaning Bool
all_hold [] = settled (Ok true)
all_hold (i ∷ inputs) = then_do (predicate_of i) (and_then (all_hold inputs))

abbrev pub enabled_of : Activity → Meaning Bool
enabled_of a = all_hold a.inputs
