-- The cells that are looked at decide completions, and what stands first.
use Rattle.std.proofs.Common.{ℕ, pos, Bool, true, false, not, Result, Ok, Err, List, [], ◌∷◌, Option, Some, None, ◌+ℤ◌, ◌-ℤ◌}
use Rattle.std.specs.Prelude.{int_lt, slice_get}
use Rattle.san_base.specs.declared.ending.Trap.{Trap}
use Rattle.san_expr.specs.Effect.{assign_at}
use Rattle.san_expr.specs.Meaning.{settled, then_do, value_at}
use Rattle.san_expr.specs.Value.{is_zero, value_of}
use Rattle.san_net.specs.Choice.{all_natural, case_of, chosen, natural, weight_of, weights_of}
use Rattle.san_net.specs.Completion.{case_outputs, completion_of, function_of, inputs_of, output_of, outputs_by, outputs_of}
use Rattle.san_net.specs.Enabled.{all_hold, and_then, predicate_of}
use Rattle.san_net.specs.First.{attempt, enabled_by, first_among, first_of, found_or}
use Rattle.san_net.specs.Instants.{Named}
use Rattle.san_net.specs.declared.activity.Activity.{Activity}
use Rattle.san_net.specs.declared.activity.Case.{Case}
use Rattle.san_net.specs.declared.activity.Input.{Input}
use Rattle.san_net.specs.declared.activity.Input.TheVariants as input
use Rattle.san_net.specs.declared.activity.Output.{Output}
use Rattle.san_net.specs.declared.activity.Output.TheVariants as output
use Rattle.san_net.specs.declared.atomic.Atomic.{Atomic}
use Rattle.san_net.specs.declared.first.FirstInstant.{FirstInstant}
use Rattle.san_net.specs.declared.first.FirstInstant.TheVariants as first
use Rattle.san_decide.specs.Decided.{Decides}
use Rattle.san_decide.proofs.Composing.{decides_attempt, decides_settled, decides_then, decides_value_at}
use Rattle.san_decide.proofs.Evaluations.{decides_assign, effects_decide, turns_decide, value_decides}

-- completions
weight_decides : (c : Case) → Decides (weight_of c)
weight_decides c = decides_then (value_of c.weight) (λ x. settled (Ok (natural x))) (value_decides c.weight) (λ x. decides_settled (Ok (natural x)))

weights_decide : (cases : List Case) → Decides (weights_of cases)
weights_decide [] = decides_settled {T = List (Option ℕ)} (Ok [])
weights_decide (c ∷ cases) =
    decides_then (weight_of c) (λ y. then_do (weights_of cases) (λ ys. settled (Ok (y ∷ ys)))) (weight_decides c)
    (λ y. decides_then (weights_of cases) (λ ys. settled (Ok (y ∷ ys))) (weights_decide cases) (λ ys. decides_settled (Ok (y ∷ ys))))

case_decides : (u : ℕ) (cases : List Case) → Decides (case_of u cases)
case_decides u cases = decides_then (weights_of cases) (λ ys. settled (chosen u (all_natural ys))) (weights_decide cases) (λ ys. decides_settled (chosen u (all_natural ys)))

function_decides : (i : Input) → Decides (function_of i)
function_decides (input.Arc p w) = decides_then (value_at p) (λ x. assign_at p (x -ℤ pos w)) (decides_value_at p) (λ x. decides_assign p (x -ℤ pos w))
function_decides (input.Gate e body) = effects_decide body

output_decides : (o : Output) → Decides (output_of o)
output_decides (output.Arc p w) = decides_then (value_at p) (λ x. assign_at p (x +ℤ pos w)) (decides_value_at p) (λ x. decides_assign p (x +ℤ pos w))
output_decides (output.Body body) = effects_decide body

outputs_decide : (o : Option Case) → Decides (outputs_of (outputs_by o))
outputs_decide None = decides_settled (Ok tt)
outputs_decide (Some c) = turns_decide output_of output_decides c.outputs

pub completion_decides : (u : ℕ) (a : Activity) → Decides (completion_of u a)
completion_decides u a =
    decides_then (case_of u a.cases) (λ k. then_do (inputs_of a.inputs) (λ _. then_do (outputs_of (case_outputs a.cases k)) (λ _. settled (Ok k)))) (case_decides u a.cases)
    (λ k. decides_then (inputs_of a.inputs) (λ _. then_do (outputs_of (case_outputs a.cases k)) (λ _. settled (Ok k))) (turns_decide function_of function_decides a.inputs)
    (λ _. decides_then (outputs_of (case_outputs a.cases k)) (λ _. settled (Ok k)) (outputs_decide (slice_get a.cases k)) (λ _. decides_settled (Ok k))))

-- tests
predicate_decides : (i : Input) → Decides (predicate_of i)
predicate_decides (input.Arc p w) = decides_then (value_at p) (λ x. settled (Ok (not (int_lt x (pos w))))) (decides_value_at p) (λ x. decides_settled (Ok (not (int_lt x (pos w)))))
predicate_decides (input.Gate e body) = decides_then (value_of e) (λ x. settled (Ok (not (is_zero x)))) (value_decides e) (λ x. decides_settled (Ok (not (is_zero x))))

predicates_decide : (inputs : List Input) → Decides (all_hold inputs)
predicates_decide [] = decides_settled {T = Bool} (Ok true)
predicates_decide (i ∷ inputs) = decides_then (predicate_of i) (and_then (all_hold inputs)) (predicate_decides i) (λ b. by_test b (predicates_decide inputs))
  where
    by_test : (b : Bool) → Decides (all_hold inputs) → Decides (and_then (all_hold inputs) b)
    by_test true h = h
    by_test false h = decides_settled {T = Bool} (Ok false)

enabled_decides : (o : Option Named) → Decides (enabled_by o)
enabled_decides None = decides_settled {T = Bool} (Ok false)
enabled_decides (Some a) = predicates_decide a.1.inputs

firsts_decide : (acts : List Named) (order : List ℕ) → Decides (first_among acts order)
firsts_decide acts [] = decides_settled (Ok first.None)
firsts_decide acts (k ∷ order) =
    decides_then (attempt (enabled_by (slice_get acts k))) (found_or k (first_among acts order)) (decides_attempt (enabled_by (slice_get acts k)) (enabled_decides (slice_get acts k)))
    (λ r. by_answer r (firsts_decide acts order))
  where
    by_answer : (r : Result Bool Trap) → Decides (first_among acts order) → Decides (found_or k (first_among acts order) r)
    by_answer (Ok true) rest = decides_settled {T = FirstInstant} (Ok (first.Enabled k))
    by_answer (Ok false) rest = rest
    by_answer (Err t) rest = decides_settled {T = FirstInstant} (Ok (first.Trapped k t))

pub first_decides : (a : Atomic) → Decides (first_of a)
first_decides a = firsts_decide a.acts a.instants
