-- What the completion of an activity makes of a marking: the case that it chose, or the trap that ends it.
use Rattle.std.specs.Prelude.{ℕ, pos, ◌+ℤ◌, ◌-ℤ◌, List, [], map, slice_get, Option, Some, None, Ok}
use Rattle.san_expr.specs.Effect.{Acts, assign_at, effects_of, in_turn}
use Rattle.san_expr.specs.Meaning.{Meaning, settled, then_do, value_at}
use Rattle.san_net.specs.Choice.{case_of}
use Rattle.san_net.specs.declared.activity.Input.{Input}
use Rattle.san_net.specs.declared.activity.Input.TheVariants as input
use Rattle.san_net.specs.declared.activity.Output.{Output}
use Rattle.san_net.specs.declared.activity.Output.TheVariants as output
use Rattle.san_net.specs.declared.activity.Case.{Case}
use Rattle.san_net.specs.declared.activity.Activity.{Activity}

abbrev pub taken_from : ℕ → ℕ → Acts
taken_from p w = then_do (value_at p) (λ x. assign_at p (x -ℤ pos w))

abbrev pub added_to : ℕ → ℕ → Acts
added_to p w = then_do (value_at p) (λ x. assign_at p (x +ℤ pos w))

abbrev pub function_of : Input → Acts
function_of (input.Arc p w) = taken_from p w
function_of (input.Gate e body) = effects_of body

abbrev pub output_of : Output → Acts
output_of (output.Arc p w) = added_to p w
output_of (output.Body body) = effects_of body

abbrev pub inputs_of : List Input → Acts
inputs_of inputs = in_turn (map function_of inputs)

abbrev pub outputs_of : List Output → Acts
outputs_of outputs = in_turn (map output_of outputs)

abbrev pub outputs_by : Option Case → List Output
outputs_by None = []
outputs_by (Some c) = c.outputs

-- the outputs of a case by number
abbrev pub case_outputs : List Case → ℕ → List Output
case_outputs cases k = outputs_by (slice_get cases k)

-- the weights and the choice, then the input functions, then the outputs of the chosen case
abbrev pub completed_by : ℕ → List Input → List Case → Meaning ℕ
completed_by u inputs cases =
    then_do (case_of u cases) (λ k. then_do (inputs_of inputs) (λ _. then_do (outputs_of (case_outputs cases k)) (λ _. settled (Ok k))))

abbrev pub completion_of : ℕ → Activity → Meaning ℕ
completion_of u a = completed_by u a.inputs a.cases
