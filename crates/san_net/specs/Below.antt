-- Every cell of an activity is below a number.
use Rattle.std.specs.Prelude.{ℕ, nat_lt, true, ◌&&◌, List, map, Some, None}
use Rattle.san_expr.specs.Below.{Bounded, all_below, dist_below, places_below, stmts_below}
use Rattle.san_net.specs.declared.activity.Input.{Input}
use Rattle.san_net.specs.declared.activity.Input.TheVariants as input
use Rattle.san_net.specs.declared.activity.Output.{Output}
use Rattle.san_net.specs.declared.activity.Output.TheVariants as output
use Rattle.san_net.specs.declared.activity.Case.{Case}
use Rattle.san_net.specs.declared.activity.ActKind.{ActKind}
use Rattle.san_net.specs.declared.activity.ActKind.TheVariants as kind
use Rattle.san_net.specs.declared.activity.Activity.{Activity}

abbrev pub input_below : Input → Bounded
input_below (input.Arc p w) k = nat_lt p k
input_below (input.Gate e body) k = places_below e k && stmts_below body k

abbrev pub output_below : Output → Bounded
output_below (output.Arc p w) k = nat_lt p k
output_below (output.Body body) k = stmts_below body k

abbrev pub inputs_below : List Input → Bounded
inputs_below inputs = all_below (map input_below inputs)

abbrev pub outputs_below : List Output → Bounded
outputs_below outputs = all_below (map output_below outputs)

abbrev pub case_below : Case → Bounded
case_below c k = places_below c.weight k && outputs_below c.outputs k

abbrev pub cases_below : List Case → Bounded
cases_below cases = all_below (map case_below cases)

abbrev pub kind_below : ActKind → Bounded
kind_below (kind.Timed delay None) k = dist_below delay k
kind_below (kind.Timed delay (Some pair)) k = dist_below delay k && (places_below pair.0 k && places_below pair.1 k)
kind_below (kind.Instant priority) k = true

abbrev pub activity_below : Activity → Bounded
activity_below a k = kind_below a.kind k && (inputs_below a.inputs k && cases_below a.cases k)

-- of named activities
abbrev pub acts_below : List (List ℕ × Activity) → Bounded
acts_below acts = all_below (map (λ a. activity_below a.1) acts)
