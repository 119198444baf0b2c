-- The cells that an activity names in any marking: what its predicates look at, and what its completion has to do with.
use Rattle.std.specs.Prelude.{nat_eq, ◌||◌, map}
use Rattle.san_expr.specs.Mentions.{CellSet, any_of, mentions, stmts_mention}
use Rattle.san_net.specs.declared.activity.Input.{Input}
use Rattle.san_net.specs.declared.activity.Input.TheVariants as input
use Rattle.san_net.specs.declared.activity.Output.{Output}
use Rattle.san_net.specs.declared.activity.Output.TheVariants as output
use Rattle.san_net.specs.declared.activity.Case.{Case}
use Rattle.san_net.specs.declared.activity.Activity.{Activity}
use Rattle.san_net.specs.declared.atomic.Atomic.{Atomic}

abbrev pub predicate_mentions : Input → CellSet
predicate_mentions (input.Arc p w) q = nat_eq q p
predicate_mentions (input.Gate e body) q = mentions e q

abbrev pub function_mentions : Input → CellSet
function_mentions (input.Arc p w) q = nat_eq q p
function_mentions (input.Gate e body) q = stmts_mention body q

abbrev pub output_mentions : Output → CellSet
output_mentions (output.Arc p w) q = nat_eq q p
output_mentions (output.Body body) q = stmts_mention body q

abbrev pub case_mentions : Case → CellSet
case_mentions c q = mentions c.weight q || any_of (map output_mentions c.outputs) q

abbrev pub enabling_mentions : Activity → CellSet
enabling_mentions a = any_of (map predicate_mentions a.inputs)

abbrev pub completion_mentions : Activity → CellSet
completion_mentions a q = any_of (map function_mentions a.inputs) q || any_of (map case_mentions a.cases) q

-- what the predicates of all activities name
abbrev pub tests_mention : Atomic → CellSet
tests_mention a = any_of (map (λ x. enabling_mentions x.1) a.acts)
