-- Activities.
use Rattle.std.specs.Prelude.{ℕ, ◌+◌, Bool, ◌||◌, ◌&&◌, nat_eq, nat_le, nat_lt, List, [], ◌∷◌, ◌++◌, length, map, min, Option, Some, None}
use Rattle.san_text.specs.declared.syntax.Ast.{Ast}
use Rattle.san_text.specs.declared.syntax.ActDecl.{ActDecl}
use Rattle.san_text.specs.declared.syntax.Timing.{Timing}
use Rattle.san_text.specs.declared.syntax.InputDecl.{InputDecl}
use Rattle.san_text.specs.declared.syntax.InputDecl.TheVariants as input
use Rattle.san_text.specs.declared.syntax.OutputDecl.{OutputDecl}
use Rattle.san_text.specs.declared.syntax.OutputDecl.TheVariants as output
use Rattle.san_text.specs.declared.syntax.Cases.{Cases}
use Rattle.san_text.specs.declared.syntax.Cases.TheVariants as cases
use Rattle.san_text.specs.declared.syntax.CaseDecl.{CaseDecl}
use Rattle.san_text.specs.declared.syntax.DistDecl.{DistDecl}
use Rattle.san_text.specs.declared.syntax.DistDecl.TheVariants as dist
use Rattle.san_check.specs.declared.codes.TheConstants.{NAME_TAKEN, ARC_WEIGHT, GEOMETRIC_CHANCE, TABLE_DELAY, WEIGHTS_TOO_LARGE, WEIGHTS_ARE_ZERO, TOO_MANY_ACTS, TOO_MANY_ENTRIES, PRIORITY_TOO_LARGE}
use Rattle.san_check.specs.declared.limits.TheConstants.{MAX_ENTRIES, MAX_GEOMETRIC}
use Rattle.san_net.specs.declared.atomic.TheConstants.{MAX_ATOMIC_ACTS}
use Rattle.san_base.specs.declared.limits.TheConstants.{MAX_DELAY, MAX_PRIORITY, MAX_TOKENS, MAX_WEIGHT}
use Rattle.san_check.specs.Tables.{Table, is_known}
use Rattle.san_check.specs.walk.Entries.{Entries, code, ◌else◌, joined}
use Rattle.san_check.specs.walk.Expression.{Places, whole, expr_entries, stmts_entries}

abbrev pub is_outside : ℕ → ℕ → ℕ → Bool
is_outside n least most = nat_lt n least || nat_lt most n

-- a weight, where it is written
unfoldable pub weight_entries : Option ℕ → Entries
weight_entries None = []
weight_entries (Some weight) = code ARC_WEIGHT (is_outside weight 1 MAX_TOKENS) ∷ []

unfoldable pub arc_entries : Places → List ℕ → Option ℕ → Entries
arc_entries places name weight = whole places name ∷ weight_entries weight

unfoldable pub input_entries : Places → InputDecl → Entries
input_entries places (input.Arc name weight) = arc_entries places name weight
input_entries places (input.Gate e body) = expr_entries places e ++ stmts_entries places body

unfoldable pub output_entries : Places → OutputDecl → Entries
output_entries places (output.Arc name weight) = arc_entries places name weight
output_entries places (output.Body body) = stmts_entries places body

abbrev pub outputs_entries : Places → List OutputDecl → Entries
outputs_entries places outputs = joined (map (output_entries places) outputs)

unfoldable pub case_entries : Places → CaseDecl → Entries
case_entries places c = expr_entries places c.weight ++ outputs_entries places c.outputs

unfoldable pub cases_entries : Places → Cases → Entries
cases_entries places (cases.Plain outputs) = outputs_entries places outputs
cases_entries places (cases.Weighted list) = joined (map (case_entries places) list)

-- the delay of a table's entry behind n others
unfoldable pub delay_code : ℕ → ℕ → Option ℕ
delay_code n delay = code TABLE_DELAY (is_outside delay 1 MAX_DELAY) else code TOO_MANY_ENTRIES (nat_le MAX_ENTRIES n)

-- its weight, which makes the sum of the weights so far what it is, where so many entries follow
unfoldable pub weight_code : ℕ → ℕ → Option ℕ
weight_code sum more = code WEIGHTS_TOO_LARGE (nat_lt MAX_WEIGHT sum) else code WEIGHTS_ARE_ZERO (nat_eq more 0 && nat_eq sum 0)

-- sums that are too large are all counted as one
abbrev pub summed : ℕ → ℕ → ℕ
summed sum weight = min (sum + weight) (MAX_WEIGHT + 1)

-- a delay and its weight, behind n others, whose weights have this sum, and before so many more
abbrev pub choice_entries : ℕ → ℕ → ℕ → ℕ × ℕ → Entries
choice_entries n sum more e = delay_code n e.0 ∷ (weight_code (summed sum e.1) more ∷ [])

-- those behind n others, whose weights have this sum
abbrev pub table_entries : ℕ → ℕ → List (ℕ × ℕ) → Entries
table_entries n sum [] = []
table_entries n sum (e ∷ es) = choice_entries n sum (length es) e ++ table_entries (n + 1) (summed sum e.1) es

unfoldable pub dist_entries : Places → DistDecl → Entries
dist_entries places (dist.Det e) = expr_entries places e
dist_entries places (dist.Uniform a b) = expr_entries places a ++ expr_entries places b
dist_entries places (dist.Geom p q) = code GEOMETRIC_CHANCE (is_outside p 1 MAX_GEOMETRIC) ∷ (code GEOMETRIC_CHANCE (is_outside q p MAX_GEOMETRIC) ∷ [])
dist_entries places (dist.Table es) = table_entries 0 0 es

unfoldable pub pair_entries : Places → Option (Ast × Ast) → Entries
pair_entries places None = []
pair_entries places (Some pair) = expr_entries places pair.0 ++ expr_entries places pair.1

unfoldable pub timing_entries : Places → Option Timing → Entries
timing_entries places None = []
timing_entries places (Some timing) = dist_entries places timing.delay ++ pair_entries places timing.pair

unfoldable pub priority_entries : Option ℕ → Entries
priority_entries None = []
priority_entries (Some priority) = code PRIORITY_TOO_LARGE (nat_lt MAX_PRIORITY priority) ∷ []

-- only an instantaneous activity has a priority
abbrev pub front_entries : Option Timing → Option ℕ → Entries
front_entries None priority = priority_entries priority
front_entries (Some timing) priority = []

abbrev pub ActNames : Type 0
ActNames = Table (Unit {0})

-- the name of an activity behind n others
unfoldable pub act_code : Places → ActNames → ℕ → List ℕ → Option ℕ
act_code places acts n name = code NAME_TAKEN (is_known places name || is_known acts name) else code TOO_MANY_ACTS (nat_le MAX_ATOMIC_ACTS n)

-- an activity behind its name
unfoldable pub act_entries : Places → ActDecl → Entries
act_entries places act = front_entries act.timing act.priority ++ (joined (map (input_entries places) act.inputs) ++ (timing_entries places act.timing ++ cases_entries places act.cases))
