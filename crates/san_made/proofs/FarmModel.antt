-- The words of a farm's text and its syntax.
use Rattle.std.proofs.Common.{ℕ, List, [], ◌∷◌, ◌++◌, Some, None, codes}
use Rattle.san_base.specs.declared.op.Op.TheVariants as op
use Rattle.san_lex.specs.declared.keyword.Keyword.TheVariants as keyword
use Rattle.san_lex.specs.declared.sign.Mark.TheVariants as mark
use Rattle.san_lex.specs.declared.sign.Sign.TheVariants as sign
use Rattle.san_lex.specs.Lexer.{Fixed, Name, Number, Word}
use Rattle.san_text.specs.declared.syntax.ActDecl.{ActDecl}
use Rattle.san_text.specs.declared.syntax.Ast.{Ast}
use Rattle.san_text.specs.declared.syntax.Ast.TheVariants as ast
use Rattle.san_text.specs.declared.syntax.Cases.TheVariants as cases
use Rattle.san_text.specs.declared.syntax.ChildDecl.{ChildDecl}
use Rattle.san_text.specs.declared.syntax.DistDecl.TheVariants as dist
use Rattle.san_text.specs.declared.syntax.InputDecl.TheVariants as input
use Rattle.san_text.specs.declared.syntax.ModelDecl.{ModelDecl}
use Rattle.san_text.specs.declared.syntax.ModelDecl.TheVariants as model
use Rattle.san_text.specs.declared.syntax.OutputDecl.TheVariants as output
use Rattle.san_text.specs.declared.syntax.PlaceDecl.{PlaceDecl}
use Rattle.san_text.specs.declared.syntax.RewardDecl.{RewardDecl}
use Rattle.san_text.specs.declared.syntax.ShareDecl.{ShareDecl}
use Rattle.san_text.specs.declared.syntax.SpanDecl.TheVariants as span
use Rattle.san_text.specs.declared.syntax.TermDecl.TheVariants as term
use Rattle.san_text.specs.declared.syntax.Syntax.{Syntax}
use Rattle.san_made.proofs.RingWords.{right_brace, equals, key, mk, left_brace, semi}

-- before the line with the number of copies
abbrev pub atomic_words : List Word
atomic_words =
    key keyword.San ∷ Number 1 ∷ semi
    ∷ key keyword.Atomic ∷ Name (codes "cpu") ∷ left_brace
    ∷ key keyword.Place ∷ Name (codes "up") ∷ equals ∷ Number 1 ∷ semi
    ∷ key keyword.Place ∷ Name (codes "failed") ∷ semi
    ∷ key keyword.Place ∷ Name (codes "mended") ∷ semi
    ∷ key keyword.Timed ∷ Name (codes "fail") ∷ left_brace
    ∷ key keyword.In ∷ Name (codes "up") ∷ semi
    ∷ key keyword.Delay ∷ key keyword.Geom ∷ Number 1 ∷ Number 50 ∷ semi
    ∷ key keyword.Out ∷ Name (codes "failed") ∷ semi
    ∷ right_brace
    ∷ key keyword.Instant ∷ Name (codes "start") ∷ left_brace
    ∷ key keyword.Gate ∷ Name (codes "up") ∷ Fixed (sign.Operator op.Eq) ∷ Number 0 ∷ semi
    ∷ key keyword.In ∷ Name (codes "mended") ∷ semi
    ∷ key keyword.Out ∷ Name (codes "up") ∷ semi
    ∷ right_brace
    ∷ right_brace
    ∷ key keyword.Atomic ∷ Name (codes "crew") ∷ left_brace
    ∷ key keyword.Place ∷ Name (codes "failed") ∷ semi
    ∷ key keyword.Place ∷ Name (codes "mended") ∷ semi
    ∷ key keyword.Timed ∷ Name (codes "fix") ∷ left_brace
    ∷ key keyword.In ∷ Name (codes "failed") ∷ semi
    ∷ key keyword.Delay ∷ key keyword.Uniform ∷ Number 1 ∷ mk mark.Comma ∷ Number 4 ∷ semi
    ∷ key keyword.Out ∷ Name (codes "mended") ∷ semi
    ∷ right_brace
    ∷ right_brace
    ∷ []

-- that line, up to its brace
abbrev pub copies_words : ℕ → List Word
copies_words n = key keyword.Rep ∷ Name (codes "cpus") ∷ equals ∷ Name (codes "cpu") ∷ key keyword.Times ∷ Number n ∷ left_brace ∷ []

-- behind the brace
abbrev pub farm_end_words : List Word
farm_end_words =
    key keyword.Share ∷ Name (codes "failed") ∷ semi
    ∷ key keyword.Share ∷ Name (codes "mended") ∷ semi
    ∷ right_brace
    ∷ key keyword.Join ∷ Name (codes "farm") ∷ left_brace
    ∷ key keyword.Child ∷ Name (codes "cpus") ∷ equals ∷ Name (codes "cpus") ∷ semi
    ∷ key keyword.Child ∷ Name (codes "crew") ∷ equals ∷ Name (codes "crew") ∷ semi
    ∷ key keyword.Share ∷ Name (codes "failed") ∷ equals
    ∷ Name (codes "cpus") ∷ mk mark.Dot ∷ Name (codes "failed") ∷ mk mark.Comma ∷ Name (codes "crew") ∷ mk mark.Dot ∷ Name (codes "failed") ∷ semi
    ∷ key keyword.Share ∷ Name (codes "mended") ∷ equals
    ∷ Name (codes "cpus") ∷ mk mark.Dot ∷ Name (codes "mended") ∷ mk mark.Comma ∷ Name (codes "crew") ∷ mk mark.Dot ∷ Name (codes "mended") ∷ semi
    ∷ right_brace
    ∷ key keyword.System ∷ Name (codes "farm") ∷ semi
    ∷ key keyword.Reward ∷ Name (codes "down") ∷ key keyword.On ∷ Name (codes "cpu") ∷ key keyword.Over ∷ Number 0 ∷ Number 1000 ∷ left_brace
    ∷ key keyword.Rate ∷ Number 1 ∷ Fixed (sign.Operator op.Sub) ∷ Name (codes "up") ∷ semi
    ∷ key keyword.Impulse ∷ Name (codes "fail") ∷ Number 3 ∷ semi
    ∷ right_brace
    ∷ key keyword.Reward ∷ Name (codes "queue") ∷ key keyword.On ∷ Name (codes "crew") ∷ key keyword.Mean ∷ Number 0 ∷ Number 1000 ∷ left_brace
    ∷ key keyword.Rate ∷ Name (codes "failed") ∷ semi
    ∷ right_brace
    ∷ []

abbrev pub farm_words : ℕ → List Word
farm_words n = atomic_words ++ (copies_words n ++ farm_end_words)

abbrev pub empty_place : List ℕ → PlaceDecl
empty_place name = record { name = name; length = None; initial = None }

abbrev pub cpu_places : List PlaceDecl
cpu_places = record { name = codes "up"; length = None; initial = Some 1 } ∷ empty_place (codes "failed") ∷ empty_place (codes "mended") ∷ []

abbrev pub fail_act : ActDecl
fail_act = record { name = codes "fail"; priority = None; inputs = input.Arc (codes "up") None ∷ []; timing = Some (record { delay = dist.Geom 1 50; pair = None }); cases = cases.Plain (output.Arc (codes "failed") None ∷ []) }

-- whether the processor is down
abbrev pub is_down : Ast
is_down = ast.Binary op.Eq (ast.Name (codes "up")) (ast.Number 0)

abbrev pub start_act : ActDecl
start_act = record { name = codes "start"; priority = None; inputs = input.Gate is_down [] ∷ input.Arc (codes "mended") None ∷ []; timing = None; cases = cases.Plain (output.Arc (codes "up") None ∷ []) }

abbrev pub cpu : ModelDecl
cpu = model.Atomic (codes "cpu") cpu_places (fail_act ∷ start_act ∷ [])

abbrev pub crew_places : List PlaceDecl
crew_places = empty_place (codes "failed") ∷ empty_place (codes "mended") ∷ []

abbrev pub fix_act : ActDecl
fix_act = record { name = codes "fix"; priority = None; inputs = input.Arc (codes "failed") None ∷ []; timing = Some (record { delay = dist.Uniform (ast.Number 1) (ast.Number 4); pair = None }); cases = cases.Plain (output.Arc (codes "mended") None ∷ []) }

abbrev pub crew : ModelDecl
crew = model.Atomic (codes "crew") crew_places (fix_act ∷ [])

abbrev pub cpus : ℕ → ModelDecl
cpus n = model.Rep (codes "cpus") (codes "cpu") n (codes "failed" ∷ codes "mended" ∷ [])

-- a place that the processors and the crew have in common
abbrev pub common : List ℕ → ShareDecl
common name = record { name = name; parts = (codes "cpus", name) ∷ (codes "crew", name) ∷ [] }

abbrev pub same_child : List ℕ → ChildDecl
same_child name = record { name = name; of = name }

abbrev pub farm : ModelDecl
farm = model.Join (codes "farm") (same_child (codes "cpus") ∷ same_child (codes "crew") ∷ []) (common (codes "failed") ∷ common (codes "mended") ∷ [])

-- how many processors are down
abbrev pub down_rate : Ast
down_rate = ast.Binary op.Sub (ast.Number 1) (ast.Name (codes "up"))

abbrev pub down : RewardDecl
down = record { name = codes "down"; atomic = codes "cpu"; span = span.Over 0 1000; terms = term.Rate down_rate ∷ term.Impulse (codes "fail") (ast.Number 3) ∷ [] }

abbrev pub queue : RewardDecl
queue = record { name = codes "queue"; atomic = codes "crew"; span = span.Mean 0 1000; terms = term.Rate (ast.Name (codes "failed")) ∷ [] }

abbrev pub farm_syntax : ℕ → Syntax
farm_syntax n = record { version = 1; models = cpu ∷ crew ∷ cpus n ∷ farm ∷ []; system = codes "farm"; rewards = down ∷ queue ∷ [] }
