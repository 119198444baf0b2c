-- Places and activities.
use Rattle.std.specs.Prelude.{ℕ, Bool, false, cond, ◌&&◌, ◌||◌, bytes_eq, codes, List, [], ◌∷◌, Ok, Option, Some, None}
use Rattle.san_lex.specs.declared.keyword.Keyword.TheVariants as keyword
use Rattle.san_lex.specs.declared.sign.Mark.TheVariants as mark
use Rattle.san_lex.specs.Lexer.{Word}
use Rattle.san_text.specs.declared.syntax.Ast.{Ast}
use Rattle.san_text.specs.declared.syntax.StmtDecl.{StmtDecl}
use Rattle.san_text.specs.declared.syntax.PlaceDecl.{PlaceDecl}
use Rattle.san_text.specs.declared.syntax.ActDecl.{ActDecl}
use Rattle.san_text.specs.declared.syntax.Timing.{Timing}
use Rattle.san_text.specs.declared.syntax.InputDecl.{InputDecl}
use Rattle.san_text.specs.declared.syntax.InputDecl.TheVariants as input
use Rattle.san_text.specs.declared.syntax.OutputDecl.{OutputDecl}
use Rattle.san_text.specs.declared.syntax.OutputDecl.TheVariants as output
use Rattle.san_text.specs.declared.syntax.Cases.{Cases}
use Rattle.san_text.specs.declared.syntax.Cases.TheVariants as cases
use Rattle.san_text.specs.declared.syntax.CaseDecl.{CaseDecl}
use Rattle.san_text.specs.declared.syntax.DistDecl.{DistDecl}
use Rattle.san_text.specs.declared.syntax.DistDecl.TheVariants as dist
use Rattle.san_text.specs.declared.limits.TheConstants.{ACTIVITY_BRACES, CASE_BRACES}
use Rattle.san_text.specs.Words.{tail, name_of, has_arrays, has_priorities}
use Rattle.san_text.specs.Steps.{Reading, ◌>>=◌, name_at, number_at, mark_at, keyword_at, next_mark, next_keyword, all_of, gathered, number_or_none}
use Rattle.san_text.specs.Expressions.{expr}
use Rattle.san_text.specs.Statements.{block}

-- [ "[" INT "]" ]
unfoldable pub length_at : ℕ → Reading (Option ℕ)
length_at version ws = cond (has_arrays version && next_mark mark.OpenBracket ws) (number_at (tail ws) >>= λ n. mark_at mark.CloseBracket n.1 >>= λ r. Ok (Some n.0, r)) (Ok (None, ws))

-- [ "=" INT ]
unfoldable pub initial_at : Reading (Option ℕ)
initial_at ws = cond (next_mark mark.Equals ws) (number_at (tail ws) >>= λ n. Ok (Some n.0, n.1)) (Ok (None, ws))

-- "place" NAME [ "[" INT "]" ] [ "=" INT ] ";"
unfoldable pub place_at : ℕ → Reading PlaceDecl
place_at version ws = keyword_at keyword.Place ws >>= λ p. name_at p >>= λ n. length_at version n.1 >>= λ l. initial_at l.1 >>= λ i. mark_at mark.Semicolon i.1 >>= λ r. Ok (record { name = n.0; length = l.0; initial = i.0 }, r)

-- NAME [ INT ] ";"
unfoldable pub arc_at : Reading (List ℕ × Option ℕ)
arc_at ws = name_at ws >>= λ n. number_or_none n.1 >>= λ w. mark_at mark.Semicolon w.1 >>= λ r. Ok ((n.0, w.0), r)

-- ";" | "do" block
unfoldable pub function_at : ℕ → Reading (List StmtDecl)
function_at version ws = cond (next_mark mark.Semicolon ws) (Ok ([], tail ws)) (keyword_at keyword.Do ws >>= λ d. block version ACTIVITY_BRACES d)

-- input: "in" NAME [ INT ] ";" | "gate" expr ( ";" | "do" block )
unfoldable pub input_arc : Reading InputDecl
input_arc ws = arc_at ws >>= λ a. Ok (input.Arc a.0.0 a.0.1, a.1)

unfoldable pub gate_at : ℕ → Reading InputDecl
gate_at version ws = keyword_at keyword.Gate ws >>= λ g. expr version g >>= λ e. function_at version e.1 >>= λ b. Ok (input.Gate e.0 b.0, b.1)

unfoldable pub input_at : ℕ → Reading InputDecl
input_at version ws = cond (next_keyword keyword.In ws) (input_arc (tail ws)) (gate_at version ws)

unfoldable pub starts_input : List Word → Bool
starts_input ws = next_keyword keyword.In ws || next_keyword keyword.Gate ws

-- output: "out" NAME [ INT ] ";" | "do" block
unfoldable pub output_arc : Reading OutputDecl
output_arc ws = arc_at ws >>= λ a. Ok (output.Arc a.0.0 a.0.1, a.1)

unfoldable pub body_at : ℕ → ℕ → Reading OutputDecl
body_at version braces ws = keyword_at keyword.Do ws >>= λ d. block version braces d >>= λ b. Ok (output.Body b.0, b.1)

unfoldable pub output_at : ℕ → ℕ → Reading OutputDecl
output_at version braces ws = cond (next_keyword keyword.Out ws) (output_arc (tail ws)) (body_at version braces ws)

unfoldable pub starts_output : List Word → Bool
starts_output ws = next_keyword keyword.Out ws || next_keyword keyword.Do ws

-- case: "case" expr "{" { output } "}"
unfoldable pub case_at : ℕ → Reading CaseDecl
case_at version ws = keyword_at keyword.Case ws >>= λ c. expr version c >>= λ e. mark_at mark.OpenBrace e.1 >>= λ b. all_of starts_output (output_at version CASE_BRACES) b >>= λ o. mark_at mark.CloseBrace o.1 >>= λ r. Ok (record { weight = e.0; outputs = o.0 }, r)

-- cases: case { case } | { output }
unfoldable pub weighted_at : ℕ → Reading Cases
weighted_at version ws = all_of (next_keyword keyword.Case) (case_at version) ws >>= λ c. Ok (cases.Weighted c.0, c.1)

unfoldable pub plain_at : ℕ → Reading Cases
plain_at version ws = all_of starts_output (output_at version ACTIVITY_BRACES) ws >>= λ o. Ok (cases.Plain o.0, o.1)

unfoldable pub cases_at : ℕ → Reading Cases
cases_at version ws = cond (next_keyword keyword.Case ws) (weighted_at version ws) (plain_at version ws)

-- INT ":" INT
unfoldable pub entry_at : Reading (ℕ × ℕ)
entry_at ws = number_at ws >>= λ d. mark_at mark.Colon d.1 >>= λ c. number_at c >>= λ w. Ok ((d.0, w.0), w.1)

-- "," INT ":" INT
unfoldable pub more_entry : Reading (ℕ × ℕ)
more_entry ws = entry_at (tail ws)

-- INT ":" INT { "," INT ":" INT }
unfoldable pub entries_at : Reading (List (ℕ × ℕ))
entries_at ws = entry_at ws >>= λ x. gathered (x.0 ∷ []) (all_of (next_mark mark.Comma) more_entry x.1)

-- dist: "det" expr | "uniform" expr "," expr | "geom" INT INT | "table" INT ":" INT { "," INT ":" INT }
unfoldable pub det_at : ℕ → Reading DistDecl
det_at version ws = expr version ws >>= λ e. Ok (dist.Det e.0, e.1)

unfoldable pub uniform_at : ℕ → Reading DistDecl
uniform_at version ws = expr version ws >>= λ a. mark_at mark.Comma a.1 >>= λ c. expr version c >>= λ b. Ok (dist.Uniform a.0 b.0, b.1)

unfoldable pub geom_at : Reading DistDecl
geom_at ws = number_at ws >>= λ p. number_at p.1 >>= λ q. Ok (dist.Geom p.0 q.0, q.1)

unfoldable pub table_at : Reading DistDecl
table_at ws = keyword_at keyword.Table ws >>= λ t. entries_at t >>= λ e. Ok (dist.Table e.0, e.1)

unfoldable pub dist_at : ℕ → Reading DistDecl
dist_at version ws =
    cond (next_keyword keyword.Det ws) (det_at version (tail ws))
    (cond (next_keyword keyword.Uniform ws) (uniform_at version (tail ws))
    (cond (next_keyword keyword.Geom ws) (geom_at (tail ws)) (table_at ws)))

-- expr "," expr ";"
unfoldable pub react_at : ℕ → Reading (Ast × Ast)
react_at version ws = expr version ws >>= λ a. mark_at mark.Comma a.1 >>= λ c. expr version c >>= λ b. mark_at mark.Semicolon b.1 >>= λ r. Ok ((a.0, b.0), r)

-- [ "react" expr "," expr ";" ]
unfoldable pub pair_at : ℕ → Reading (Option (Ast × Ast))
pair_at version ws = cond (next_keyword keyword.React ws) (react_at version (tail ws) >>= λ p. Ok (Some p.0, p.1)) (Ok (None, ws))

-- "delay" dist ";" [ react ]
unfoldable pub timing_at : ℕ → Reading Timing
timing_at version ws = keyword_at keyword.Delay ws >>= λ d. dist_at version d >>= λ x. mark_at mark.Semicolon x.1 >>= λ s. pair_at version s >>= λ p. Ok (record { delay = x.0; pair = p.0 }, p.1)

-- "timed" NAME "{" { input } "delay" dist ";" [ react ] cases "}"
unfoldable pub timed_at : ℕ → Reading ActDecl
timed_at version ws = name_at ws >>= λ n. mark_at mark.OpenBrace n.1 >>= λ b. all_of starts_input (input_at version) b >>= λ i. timing_at version i.1 >>= λ t. cases_at version t.1 >>= λ c. mark_at mark.CloseBrace c.1 >>= λ r.
    Ok (record { name = n.0; priority = None; inputs = i.0; timing = Some t.0; cases = c.0 }, r)

abbrev pub is_called : List ℕ → Option (List ℕ) → Bool
is_called name (Some s) = bytes_eq s name
is_called name None = false

-- [ "priority" INT ], where `priority` is a name
unfoldable pub priority_at : ℕ → Reading (Option ℕ)
priority_at version ws = cond (has_priorities version && is_called (codes "priority") (name_of ws)) (number_at (tail ws) >>= λ n. Ok (Some n.0, n.1)) (Ok (None, ws))

-- "instant" NAME [ "priority" INT ] "{" { input } cases "}"
unfoldable pub instant_at : ℕ → Reading ActDecl
instant_at version ws = keyword_at keyword.Instant ws >>= λ k. name_at k >>= λ n. priority_at version n.1 >>= λ p. mark_at mark.OpenBrace p.1 >>= λ b. all_of starts_input (input_at version) b >>= λ i. cases_at version i.1 >>= λ c. mark_at mark.CloseBrace c.1 >>= λ r.
    Ok (record { name = n.0; priority = p.0; inputs = i.0; timing = None; cases = c.0 }, r)

-- timed | instant
unfoldable pub act_at : ℕ → Reading ActDecl
act_at version ws = cond (next_keyword keyword.Timed ws) (timed_at version (tail ws)) (instant_at version ws)

unfoldable pub starts_act : List Word → Bool
starts_act ws = next_keyword keyword.Timed ws || next_keyword keyword.Instant ws
