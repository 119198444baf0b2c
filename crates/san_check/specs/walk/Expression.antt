-- Place names, expressions and statements.
use Rattle.std.specs.Prelude.{ℕ, Bool, false, cond, not, List, [], ◌∷◌, ◌++◌, map, min, Option, Some, None, is_some}
use Rattle.san_text.specs.declared.syntax.Ast.{Ast}
use Rattle.san_text.specs.declared.syntax.Ast.TheOpen.{Ast-F}
use Rattle.san_text.specs.declared.syntax.Ast.TheFolds.{fold-Ast}
use Rattle.san_text.specs.declared.syntax.StmtDecl.{StmtDecl}
use Rattle.san_text.specs.declared.syntax.StmtDecl.TheOpen.{StmtDecl-F}
use Rattle.san_text.specs.declared.syntax.StmtDecl.TheFolds.{fold-StmtDecl}
use Rattle.san_check.specs.declared.codes.TheConstants.{UNKNOWN_PLACE, TOO_MANY_TERMS, INDEX_MISMATCH}
use Rattle.san_check.specs.declared.place.Place.{Place}
use Rattle.san_check.specs.Tables.{Table, found, is_known}
use Rattle.san_check.specs.walk.Entries.{Entries, code, ◌else◌, joined}

-- the places that an atomic declares, or that a model shows
abbrev pub Places : Type 0
Places = Table Place

abbrev pub is_array : Option Place → Bool
is_array None = false
is_array (Some place) = is_some place.length

-- a place name without an index
unfoldable pub whole : Places → List ℕ → Option ℕ
whole places name = code UNKNOWN_PLACE (not (is_known places name)) else code INDEX_MISMATCH (is_array (found places name))

-- a place name with an index
unfoldable pub element : Places → List ℕ → Option ℕ
element places name = code UNKNOWN_PLACE (not (is_known places name)) else code INDEX_MISMATCH (not (is_array (found places name)))

abbrev pub least : Option ℕ → ℕ → ℕ
least None n = n
least (Some m) n = min m n

-- the entry of a word; the first word of a reward's 17th term, or a later one, is `late`
unfoldable pub entry : Bool → Option ℕ → Option ℕ
entry late found = cond late (Some (least found TOO_MANY_TERMS)) found

abbrev pub expr_step : Places → Ast-F (Bool → Entries) → Bool → Entries
expr_step places (Ast-F.Number n) late = entry late None ∷ []
expr_step places (Ast-F.Name name) late = entry late (whole places name) ∷ []
expr_step places (Ast-F.Cell name index) late = entry late (element places name) ∷ index false
expr_step places (Ast-F.Neg a) late = a late
expr_step places (Ast-F.Not a) late = a late
expr_step places (Ast-F.Binary op a b) late = a late ++ b false
expr_step places (Ast-F.Group a) late = a late

-- an expression, whose first word may be late
abbrev pub first_entries : Places → Ast → Bool → Entries
first_entries places = fold-Ast (Bool → Entries) (expr_step places)

abbrev pub expr_entries : Places → Ast → Entries
expr_entries places e = first_entries places e false

abbrev pub stmt_step : Places → StmtDecl-F Entries → Entries
stmt_step places (StmtDecl-F.Set name e) = whole places name ∷ expr_entries places e
stmt_step places (StmtDecl-F.SetCell name index e) = element places name ∷ (expr_entries places index ++ expr_entries places e)
stmt_step places (StmtDecl-F.If e then_body else_body) = expr_entries places e ++ (joined then_body ++ joined else_body)

abbrev pub stmt_entries : Places → StmtDecl → Entries
stmt_entries places = fold-StmtDecl Entries (stmt_step places)

abbrev pub stmts_entries : Places → List StmtDecl → Entries
stmts_entries places body = joined (map (stmt_entries places) body)
