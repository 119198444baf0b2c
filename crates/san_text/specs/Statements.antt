-- Statements and blocks.
use Rattle.std.specs.Prelude.{ℕ, zero, suc, Bool, true, false, cond, ◌&&◌, ◌||◌, List, [], length, Ok, Err, Option, Some, None}
use Rattle.san_lex.specs.declared.keyword.Keyword.TheVariants as keyword
use Rattle.san_lex.specs.declared.sign.Mark.TheVariants as mark
use Rattle.san_lex.specs.declared.sign.Sign.TheVariants as sign
use Rattle.san_lex.specs.Lexer.{Word}
use Rattle.san_text.specs.declared.syntax.StmtDecl.{StmtDecl}
use Rattle.san_text.specs.declared.syntax.StmtDecl.TheViews as stmt
use Rattle.san_text.specs.declared.syntax.StmtDecl.TheVariants as plain
use Rattle.san_text.specs.Words.{is_next, tail, name_of, has_arrays}
use Rattle.san_text.specs.Steps.{Illegal, Deep, Reading, ◌>>=◌, sign_at, many}
use Rattle.san_text.specs.Expressions.{expr}

-- "[" expr "]" "=" expr ";"
unfoldable pub set_cell : ℕ → List ℕ → Reading StmtDecl
set_cell version s ws = sign_at (sign.Mark mark.OpenBracket) ws >>= λ bs. expr version bs >>= λ i. sign_at (sign.Mark mark.CloseBracket) i.1 >>= λ us. sign_at (sign.Mark mark.Equals) us >>= λ vs. expr version vs >>= λ x.
    sign_at (sign.Mark mark.Semicolon) x.1 >>= λ r. Ok (plain.SetCell s i.0 x.0, r)

-- "=" expr ";"
unfoldable pub set_plain : ℕ → List ℕ → Reading StmtDecl
set_plain version s ws = sign_at (sign.Mark mark.Equals) ws >>= λ vs. expr version vs >>= λ x. sign_at (sign.Mark mark.Semicolon) x.1 >>= λ r. Ok (plain.Set s x.0, r)

unfoldable pub set_at : ℕ → List ℕ → Reading StmtDecl
set_at version s ws = cond (has_arrays version && is_next (sign.Mark mark.OpenBracket) ws) (set_cell version s ws) (set_plain version s ws)

abbrev pub Body : Type 0
Body = Reading (List StmtDecl)

-- [ "else" block ]
unfoldable pub otherwise : Body → Body
otherwise body ws = cond (is_next (sign.Keyword keyword.Else) ws) (body (tail ws)) (Ok ([], ws))

-- expr block [ "else" block ]
unfoldable pub if_at : ℕ → Body → Reading StmtDecl
if_at version body ws = expr version ws >>= λ e. body e.1 >>= λ b. otherwise body b.1 >>= λ c. Ok (stmt.If e.0 b.0 c.0, c.1)

-- stmt: by the first word, where it is a name
unfoldable pub stmt_by : ℕ → Body → Option (List ℕ) → Reading StmtDecl
stmt_by version body (Some s) ws = set_at version s (tail ws)
stmt_by version body None ws = cond (is_next (sign.Keyword keyword.If) ws) (if_at version body (tail ws)) (Err (Illegal (length ws)))

abbrev pub stmt_at : ℕ → Body → Reading StmtDecl
stmt_at version body ws = stmt_by version body (name_of ws) ws

abbrev pub is_name : Option (List ℕ) → Bool
is_name (Some s) = true
is_name None = false

unfoldable pub starts_stmt : List Word → Bool
starts_stmt ws = is_name (name_of ws) || is_next (sign.Keyword keyword.If) ws

-- { stmt } "}"
unfoldable pub inner : ℕ → Body → Body
inner version body ws = many starts_stmt (stmt_at version body) (length ws) ws >>= λ x. sign_at (sign.Mark mark.CloseBrace) x.1 >>= λ r. Ok (x.0, r)

-- block, where so many more braces may be open
unfoldable pub block : ℕ → ℕ → Body
block version zero ws = cond (is_next (sign.Mark mark.OpenBrace) ws) (Err (Deep (length ws))) (Err (Illegal (length ws)))
block version (suc n) ws = sign_at (sign.Mark mark.OpenBrace) ws >>= λ vs. inner version (block version n) vs
