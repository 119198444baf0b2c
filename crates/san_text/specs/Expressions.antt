-- Expressions: what words read as, and the first word that isn't legal.
use Rattle.std.specs.Prelude.{ℕ, zero, suc, Bool, true, false, cond, List, [], ◌∷◌, length, Result, Ok, Err, Option, Some, None}
use Rattle.san_base.specs.declared.op.Op.{Op}
use Rattle.san_base.specs.declared.op.Op.TheVariants as op
use Rattle.san_lex.specs.declared.sign.Mark.{Mark}
use Rattle.san_lex.specs.declared.sign.Mark.TheVariants as mark
use Rattle.san_lex.specs.declared.sign.Sign.{Sign}
use Rattle.san_lex.specs.declared.sign.Sign.TheVariants as sign
use Rattle.san_lex.specs.Lexer.{Word, Number, Name, Fixed}
use Rattle.san_text.specs.declared.syntax.Ast.{Ast}
use Rattle.san_text.specs.declared.syntax.Ast.TheViews as ast
use Rattle.san_text.specs.declared.syntax.Ast.TheVariants as leaf
use Rattle.san_text.specs.declared.expression.Begin.{Begin}
use Rattle.san_text.specs.declared.expression.Begin.TheVariants as begin
use Rattle.san_text.specs.declared.limits.TheConstants.{LOOSEST_LEVEL, EXPRESSION_DEPTH, MAX_EXPRESSION_WORDS}
use Rattle.san_text.specs.Words.{Goes, By, Ends, Index, look, at_level, turns_of, is_next, tail, has_arrays}
use Rattle.san_text.specs.Steps.{GrammarFault, Illegal, Long, Reading, ◌>>=◌}

-- what was read inside an expression, how many words it may still take, and the words after it
abbrev pub PartRead : Type 0 → Type 0
PartRead A = Result (A × ℕ × List Word) GrammarFault

abbrev pub Reader : Type 0
Reader = ℕ → List Word → PartRead Ast

-- a legal word is taken, if the expression has room for it
unfoldable pub room : ℕ → List Word → Result ℕ GrammarFault
room zero ws = Err (Long (length ws))
room (suc k) ws = Ok k

-- one sign inside an expression
unfoldable pub closing : Sign → ℕ → List Word → Result (ℕ × List Word) GrammarFault
closing s k ws = cond (is_next s ws) (room k ws >>= λ j. Ok (j, tail ws)) (Err (Illegal (length ws)))

-- an operator, if there is one, its right operand, and what next makes of both
unfoldable pub turned : Option Op → Ast → ℕ → List Word → Reader → (Ast → Reader) → PartRead Ast
turned None left k ws go next = Ok (left, k, ws)
turned (Some o) left k ws go next = room k ws >>= λ j. go j (tail ws) >>= λ x. next (ast.Binary o left x.0) x.1 x.2

-- more operands of one level, grouped to the left
unfoldable pub more : ℕ → ℕ → Reader → Ast → Reader
more zero level go left k ws = Ok (left, k, ws)
more (suc n) level go left k ws = turned (at_level level (look ws)) left k ws go (more n level go)

unfoldable pub chain : ℕ → Reader → Reader
chain level go k ws = go k ws >>= λ x. more (turns_of level) level go x.0 x.1 x.2

-- the levels from 1 to this one: prod, sum, cmp, and, expr
unfoldable pub levels : ℕ → Reader → Reader
levels zero go = go
levels (suc n) go = chain (suc n) (levels n go)

-- NAME [ "[" expr "]" ]
unfoldable pub indexed : Bool → Goes → List ℕ → Reader → Reader
indexed true Index s whole k ws = room k ws >>= λ j. whole j (tail ws) >>= λ x. closing (sign.Mark mark.CloseBracket) x.1 x.2 >>= λ y. Ok (ast.Cell s x.0, y.0, y.1)
indexed true (By o) s whole k ws = Ok (leaf.Name s, k, ws)
indexed true Ends s whole k ws = Ok (leaf.Name s, k, ws)
indexed false g s whole k ws = Ok (leaf.Name s, k, ws)

-- expr ")"
unfoldable pub grouped : Reader → Reader
grouped whole k ws = whole k ws >>= λ x. closing (sign.Mark mark.CloseParen) x.1 x.2 >>= λ y. Ok (ast.Group x.0, y.0, y.1)

abbrev pub op_begins : Op → Begin
op_begins op.Sub = begin.Minus
op_begins o = begin.Nothing

abbrev pub mark_begins : Mark → Begin
mark_begins mark.OpenParen = begin.Opens
mark_begins m = begin.Nothing

abbrev pub sign_begins : Sign → Begin
sign_begins (sign.Keyword k) = begin.Nothing
sign_begins (sign.Mark m) = mark_begins m
sign_begins (sign.Operator o) = op_begins o
sign_begins sign.Not = begin.Not

-- how the first word begins an operand
unfoldable pub beginning : List Word → Begin
beginning [] = begin.Nothing
beginning (Number n ∷ ws) = begin.Value n
beginning (Name s ∷ ws) = begin.Called s
beginning (Fixed s ∷ ws) = sign_begins s

-- ( "-" | "!" ) unary | INT | NAME [ "[" expr "]" ] | "(" expr ")"
unfoldable pub begun : Bool → Begin → Reader → Reader → Reader
begun arrays begin.Nothing go whole k ws = Err (Illegal (length ws))
begun arrays (begin.Value n) go whole k ws = room k ws >>= λ j. Ok (leaf.Number n, j, tail ws)
begun arrays (begin.Called s) go whole k ws = room k ws >>= λ j. indexed arrays (look (tail ws)) s whole j (tail ws)
begun arrays begin.Minus go whole k ws = room k ws >>= λ j. go j (tail ws) >>= λ x. Ok (ast.Neg x.0, x.1, x.2)
begun arrays begin.Not go whole k ws = room k ws >>= λ j. go j (tail ws) >>= λ x. Ok (ast.Not x.0, x.1, x.2)
begun arrays begin.Opens go whole k ws = room k ws >>= λ j. grouped whole j (tail ws)

-- unary, inside so many signs and brackets at most
unfoldable pub unary : ℕ → ℕ → Reader
unary version zero k ws = Err (Long (length ws))
unary version (suc n) k ws = begun (has_arrays version) (beginning ws) (unary version n) (levels LOOSEST_LEVEL (unary version n)) k ws

-- expr; each sign and bracket takes a word, so its depth is never used up
unfoldable pub expr : ℕ → Reading Ast
expr version ws = levels LOOSEST_LEVEL (unary version EXPRESSION_DEPTH) MAX_EXPRESSION_WORDS ws >>= λ x. Ok (x.0, x.2)
