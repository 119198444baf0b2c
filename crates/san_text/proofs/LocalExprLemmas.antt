-- Expressions look no further than the first word that isn't legal.
use Rattle.std.proofs.Common.{◌≡◌, ℕ, zero, suc, Bool, true, false, cond, List, ◌∷◌, length, Result, Ok, Err, Option, Some, None, refl}
use Rattle.san_base.specs.declared.op.Op.{Op}
use Rattle.san_lex.specs.declared.sign.Sign.{Sign}
use Rattle.san_lex.specs.declared.sign.Sign.TheVariants as sign
use Rattle.san_lex.specs.declared.sign.Mark.TheVariants as mark
use Rattle.san_lex.specs.Lexer.{Word, Number, Name, Fixed}
use Rattle.san_text.specs.declared.syntax.Ast.{Ast}
use Rattle.san_text.specs.declared.syntax.Ast.TheViews as ast
use Rattle.san_text.specs.declared.syntax.Ast.TheVariants as leaf
use Rattle.san_text.specs.declared.expression.Begin.{Begin}
use Rattle.san_text.specs.declared.expression.Begin.TheVariants as begin
use Rattle.san_text.specs.Words.{Goes, By, Ends, Index, look, at_level, turns_of, is_next, tail, has_arrays}
use Rattle.san_text.specs.Steps.{GrammarFault, Illegal, Reading, ◌>>=◌}
use Rattle.san_text.specs.Expressions.{PartRead, Reader, room, closing, turned, more, chain, levels, indexed, grouped, begun, beginning, unary, expr}
use Rattle.san_text.proofs.LocalLemmas.{LocalTo, Local, bind_local, first_local, cond_local, skip_local, illegal_local, long_local, made_local, next_first}

abbrev behind : Ast × ℕ × List Word → List Word
behind p = p.2

abbrev set : Ast × ℕ × List Word → List Word → Ast × ℕ × List Word
set p ws = (p.0, p.1, ws)

abbrev LocalPart : (List Word → PartRead Ast) → Type 0
LocalPart r = LocalTo (Ast × ℕ × List Word) behind set r

-- a reader of expressions, with whatever room
abbrev LocalReader : Reader → Type 0
LocalReader r = (k : ℕ) → LocalPart (λ ws. r k ws)

part_done : (x : Ast) (k : ℕ) → LocalPart (λ ws. Ok (x, k, ws))
part_done x k = made_local (λ ws. (x, k, ws)) (λ ws. refl) (λ ws vs. refl)

-- a word is taken, if there is room
room_local : {X : Type 0} {rest : X → List Word} {put : X → List Word → X} (q : ℕ → List Word → Result X GrammarFault) → ((j : ℕ) → LocalTo X rest put (q j)) → (k : ℕ) → LocalTo X rest put (λ ws. room k ws >>= λ j. q j ws)
unfolding room
room_local q l zero = long_local
room_local q l (suc k) = l k

look_first : (w : Word) (us vs : List Word) → look (w ∷ us) ≡ look (w ∷ vs)
unfolding look
look_first w us vs = refl

level_first : (level : ℕ) (w : Word) (us vs : List Word) → at_level level (look (w ∷ us)) ≡ at_level level (look (w ∷ vs))
unfolding look
level_first level w us vs = refl

begin_first : (w : Word) (us vs : List Word) → beginning (w ∷ us) ≡ beginning (w ∷ vs)
unfolding beginning
begin_first (Number n) us vs = refl
begin_first (Name s) us vs = refl
begin_first (Fixed s) us vs = refl

counted_done : (k : ℕ) → Local (λ ws. Ok (k, ws))
counted_done k = made_local (λ ws. (k, ws)) (λ ws. refl) (λ ws vs. refl)

closing_local : (s : Sign) (k : ℕ) → Local (λ ws. closing s k ws)
unfolding closing
closing_local s k =
    let yes_reads : Reading ℕ = λ ws. room k ws >>= λ j. Ok (j, tail ws) in
    first_local (is_next s) (λ c ws. cond c (yes_reads ws) (Err (Illegal (length ws)))) (next_first s)
    (cond_local yes_reads (λ ws. Err (Illegal (length ws))) (room_local (λ j ws. Ok (j, tail ws)) (λ j. skip_local (λ ws. Ok (j, ws)) (counted_done j)) k) illegal_local)

turned_local : (go : Reader) (next : Ast → Reader) → LocalReader go → ((x : Ast) → LocalReader (next x)) → (left : Ast) (k : ℕ) (o : Option Op) → LocalPart (λ ws. turned o left k ws go next)
unfolding turned
turned_local go next one two left k None = part_done left k
turned_local go next one two left k (Some o) = room_local (λ j ws. go j (tail ws) >>= λ x. next (ast.Binary o left x.0) x.1 x.2)
    (λ j. bind_local (λ ws. go j (tail ws)) (λ x. next (ast.Binary o left x.0) x.1 x.2) (λ x. refl) (skip_local (λ ws. go j ws) (one j)) (λ x. two (ast.Binary o left x.0) x.1)) k

more_local : (n level : ℕ) (go : Reader) → LocalReader go → (left : Ast) → LocalReader (more n level go left)
unfolding more
more_local zero level go l left k = part_done left k
more_local (suc n) level go l left k = first_local (λ ws. at_level level (look ws)) (λ o ws. turned o left k ws go (more n level go)) (level_first level) (turned_local go (more n level go) l (λ x. more_local n level go l x) left k)

chain_local : (level : ℕ) (go : Reader) → LocalReader go → LocalReader (chain level go)
unfolding chain
chain_local level go l k = bind_local (λ ws. go k ws) (λ x. more (turns_of level) level go x.0 x.1 x.2) (λ x. refl) (l k) (λ x. more_local (turns_of level) level go l x.0 x.1)

levels_local : (n : ℕ) (go : Reader) → LocalReader go → LocalReader (levels n go)
unfolding levels
levels_local zero go l = l
levels_local (suc n) go l = chain_local (suc n) (levels n go) (levels_local n go l)

-- an expression and its closing sign
inside_local : (s : Sign) (make : Ast → Ast) (whole : Reader) → LocalReader whole → (k : ℕ) → LocalPart (λ ws. whole k ws >>= λ x. closing s x.1 x.2 >>= λ y. Ok (make x.0, y.0, y.1))
inside_local s make whole l k = bind_local (λ ws. whole k ws) (λ x. closing s x.1 x.2 >>= λ y. Ok (make x.0, y.0, y.1)) (λ x. refl) (l k)
    (λ x. bind_local (λ ws. closing s x.1 ws) (λ y. Ok (make x.0, y.0, y.1)) (λ y. refl) (closing_local s x.1) (λ y. part_done (make x.0) y.0))

indexed_by : (s : List ℕ) (whole : Reader) → LocalReader whole → (arrays : Bool) (j : ℕ) (g : Goes) → LocalPart (λ ws. indexed arrays g s whole j ws)
unfolding indexed
indexed_by s whole l true j Index = room_local (λ i ws. whole i (tail ws) >>= λ x. closing (sign.Mark mark.CloseBracket) x.1 x.2 >>= λ y. Ok (ast.Cell s x.0, y.0, y.1))
    (λ i. skip_local (λ ws. whole i ws >>= λ x. closing (sign.Mark mark.CloseBracket) x.1 x.2 >>= λ y. Ok (ast.Cell s x.0, y.0, y.1)) (inside_local (sign.Mark mark.CloseBracket) (ast.Cell s) whole l i)) j
indexed_by s whole l true j (By o) = part_done (leaf.Name s) j
indexed_by s whole l true j Ends = part_done (leaf.Name s) j
indexed_by s whole l false j g = part_done (leaf.Name s) j

begun_local : (arrays : Bool) (go whole : Reader) → LocalReader go → LocalReader whole → (k : ℕ) (b : Begin) → LocalPart (λ ws. begun arrays b go whole k ws)
unfolding begun grouped
begun_local arrays go whole one all k begin.Nothing = illegal_local
begun_local arrays go whole one all k (begin.Value n) = room_local (λ j ws. Ok (leaf.Number n, j, tail ws)) (λ j. skip_local (λ ws. Ok (leaf.Number n, j, ws)) (part_done (leaf.Number n) j)) k
begun_local arrays go whole one all k (begin.Called s) = room_local (λ j ws. indexed arrays (look (tail ws)) s whole j (tail ws))
    (λ j. skip_local (λ ws. indexed arrays (look ws) s whole j ws) (first_local look (λ g ws. indexed arrays g s whole j ws) look_first (indexed_by s whole all arrays j))) k
begun_local arrays go whole one all k begin.Minus = room_local (λ j ws. go j (tail ws) >>= λ x. Ok (ast.Neg x.0, x.1, x.2))
    (λ j. bind_local (λ ws. go j (tail ws)) (λ x. Ok (ast.Neg x.0, x.1, x.2)) (λ x. refl) (skip_local (λ ws. go j ws) (one j)) (λ x. part_done (ast.Neg x.0) x.1)) k
begun_local arrays go whole one all k begin.Not = room_local (λ j ws. go j (tail ws) >>= λ x. Ok (ast.Not x.0, x.1, x.2))
    (λ j. bind_local (λ ws. go j (tail ws)) (λ x. Ok (ast.Not x.0, x.1, x.2)) (λ x. refl) (skip_local (λ ws. go j ws) (one j)) (λ x. part_done (ast.Not x.0) x.1)) k
begun_local arrays go whole one all k begin.Opens = room_local (λ j ws. whole j (tail ws) >>= λ x. closing (sign.Mark mark.CloseParen) x.1 x.2 >>= λ y. Ok (ast.Group x.0, y.0, y.1))
    (λ j. skip_local (λ ws. whole j ws >>= λ x. closing (sign.Mark mark.CloseParen) x.1 x.2 >>= λ y. Ok (ast.Group x.0, y.0, y.1)) (inside_local (sign.Mark mark.CloseParen) ast.Group whole all j)) k

unary_local : (version n : ℕ) → LocalReader (unary version n)
unfolding unary
unary_local version zero k = long_local
unary_local version (suc n) k = first_local beginning (λ b ws. begun (has_arrays version) b (unary version n) (levels 5 (unary version n)) k ws) begin_first
    (begun_local (has_arrays version) (unary version n) (levels 5 (unary version n)) (unary_local version n) (levels_local 5 (unary version n) (unary_local version n)) k)

read_done : (x : Ast) → Local (λ ws. Ok (x, ws))
read_done x = made_local (λ ws. (x, ws)) (λ ws. refl) (λ ws vs. refl)

pub expr_local : (version : ℕ) → Local (expr version)
unfolding expr
expr_local version = bind_local (λ ws. levels 5 (unary version 129) 128 ws) (λ x. Ok (x.0, x.2)) (λ x. refl) (levels_local 5 (unary version 129) (unary_local version 129) 128) (λ x. read_done x.0)
