-- What statements and blocks owe as readers.
use Rattle.std.proofs.Common.{◌≡◌, ℕ, zero, suc, Bool, true, false, cond, List, [], ◌∷◌, ◌++◌, length, map, Result, Ok, Err, Option, Some, None, refl, sym, ap, subst, ◌∙◌, append_assoc}
use denote.Hole.Carrier
use Rattle.san_lex.specs.declared.keyword.Keyword.TheVariants as keyword
use Rattle.san_lex.specs.declared.sign.Mark.TheVariants as mark
use Rattle.san_lex.specs.declared.sign.Sign.TheVariants as sign
use Rattle.san_lex.specs.Lexer.{Word, Number, Name, Fixed}
use Rattle.san_text.specs.declared.syntax.Ast.{Ast}
use Rattle.san_text.specs.declared.syntax.StmtDecl.{StmtDecl}
use Rattle.san_text.specs.declared.syntax.StmtDecl.TheViews as stmt
use Rattle.san_text.specs.declared.syntax.StmtDecl.TheVariants as plain
use Rattle.san_text.specs.declared.syntax.StmtDecl.TheOpen.{StmtDecl-F}
use Rattle.san_text.specs.declared.syntax.StmtDecl.TheFolds.{fold-roll-StmtDecl}
use Rattle.san_text.specs.Words.{look, is_next, tail, name_of, has_arrays}
use Rattle.san_text.specs.Steps.{Illegal, Deep, GrammarFault, ◌>>=◌, sign_at}
use Rattle.san_text.specs.Expressions.{expr}
use Rattle.san_text.specs.Statements.{Body, set_cell, set_plain, set_at, otherwise, if_at, stmt_by, stmt_at, starts_stmt, inner, block}
use Rattle.san_text.specs.Spelling.{spelling, else_words, stmt_step, stmt_words, stmts_words, body_words}
use Rattle.san_text.proofs.FrontLemmas.{bind_ok, ok_is, then_ok, next_is, next_self, test_ok}
use Rattle.san_text.proofs.AlikeLemmas.{Alike, alike_refl, alike_is, alike_then, alike_front, alike_closed}
use Rattle.san_text.proofs.StepLemmas.{guarded, seq, sign_then, done, Any, Kept, Law, Steps, law_of, signed, sign_step, seq_step, done_step, guarded_step}
use Rattle.san_text.proofs.BasicLemmas.{expr_keeps, Items, calm_list_law}

pub words_set : (s : List ℕ) (e : Ast) → stmt_words (plain.Set s e) ≡ Name s ∷ Fixed (sign.Mark mark.Equals) ∷ (spelling e ++ Fixed (sign.Mark mark.Semicolon) ∷ [])
unfolding stmt_words stmt.roll-StmtDecl denote.Hole.Carrier.roll
words_set s e = ap stmt_words (sym (plain.rolls-Set s e)) ∙ fold-roll-StmtDecl (List Word) stmt_step (StmtDecl-F.Set s e)

pub words_cell : (s : List ℕ) (i e : Ast) → stmt_words (plain.SetCell s i e) ≡ Name s ∷ Fixed (sign.Mark mark.OpenBracket) ∷ (spelling i ++ Fixed (sign.Mark mark.CloseBracket) ∷ Fixed (sign.Mark mark.Equals) ∷ (spelling e ++ Fixed (sign.Mark mark.Semicolon) ∷ []))
unfolding stmt_words stmt.roll-StmtDecl denote.Hole.Carrier.roll
words_cell s i e = ap stmt_words (sym (plain.rolls-SetCell s i e)) ∙ fold-roll-StmtDecl (List Word) stmt_step (StmtDecl-F.SetCell s i e)

pub words_if : (e : Ast) (xs ys : List StmtDecl) → stmt_words (stmt.If e xs ys) ≡ Fixed (sign.Keyword keyword.If) ∷ (spelling e ++ (body_words xs ++ else_words (map stmt_words ys)))
unfolding stmt_words stmt.roll-StmtDecl denote.Hole.Carrier.roll
words_if e xs ys = fold-roll-StmtDecl (List Word) stmt_step (StmtDecl-F.If e xs ys)

-- ---- assignments

-- behind the name
set_steps : (version : ℕ) (s : List ℕ) → Steps (λ us. Name s ∷ us) stmt_words (set_at version s) Any Any
unfolding set_at set_plain set_cell guarded seq sign_then done look is_next
set_steps version s = guarded_step (has_arrays version) (sign.Mark mark.OpenBracket)
    (sign_step (sign.Mark mark.OpenBracket) (λ a b. next_self (sign.Mark mark.OpenBracket) b) (seq_step (expr_keeps version) (λ i. sign_step (sign.Mark mark.CloseBracket) (λ a b. refl) (sign_step (sign.Mark mark.Equals) (λ a b. tt) (seq_step (expr_keeps version) (λ x. sign_step (sign.Mark mark.Semicolon) (λ a b. refl) (done_step (plain.SetCell s i x) (λ a b h. h) (words_cell s i x))))))))
    (sign_step (sign.Mark mark.Equals) (λ a b. refl) (seq_step (expr_keeps version) (λ x. sign_step (sign.Mark mark.Semicolon) (λ a b. refl) (done_step (plain.Set s x) (λ a b h. h) (words_set s x)))))

-- ---- how a statement starts

starts_named : (ws : List Word) (s : List ℕ) → name_of ws ≡ Some s → ws ≡ Name s ∷ tail ws
unfolding name_of
starts_named [] s e = absurd cc
starts_named (Number n ∷ ws) s e = absurd cc
starts_named (Name t ∷ ws) s e = cc
starts_named (Fixed t ∷ ws) s e = absurd cc

-- an else doesn't come next
abbrev pub NoElse : List Word → Type 0
NoElse ws = is_next (sign.Keyword keyword.Else) ws ≡ false

pub empty_starts : starts_stmt [] ≡ true → ⊥
unfolding starts_stmt name_of is_next
empty_starts e = cc

name_no_else : (t : List ℕ) (ws : List Word) → NoElse (Name t ∷ ws)
unfolding is_next
name_no_else t ws = refl

if_no_else : (ws : List Word) → is_next (sign.Keyword keyword.If) ws ≡ true → NoElse ws
unfolding is_next
if_no_else ws h = ap (is_next (sign.Keyword keyword.Else)) (next_is (sign.Keyword keyword.If) ws h)

no_else : (ws : List Word) → starts_stmt ws ≡ true → NoElse ws
unfolding starts_stmt name_of
no_else [] e = absurd (empty_starts e)
no_else (Number n ∷ ws) e = if_no_else (Number n ∷ ws) e
no_else (Name t ∷ ws) e = name_no_else t ws
no_else (Fixed t ∷ ws) e = if_no_else (Fixed t ∷ ws) e

-- what a statement owes
record Stated (version : ℕ) (body : Body) (ws : List Word) (p : StmtDecl × List Word) : Type 0 where
  keeps : Kept stmt_words (stmt_at version body) (λ was now. NoElse now) ws p
  begins : (after : List Word) → starts_stmt (stmt_words p.0 ++ after) ≡ true

set_law : (version : ℕ) (body : Body) (s : List ℕ) (ws : List Word) (p : StmtDecl × List Word) → name_of ws ≡ Some s → set_at version s (tail ws) ≡ Ok p → Stated version body ws p
unfolding stmt_by name_of starts_stmt
set_law version body s ws p is e =
    let t = (set_steps version s).goes (tail ws) p e in
    let front : ws ≡ Name s ∷ tail ws = starts_named ws s is in
    record {
      keeps = record {
        words = alike_then ws (Name s ∷ tail ws) (stmt_words p.0 ++ p.1) (alike_is ws (Name s ∷ tail ws) front)
            (subst (λ (z : List Word). Alike (Name s ∷ tail ws) (z ++ p.1)) (sym t.whole) (alike_front (Name s ∷ []) (tail ws) (t.others ++ p.1) t.words));
        again = λ after h. ap (λ (z : List Word). stmt_at version body (z ++ after)) t.whole ∙ t.again after tt;
      };
      begins = λ after. ap (λ (z : List Word). starts_stmt (z ++ after)) t.whole;
    }

-- ---- blocks and branches

-- a block is read again whatever follows
pub record Blocked (body : Body) (ws : List Word) (p : List StmtDecl × List Word) : Type 0 where
  pub front : ws ≡ Fixed (sign.Mark mark.OpenBrace) ∷ tail ws
  pub keeps : Kept body_words body Any ws p

abbrev pub Blocks : Body → Type 0
Blocks body = (ws : List Word) (p : List StmtDecl × List Word) → body ws ≡ Ok p → Blocked body ws p

-- the part after the first block
record Else (body : Body) (ws : List Word) (p : List StmtDecl × List Word) : Type 0 where
  words : (xs : List StmtDecl) → Alike (body_words xs ++ ws) (body_words xs ++ (else_words (map stmt_words p.0) ++ p.1))
  again : (after : List Word) → NoElse after → otherwise body (else_words (map stmt_words p.0) ++ after) ≡ Ok (p.0, after)

none_again : (body : Body) (after : List Word) → NoElse after → otherwise body after ≡ Ok ([], after)
unfolding otherwise
none_again body after calm = ap (λ (b : Bool). cond b (body (tail after)) (Ok ([], after))) calm

else_again : (body : Body) (us : List Word) → otherwise body (Fixed (sign.Keyword keyword.Else) ∷ us) ≡ body us
unfolding otherwise
else_again body us = ap (λ (b : Bool). cond b (body us) (Ok ([], Fixed (sign.Keyword keyword.Else) ∷ us))) (next_self (sign.Keyword keyword.Else) us)

else_law : (body : Body) (ws : List Word) (ys : List StmtDecl) (r : List Word) → ws ≡ Fixed (sign.Keyword keyword.Else) ∷ tail ws → Kept body_words body Any (tail ws) (ys, r) → Else body ws (ys, r)
else_law body ws [] r front t = record {
  words = λ xs.
      let B : List Word = body_words xs in
      let E : List Word = Fixed (sign.Keyword keyword.Else) ∷ Fixed (sign.Mark mark.OpenBrace) ∷ Fixed (sign.Mark mark.CloseBrace) ∷ [] in
      alike_then (B ++ ws) (B ++ (E ++ r)) (B ++ r)
      (alike_front B ws (E ++ r) (alike_then ws (Fixed (sign.Keyword keyword.Else) ∷ tail ws) (E ++ r) (alike_is ws (Fixed (sign.Keyword keyword.Else) ∷ tail ws) front) (alike_front (Fixed (sign.Keyword keyword.Else) ∷ []) (tail ws) (body_words [] ++ r) t.words)))
      (alike_closed (Fixed (sign.Mark mark.OpenBrace) ∷ stmts_words xs) r);
  again = λ after calm. none_again body after calm;
}
else_law body ws (y ∷ ys) r front t = record {
  words = λ xs. alike_front (body_words xs) ws (Fixed (sign.Keyword keyword.Else) ∷ (body_words (y ∷ ys) ++ r))
      (alike_then ws (Fixed (sign.Keyword keyword.Else) ∷ tail ws) (Fixed (sign.Keyword keyword.Else) ∷ (body_words (y ∷ ys) ++ r)) (alike_is ws (Fixed (sign.Keyword keyword.Else) ∷ tail ws) front) (alike_front (Fixed (sign.Keyword keyword.Else) ∷ []) (tail ws) (body_words (y ∷ ys) ++ r) t.words));
  again = λ after calm. else_again body (body_words (y ∷ ys) ++ after) ∙ t.again after tt;
}

other_by : (body : Body) → Blocks body → (b : Bool) (ws : List Word) (p : List StmtDecl × List Word) → is_next (sign.Keyword keyword.Else) ws ≡ b → cond b (body (tail ws)) (Ok ([], ws)) ≡ Ok p → Else body ws p
other_by body law true ws p is e = else_law body ws p.0 p.1 (next_is (sign.Keyword keyword.Else) ws is) (law (tail ws) p e).keeps
other_by body law false ws p is e =
    subst (λ (q : List StmtDecl × List Word). Else body ws q) (ok_is ([], ws) p e) (record { words = λ xs. alike_refl (body_words xs ++ ws); again = λ after calm. none_again body after calm })

other_law : (body : Body) → Blocks body → (ws : List Word) (p : List StmtDecl × List Word) → otherwise body ws ≡ Ok p → Else body ws p
unfolding otherwise
other_law body law ws p e = other_by body law (is_next (sign.Keyword keyword.Else) ws) ws p refl e

if_starts : (us : List Word) → starts_stmt (Fixed (sign.Keyword keyword.If) ∷ us) ≡ true
unfolding starts_stmt name_of
if_starts us = next_self (sign.Keyword keyword.If) us

if_read : (version : ℕ) (body : Body) (us : List Word) → stmt_at version body (Fixed (sign.Keyword keyword.If) ∷ us) ≡ if_at version body us
unfolding stmt_by name_of
if_read version body us = ap (λ (b : Bool). cond b (if_at version body us) (Err (Illegal (length (Fixed (sign.Keyword keyword.If) ∷ us))))) (next_self (sign.Keyword keyword.If) us)

if_law : (version : ℕ) (body : Body) → Blocks body → (ws : List Word) (p : StmtDecl × List Word) → ws ≡ Fixed (sign.Keyword keyword.If) ∷ tail ws → if_at version body (tail ws) ≡ Ok p → Stated version body ws p
unfolding if_at look
if_law version body law ws p is e =
    let a = bind_ok (expr version (tail ws)) (λ e. body e.1 >>= λ b. otherwise body b.1 >>= λ c. Ok (stmt.If e.0 b.0 c.0, c.1)) p e in
    let b = bind_ok (body a.0.1) (λ b. otherwise body b.1 >>= λ c. Ok (stmt.If a.0.0 b.0 c.0, c.1)) p a.2 in
    let c = bind_ok (otherwise body b.0.1) (λ c. Ok (stmt.If a.0.0 b.0.0 c.0, c.1)) p b.2 in
    let t = (expr_keeps version).kept (tail ws) a.0 a.1 in
    let u = law a.0.1 b.0 b.1 in
    let v = other_law body law b.0.1 c.0 c.1 in
    let q : (stmt.If a.0.0 b.0.0 c.0.0, c.0.1) ≡ p = ok_is (stmt.If a.0.0 b.0.0 c.0.0, c.0.1) p c.2 in
    let X : List Word = spelling a.0.0 in
    let B : List Word = body_words b.0.0 in
    let E : List Word = else_words (map stmt_words c.0.0) in
    let rest : List Word = c.0.1 in
    let w : stmt_words p.0 ≡ Fixed (sign.Keyword keyword.If) ∷ (X ++ (B ++ E)) = ap (λ (z : StmtDecl × List Word). stmt_words z.0) (sym q) ∙ words_if a.0.0 b.0.0 c.0.0 in
    let regroup = λ (after : List Word). ap (λ (u : List Word). u ++ after) w ∙ ap (λ (u : List Word). Fixed (sign.Keyword keyword.If) ∷ u) (append_assoc X (B ++ E) after ∙ ap (λ (u : List Word). X ++ u) (append_assoc B E after)) in
    let branch : Alike a.0.1 (B ++ (E ++ rest)) = alike_then a.0.1 (B ++ b.0.1) (B ++ (E ++ rest)) u.keeps.words (v.words b.0.0) in
    let all : Alike (tail ws) (X ++ (B ++ (E ++ rest))) = alike_then (tail ws) (X ++ a.0.1) (X ++ (B ++ (E ++ rest))) t.words (alike_front X a.0.1 (B ++ (E ++ rest)) branch) in
    let back : Alike (Fixed (sign.Keyword keyword.If) ∷ (X ++ (B ++ (E ++ rest)))) (stmt_words p.0 ++ p.1) =
    alike_is (Fixed (sign.Keyword keyword.If) ∷ (X ++ (B ++ (E ++ rest)))) (stmt_words p.0 ++ p.1) (sym (regroup rest) ∙ ap (λ (z : StmtDecl × List Word). stmt_words p.0 ++ z.1) q) in
    record {
      keeps = record {
        words = alike_then ws (Fixed (sign.Keyword keyword.If) ∷ tail ws) (stmt_words p.0 ++ p.1) (alike_is ws (Fixed (sign.Keyword keyword.If) ∷ tail ws) is)
            (alike_then (Fixed (sign.Keyword keyword.If) ∷ tail ws) (Fixed (sign.Keyword keyword.If) ∷ (X ++ (B ++ (E ++ rest)))) (stmt_words p.0 ++ p.1) (alike_front (Fixed (sign.Keyword keyword.If) ∷ []) (tail ws) (X ++ (B ++ (E ++ rest))) all) back);
        again = λ after calm.
            let r2 : List Word = E ++ after in
            let r1 : List Word = B ++ r2 in
            ap (stmt_at version body) (regroup after)
            ∙ if_read version body (X ++ r1)
            ∙ then_ok (expr version (X ++ r1)) (λ e. body e.1 >>= λ b. otherwise body b.1 >>= λ c. Ok (stmt.If e.0 b.0 c.0, c.1)) (a.0.0, r1) (p.0, after) (t.again r1 (ap look (sym u.front)))
            (then_ok (body r1) (λ b. otherwise body b.1 >>= λ c. Ok (stmt.If a.0.0 b.0 c.0, c.1)) (b.0.0, r2) (p.0, after) (u.keeps.again r2 tt)
            (then_ok (otherwise body r2) (λ c. Ok (stmt.If a.0.0 b.0.0 c.0, c.1)) (c.0.0, after) (p.0, after) (v.again after calm) (ap (λ (z : StmtDecl × List Word). Ok (z.0, after)) q)));
      };
      begins = λ after. ap starts_stmt (regroup after) ∙ if_starts (X ++ (B ++ (E ++ after)));
    }

stated : (version : ℕ) (body : Body) → Blocks body → (o : Option (List ℕ)) (ws : List Word) (p : StmtDecl × List Word) → name_of ws ≡ o → stmt_by version body o ws ≡ Ok p → Stated version body ws p
unfolding stmt_by
stated version body law (Some s) ws p is e = set_law version body s ws p is e
stated version body law None ws p is e =
    let t = test_ok (is_next (sign.Keyword keyword.If) ws) (if_at version body (tail ws)) (Illegal (length ws)) p e in
    if_law version body law ws p (next_is (sign.Keyword keyword.If) ws t.0) t.1

pub none_starts : starts_stmt [] ≡ false
unfolding starts_stmt name_of is_next
none_starts = refl

stmt_items : (version : ℕ) (body : Body) → Blocks body → Items stmt_words starts_stmt (stmt_at version body) NoElse
stmt_items version body law = record {
  none = none_starts;
  easy = no_else;
  begins = λ ws p s e after. (stated version body law (name_of ws) ws p refl e).begins after;
  keeps = λ ws p s e. (stated version body law (name_of ws) ws p refl e).keeps;
}

-- statements and a closing brace, behind the opening one
inner_steps : (version : ℕ) (body : Body) → Blocks body → Steps (λ us. Fixed (sign.Mark mark.OpenBrace) ∷ us) body_words (inner version body) Any Any
unfolding inner seq sign_then done starts_stmt name_of is_next
inner_steps version body law = seq_step (calm_list_law (stmt_items version body law)) (λ xs. sign_step (sign.Mark mark.CloseBrace) (λ a b. (refl, refl)) (done_step (xs) (λ a b h. h) refl))

two_faults : {A : Type 0} (b : Bool) (d f : GrammarFault) (y : A) → (r : Result A GrammarFault) → r ≡ cond b (Err d) (Err f) → r ≡ Ok y → ⊥
two_faults true d f y r h e = cc
two_faults false d f y r h e = cc

block_by : (version n : ℕ) → Blocks (block version n) → Blocks (block version (suc n))
unfolding block sign_then
block_by version n law ws p e =
    let a = bind_ok (sign_at (sign.Mark mark.OpenBrace) ws) (λ vs. inner version (block version n) vs) p e in
    let front = signed (sign.Mark mark.OpenBrace) ws a.0 a.1 in
    let steps : Steps (λ us. us) body_words (sign_then (sign.Mark mark.OpenBrace) (inner version (block version n))) Any Any = sign_step (sign.Mark mark.OpenBrace) (λ a b. tt) (inner_steps version (block version n) law) in
    let t = (law_of steps).kept ws p e in
    record { front = front ∙ ap (λ (u : List Word). Fixed (sign.Mark mark.OpenBrace) ∷ tail u) (sym front); keeps = record { words = t.words; again = t.again } }

pub block_law : (version n : ℕ) → Blocks (block version n)
unfolding block
block_law version zero ws p e = absurd (two_faults (is_next (sign.Mark mark.OpenBrace) ws) (Deep (length ws)) (Illegal (length ws)) p (block version zero ws) refl e)
block_law version (suc n) ws p e = block_by version n (block_law version n) ws p e

pub body_law : (version n : ℕ) → Law body_words (block version n) Any
body_law version n = record { kept = λ ws p e. (block_law version n ws p e).keeps }

pub stmt_law : (version n : ℕ) (ws : List Word) (p : StmtDecl × List Word) → stmt_at version (block version n) ws ≡ Ok p → Kept stmt_words (stmt_at version (block version n)) (λ was now. NoElse now) ws p
stmt_law version n ws p e = (stated version (block version n) (block_law version n) (name_of ws) ws p refl e).keeps
