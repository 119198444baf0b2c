-- Walking the two sides of an expression, and the parts of a statement.
use Rattle.std.proofs.Common.{◌≡◌, ℕ, Bool, false, Option, List, [], ◌∷◌, ◌++◌, sym, ap, ◌∙◌}
use denote.Hole.Carrier
use Rattle.san_base.specs.declared.op.Op.{Op}
use Rattle.san_text.specs.declared.syntax.Ast.{Ast}
use Rattle.san_text.specs.declared.syntax.Ast.TheViews as ast
use Rattle.san_text.specs.declared.syntax.Ast.TheOpen.{Ast-F}
use Rattle.san_text.specs.declared.syntax.Ast.TheFolds.{fold-roll-Ast}
use Rattle.san_text.specs.declared.syntax.StmtDecl.{StmtDecl}
use Rattle.san_text.specs.declared.syntax.StmtDecl.TheViews as stmt
use Rattle.san_text.specs.declared.syntax.StmtDecl.TheVariants as plain
use Rattle.san_text.specs.declared.syntax.StmtDecl.TheOpen.{StmtDecl-F}
use Rattle.san_text.specs.declared.syntax.StmtDecl.TheFolds.{fold-roll-StmtDecl}
use Rattle.san_check.specs.declared.walk.Walk.{Walk}
use Rattle.san_check.specs.walk.Entries.{Entries}
use Rattle.san_check.specs.inner.Walks.{seen_all, seen}
use Rattle.san_check.specs.walk.Expression.{Places, element, expr_step, first_entries, expr_entries, stmt_step, stmt_entries, stmts_entries}
use Rattle.san_check.proofs.EntryLemmas.{two_parts, three_parts}

binary : (places : Places) (o : Op) (x y : Ast) (late : Bool) → first_entries places (ast.Binary o x y) late ≡ first_entries places x late ++ first_entries places y false
unfolding ast.roll-Ast denote.Hole.Carrier.roll
binary places o x y late = ap (λ f. f late) (fold-roll-Ast (Bool → Entries) (expr_step places) (Ast-F.Binary o x y))

pub binary_walks : (places : Places) (late : Bool) (e : Ast) (o : Op) (x y x1 y1 : Ast) (w w1 w2 : Walk) → e ≡ ast.Binary o x y → x1 ≡ x → y1 ≡ y
    → w1 ≡ seen_all w (first_entries places x1 late) → w2 ≡ seen_all w1 (first_entries places y1 false) → w2 ≡ seen_all w (first_entries places e late)
binary_walks places late e o x y x1 y1 w w1 w2 is ex ey h k =
    two_parts w w1 w2 (first_entries places x1 late) (first_entries places y1 false) h k
    ∙ ap (λ (u : Ast). seen_all w (first_entries places u late ++ first_entries places y1 false)) ex
    ∙ ap (λ (u : Ast). seen_all w (first_entries places x late ++ first_entries places u false)) ey
    ∙ ap (seen_all w) (sym (binary places o x y late) ∙ ap (λ (u : Ast). first_entries places u late) (sym is))

if_is : (places : Places) (e : Ast) (xs ys : List StmtDecl) → stmt_entries places (stmt.If e xs ys) ≡ expr_entries places e ++ (stmts_entries places xs ++ stmts_entries places ys)
unfolding stmt.roll-StmtDecl denote.Hole.Carrier.roll
if_is places e xs ys = fold-roll-StmtDecl Entries (stmt_step places) (StmtDecl-F.If e xs ys)

pub if_walks : (places : Places) (s : StmtDecl) (e : Ast) (xs ys xs1 ys1 : List StmtDecl) (w w1 w2 w3 : Walk) → s ≡ stmt.If e xs ys → xs1 ≡ xs → ys1 ≡ ys
    → w1 ≡ seen_all w (expr_entries places e) → w2 ≡ seen_all w1 (stmts_entries places xs1) → w3 ≡ seen_all w2 (stmts_entries places ys1) → w3 ≡ seen_all w (stmt_entries places s)
if_walks places s e xs ys xs1 ys1 w w1 w2 w3 is ex ey a b c =
    three_parts w w1 w2 w3 (expr_entries places e) (stmts_entries places xs) (stmts_entries places ys) a
    (b ∙ ap (λ (zs : List StmtDecl). seen_all w1 (stmts_entries places zs)) ex) (c ∙ ap (λ (zs : List StmtDecl). seen_all w2 (stmts_entries places zs)) ey)
    ∙ ap (seen_all w) (sym (if_is places e xs ys) ∙ ap (stmt_entries places) (sym is))

cell_is : (places : Places) (name : List ℕ) (i e : Ast) → stmt_entries places (plain.SetCell name i e) ≡ element places name ∷ (expr_entries places i ++ expr_entries places e)
unfolding stmt.roll-StmtDecl denote.Hole.Carrier.roll
cell_is places name i e = ap (stmt_entries places) (sym (plain.rolls-SetCell name i e)) ∙ fold-roll-StmtDecl Entries (stmt_step places) (StmtDecl-F.SetCell name i e)

pub cell_walks : (places : Places) (s : StmtDecl) (name : List ℕ) (i e : Ast) (w w1 w2 w3 : Walk) (code : Option ℕ) → s ≡ plain.SetCell name i e → code ≡ element places name
    → w1 ≡ seen w code → w2 ≡ seen_all w1 (expr_entries places i) → w3 ≡ seen_all w2 (expr_entries places e) → w3 ≡ seen_all w (stmt_entries places s)
cell_walks places s name i e w w1 w2 w3 code is at a b c =
    three_parts w w1 w2 w3 (element places name ∷ []) (expr_entries places i) (expr_entries places e) (a ∙ ap (seen w) at) b c
    ∙ ap (seen_all w) (sym (cell_is places name i e) ∙ ap (stmt_entries places) (sym is))
