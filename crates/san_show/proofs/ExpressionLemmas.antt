-- Expressions on a page.
use Rattle.std.proofs.Common.{◌≡◌, List, [], ◌∷◌, ◌++◌, ℕ, sym, ap, ◌∙◌}
use Rattle.san_base.specs.declared.op.Op.{Op}
use Rattle.san_lex.specs.declared.sign.Mark.TheVariants as mark
use Rattle.san_lex.specs.declared.sign.Sign.TheVariants as sign
use Rattle.san_lex.specs.Lexer.{Word, Name, Fixed}
use Rattle.san_text.specs.declared.syntax.Ast.{Ast}
use Rattle.san_text.specs.declared.syntax.Ast.TheViews as ast
use Rattle.san_text.specs.Spelling.{spelling}
use Rattle.san_text.proofs.ExprLemmas.{spell_binary, spell_group, spell_cell}
use Rattle.san_show.specs.inner.Pages.{Written, put, written}
use Rattle.san_show.proofs.PageLemmas.{also}

pub group_shown : (e x x1 : Ast) (p p1 p2 p3 : Written) → e ≡ ast.Group x → x1 ≡ x → p1 ≡ put p (Fixed (sign.Mark mark.OpenParen)) → p2 ≡ written p1 (spelling x1) → p3 ≡ put p2 (Fixed (sign.Mark mark.CloseParen)) → p3 ≡ written p (spelling e)
group_shown e x x1 p p1 p2 p3 is ex e1 e2 e3 =
    let C : List Word = Fixed (sign.Mark mark.CloseParen) ∷ [] in
    also (Fixed (sign.Mark mark.OpenParen) ∷ []) (spelling x ++ C) p p1 p3 e1 (also (spelling x) C p1 p2 p3 (e2 ∙ ap (λ (y : Ast). written p1 (spelling y)) ex) e3) ∙ ap (written p) (sym (ap spelling is ∙ spell_group x))

pub cell_shown : (e x x1 : Ast) (s : List ℕ) (p p1 p2 p3 p4 : Written) → e ≡ ast.Cell s x → x1 ≡ x → p1 ≡ put p (Name s) → p2 ≡ put p1 (Fixed (sign.Mark mark.OpenBracket)) → p3 ≡ written p2 (spelling x1) → p4 ≡ put p3 (Fixed (sign.Mark mark.CloseBracket)) → p4 ≡ written p (spelling e)
cell_shown e x x1 s p p1 p2 p3 p4 is ex e1 e2 e3 e4 =
    let C : List Word = Fixed (sign.Mark mark.CloseBracket) ∷ [] in
    also (Name s ∷ []) (Fixed (sign.Mark mark.OpenBracket) ∷ (spelling x ++ C)) p p1 p4 e1 (also (Fixed (sign.Mark mark.OpenBracket) ∷ []) (spelling x ++ C) p1 p2 p4 e2 (also (spelling x) C p2 p3 p4 (e3 ∙ ap (λ (y : Ast). written p2 (spelling y)) ex) e4))
    ∙ ap (written p) (sym (ap spelling is ∙ spell_cell s x))

pub binary_shown : (e x y x1 y1 : Ast) (o : Op) (p p1 p2 p3 : Written) → e ≡ ast.Binary o x y → x1 ≡ x → y1 ≡ y → p1 ≡ written p (spelling x1) → p2 ≡ put p1 (Fixed (sign.Operator o)) → p3 ≡ written p2 (spelling y1) → p3 ≡ written p (spelling e)
binary_shown e x y x1 y1 o p p1 p2 p3 is ex ey e1 e2 e3 =
    also (spelling x) (Fixed (sign.Operator o) ∷ spelling y) p p1 p3 (e1 ∙ ap (λ (z : Ast). written p (spelling z)) ex) (also (Fixed (sign.Operator o) ∷ []) (spelling y) p1 p2 p3 e2 (e3 ∙ ap (λ (z : Ast). written p2 (spelling z)) ey))
    ∙ ap (written p) (sym (ap spelling is ∙ spell_binary o x y))
