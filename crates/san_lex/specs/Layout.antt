-- Words written with their blanks.
use Rattle.std.specs.Prelude.{ℕ, zero, suc, ◌-◌, ◌*◌, Bool, true, false, cond, List, [], ◌∷◌, ◌++◌}
use Rattle.std.specs.Fmt.{decimal}
use Rattle.san_base.specs.declared.op.Op.{Op}
use Rattle.san_base.specs.declared.op.Op.TheVariants as op
use Rattle.san_lex.specs.declared.sign.Mark.{Mark}
use Rattle.san_lex.specs.declared.sign.Mark.TheVariants as mark
use Rattle.san_lex.specs.declared.sign.Sign.{Sign}
use Rattle.san_lex.specs.declared.sign.Sign.TheVariants as sign
use Rattle.san_lex.specs.Keywords.{keyword_text}
use Rattle.san_lex.specs.Lexer.{Word, Number, Name, Fixed}

abbrev pub op_text : Op → List ℕ
op_text op.Or = 124 ∷ 124 ∷ []
op_text op.And = 38 ∷ 38 ∷ []
op_text op.Eq = 61 ∷ 61 ∷ []
op_text op.Ne = 33 ∷ 61 ∷ []
op_text op.Lt = 60 ∷ []
op_text op.Le = 60 ∷ 61 ∷ []
op_text op.Gt = 62 ∷ []
op_text op.Ge = 62 ∷ 61 ∷ []
op_text op.Add = 43 ∷ []
op_text op.Sub = 45 ∷ []
op_text op.Mul = 42 ∷ []
op_text op.Div = 47 ∷ []
op_text op.Rem = 37 ∷ []

abbrev pub mark_text : Mark → List ℕ
mark_text mark.OpenBrace = 123 ∷ []
mark_text mark.CloseBrace = 125 ∷ []
mark_text mark.OpenParen = 40 ∷ []
mark_text mark.CloseParen = 41 ∷ []
mark_text mark.OpenBracket = 91 ∷ []
mark_text mark.CloseBracket = 93 ∷ []
mark_text mark.Semicolon = 59 ∷ []
mark_text mark.Comma = 44 ∷ []
mark_text mark.Dot = 46 ∷ []
mark_text mark.Colon = 58 ∷ []
mark_text mark.Equals = 61 ∷ []

abbrev pub sign_text : Sign → List ℕ
sign_text (sign.Keyword k) = keyword_text k
sign_text (sign.Mark m) = mark_text m
sign_text (sign.Operator o) = op_text o
sign_text sign.Not = 33 ∷ []

unfoldable pub text_of : Word → List ℕ
text_of (Number n) = decimal n
text_of (Name bs) = bs
text_of (Fixed s) = sign_text s

-- what stands before the next word: the start of a line, nothing, or a word that wants a space
pub data Spacing : Type 0 where
  Line : Spacing
  Tight : Spacing
  Loose : Spacing

abbrev pub mark_before : Mark → Spacing
mark_before mark.Semicolon = Line
mark_before mark.OpenBrace = Line
mark_before mark.CloseBrace = Line
mark_before mark.Colon = Tight
mark_before mark.Dot = Tight
mark_before mark.OpenParen = Tight
mark_before mark.OpenBracket = Tight
mark_before m = Loose

abbrev pub sign_before : Sign → Spacing
sign_before (sign.Mark m) = mark_before m
sign_before s = Loose

unfoldable pub before : Word → Spacing
before (Number n) = Loose
before (Name bs) = Loose
before (Fixed s) = sign_before s

-- no space stands before these
abbrev pub mark_hugs : Mark → Bool
mark_hugs mark.Semicolon = true
mark_hugs mark.Comma = true
mark_hugs mark.Colon = true
mark_hugs mark.Dot = true
mark_hugs mark.CloseParen = true
mark_hugs mark.OpenBracket = true
mark_hugs mark.CloseBracket = true
mark_hugs m = false

abbrev pub sign_hugs : Sign → Bool
sign_hugs (sign.Mark m) = mark_hugs m
sign_hugs s = false

unfoldable pub hugs : Word → Bool
hugs (Number n) = false
hugs (Name bs) = false
hugs (Fixed s) = sign_hugs s

abbrev pub mark_depth : Mark → ℕ → ℕ
mark_depth mark.OpenBrace d = suc d
mark_depth mark.CloseBrace d = d - 1
mark_depth m d = d

abbrev pub sign_depth : Sign → ℕ → ℕ
sign_depth (sign.Mark m) d = mark_depth m d
sign_depth s d = d

-- the braces open behind a word
unfoldable pub depth_after : Word → ℕ → ℕ
depth_after (Number n) d = d
depth_after (Name bs) d = d
depth_after (Fixed s) d = sign_depth s d

abbrev pub mark_closes : Mark → ℕ
mark_closes mark.CloseBrace = 1
mark_closes m = 0

abbrev pub sign_closes : Sign → ℕ
sign_closes (sign.Mark m) = mark_closes m
sign_closes s = 0

abbrev pub closes : Word → ℕ
closes (Number n) = 0
closes (Name bs) = 0
closes (Fixed s) = sign_closes s

abbrev pub spaces : ℕ → List ℕ
spaces zero = []
spaces (suc n) = 32 ∷ spaces n

abbrev pub gap : Spacing → ℕ → Word → List ℕ
gap Line d w = spaces (2 * (d - closes w))
gap Tight d w = []
gap Loose d w = cond (hugs w) [] (32 ∷ [])

abbrev pub ending : Spacing → List ℕ
ending Line = 10 ∷ []
ending Tight = []
ending Loose = []

unfoldable pub layout : Spacing → ℕ → List Word → List ℕ
layout b d [] = []
layout b d (w ∷ ws) = gap b d w ++ (text_of w ++ (ending (before w) ++ layout (before w) (depth_after w d) ws))

abbrev pub show_text : List Word → List ℕ
show_text ws = layout Line 0 ws
