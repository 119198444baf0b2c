-- A sign is known by its spelling.
use Rattle.std.proofs.Common.{◌≡◌, ℕ, true, List, [], ◌∷◌, refl, sym, ap, ◌∙◌}
use Rattle.std.specs.Prelude.{bytes_eq, unwrap_or}
use Rattle.std.specs.List.{find}
use Rattle.std.proofs.lemmas.Slice.Eq.{bytes_eq-Decides}
use Rattle.san_base.specs.declared.op.Op.TheVariants as op
use Rattle.san_lex.specs.declared.keyword.Keyword.TheVariants as keyword
use Rattle.san_lex.specs.declared.sign.Mark.TheVariants as mark
use Rattle.san_lex.specs.declared.sign.Sign.{Sign}
use Rattle.san_lex.specs.declared.sign.Sign.TheVariants as sign
use Rattle.san_lex.specs.Layout.{sign_text}
use Rattle.san_text.specs.Words.{is_same}

table : List Sign
table = sign.Not ∷ sign.Keyword keyword.San ∷ sign.Keyword keyword.Atomic ∷ sign.Keyword keyword.Place ∷ sign.Keyword keyword.Timed ∷ sign.Keyword keyword.Instant ∷ sign.Keyword keyword.In ∷ sign.Keyword keyword.Gate ∷ sign.Keyword keyword.Do ∷ sign.Keyword keyword.Delay ∷ sign.Keyword keyword.Det ∷ sign.Keyword keyword.Uniform ∷ sign.Keyword keyword.Geom ∷ sign.Keyword keyword.Table ∷ sign.Keyword keyword.React ∷ sign.Keyword keyword.Case ∷ sign.Keyword keyword.Out ∷ sign.Keyword keyword.If ∷ sign.Keyword keyword.Else ∷ sign.Keyword keyword.Join ∷ sign.Keyword keyword.Child ∷ sign.Keyword keyword.Share ∷ sign.Keyword keyword.Rep ∷ sign.Keyword keyword.Times ∷ sign.Keyword keyword.System ∷ sign.Keyword keyword.Reward ∷ sign.Keyword keyword.On ∷ sign.Keyword keyword.Over ∷ sign.Keyword keyword.Mean ∷ sign.Keyword keyword.At ∷ sign.Keyword keyword.Rate ∷ sign.Keyword keyword.Impulse ∷ sign.Mark mark.OpenBrace ∷ sign.Mark mark.CloseBrace ∷ sign.Mark mark.OpenParen ∷ sign.Mark mark.CloseParen ∷ sign.Mark mark.OpenBracket ∷ sign.Mark mark.CloseBracket ∷ sign.Mark mark.Semicolon ∷ sign.Mark mark.Comma ∷ sign.Mark mark.Dot ∷ sign.Mark mark.Colon ∷ sign.Mark mark.Equals ∷ sign.Operator op.Or ∷ sign.Operator op.And ∷ sign.Operator op.Eq ∷ sign.Operator op.Ne ∷ sign.Operator op.Lt ∷ sign.Operator op.Le ∷ sign.Operator op.Gt ∷ sign.Operator op.Ge ∷ sign.Operator op.Add ∷ sign.Operator op.Sub ∷ sign.Operator op.Mul ∷ sign.Operator op.Div ∷ sign.Operator op.Rem ∷ []

decode : List ℕ → Sign
decode text = unwrap_or (find (λ s. bytes_eq (sign_text s) text) table) sign.Not

decode_text : (s : Sign) → decode (sign_text s) ≡ s
unfolding decode table
decode_text (sign.Keyword keyword.San) = refl
decode_text (sign.Keyword keyword.Atomic) = refl
decode_text (sign.Keyword keyword.Place) = refl
decode_text (sign.Keyword keyword.Timed) = refl
decode_text (sign.Keyword keyword.Instant) = refl
decode_text (sign.Keyword keyword.In) = refl
decode_text (sign.Keyword keyword.Gate) = refl
decode_text (sign.Keyword keyword.Do) = refl
decode_text (sign.Keyword keyword.Delay) = refl
decode_text (sign.Keyword keyword.Det) = refl
decode_text (sign.Keyword keyword.Uniform) = refl
decode_text (sign.Keyword keyword.Geom) = refl
decode_text (sign.Keyword keyword.Table) = refl
decode_text (sign.Keyword keyword.React) = refl
decode_text (sign.Keyword keyword.Case) = refl
decode_text (sign.Keyword keyword.Out) = refl
decode_text (sign.Keyword keyword.If) = refl
decode_text (sign.Keyword keyword.Else) = refl
decode_text (sign.Keyword keyword.Join) = refl
decode_text (sign.Keyword keyword.Child) = refl
decode_text (sign.Keyword keyword.Share) = refl
decode_text (sign.Keyword keyword.Rep) = refl
decode_text (sign.Keyword keyword.Times) = refl
decode_text (sign.Keyword keyword.System) = refl
decode_text (sign.Keyword keyword.Reward) = refl
decode_text (sign.Keyword keyword.On) = refl
decode_text (sign.Keyword keyword.Over) = refl
decode_text (sign.Keyword keyword.Mean) = refl
decode_text (sign.Keyword keyword.At) = refl
decode_text (sign.Keyword keyword.Rate) = refl
decode_text (sign.Keyword keyword.Impulse) = refl
decode_text (sign.Mark mark.OpenBrace) = refl
decode_text (sign.Mark mark.CloseBrace) = refl
decode_text (sign.Mark mark.OpenParen) = refl
decode_text (sign.Mark mark.CloseParen) = refl
decode_text (sign.Mark mark.OpenBracket) = refl
decode_text (sign.Mark mark.CloseBracket) = refl
decode_text (sign.Mark mark.Semicolon) = refl
decode_text (sign.Mark mark.Comma) = refl
decode_text (sign.Mark mark.Dot) = refl
decode_text (sign.Mark mark.Colon) = refl
decode_text (sign.Mark mark.Equals) = refl
decode_text (sign.Operator op.Or) = refl
decode_text (sign.Operator op.And) = refl
decode_text (sign.Operator op.Eq) = refl
decode_text (sign.Operator op.Ne) = refl
decode_text (sign.Operator op.Lt) = refl
decode_text (sign.Operator op.Le) = refl
decode_text (sign.Operator op.Gt) = refl
decode_text (sign.Operator op.Ge) = refl
decode_text (sign.Operator op.Add) = refl
decode_text (sign.Operator op.Sub) = refl
decode_text (sign.Operator op.Mul) = refl
decode_text (sign.Operator op.Div) = refl
decode_text (sign.Operator op.Rem) = refl
decode_text sign.Not = refl

pub sign_is : (t s : Sign) → is_same t s ≡ true → t ≡ s
sign_is t s e = sym (decode_text t) ∙ ap decode ((bytes_eq-Decides (sign_text t) (sign_text s)).0 e) ∙ decode_text s

pub sign_self : (s : Sign) → is_same s s ≡ true
sign_self s = (bytes_eq-Decides (sign_text s) (sign_text s)).1 refl
