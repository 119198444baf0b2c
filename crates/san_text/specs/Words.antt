-- How a word goes on what stands before it, and which word stands next.
use Rattle.std.specs.Prelude.{ℕ, nat_eq, nat_le, bytes_eq, Bool, false, cond, List, [], ◌∷◌, Option, Some, None}
use Rattle.san_base.specs.declared.op.Op.{Op}
use Rattle.san_base.specs.declared.op.Op.TheVariants as op
use Rattle.san_lex.specs.declared.sign.Mark.{Mark}
use Rattle.san_lex.specs.declared.sign.Mark.TheVariants as mark
use Rattle.san_lex.specs.declared.sign.Sign.{Sign}
use Rattle.san_lex.specs.declared.sign.Sign.TheVariants as sign
use Rattle.san_text.specs.declared.limits.TheConstants.{ARRAYS_VERSION, PRIORITIES_VERSION, COMPARISON_LEVEL, MAX_EXPRESSION_WORDS}
use Rattle.san_lex.specs.Layout.{sign_text}
use Rattle.san_lex.specs.Lexer.{Word, Number, Name, Fixed}

-- how a word goes on an expression that stands before it
pub data Goes : Type 0 where
  Ends : Goes
  By : (o : Op) → Goes
  Index : Goes

abbrev pub mark_goes : Mark → Goes
mark_goes mark.OpenBracket = Index
mark_goes m = Ends

abbrev pub sign_goes : Sign → Goes
sign_goes (sign.Keyword k) = Ends
sign_goes (sign.Mark m) = mark_goes m
sign_goes (sign.Operator o) = By o
sign_goes sign.Not = Ends

abbrev pub word_goes : Word → Goes
word_goes (Number n) = Ends
word_goes (Name s) = Ends
word_goes (Fixed s) = sign_goes s

unfoldable pub look : List Word → Goes
look [] = Ends
look (w ∷ ws) = word_goes w

-- the level of an operator, from 1 for the tightest
abbrev pub level_of : Op → ℕ
level_of op.Or = 5
level_of op.And = 4
level_of op.Eq = 3
level_of op.Ne = 3
level_of op.Lt = 3
level_of op.Le = 3
level_of op.Gt = 3
level_of op.Ge = 3
level_of op.Add = 2
level_of op.Sub = 2
level_of op.Mul = 1
level_of op.Div = 1
level_of op.Rem = 1

unfoldable pub at_level : ℕ → Goes → Option Op
at_level level (By o) = cond (nat_eq (level_of o) level) (Some o) None
at_level level Ends = None
at_level level Index = None

-- how many operators of a level may follow one another
unfoldable pub turns_of : ℕ → ℕ
turns_of level = cond (nat_eq level COMPARISON_LEVEL) 1 MAX_EXPRESSION_WORDS

-- a sign is this one, which its spelling tells
abbrev pub is_same : Sign → Sign → Bool
is_same s t = bytes_eq (sign_text s) (sign_text t)

abbrev pub is_word : Sign → Word → Bool
is_word s (Number n) = false
is_word s (Name n) = false
is_word s (Fixed t) = is_same t s

-- the first word is this sign
unfoldable pub is_next : Sign → List Word → Bool
is_next s [] = false
is_next s (w ∷ ws) = is_word s w

abbrev pub tail : List Word → List Word
tail [] = []
tail (w ∷ ws) = ws

-- the first word, where it is a name
unfoldable pub name_of : List Word → Option (List ℕ)
name_of [] = None
name_of (Number n ∷ ws) = None
name_of (Name s ∷ ws) = Some s
name_of (Fixed s ∷ ws) = None

-- the first word, where it is a number
unfoldable pub number_of : List Word → Option ℕ
number_of [] = None
number_of (Number n ∷ ws) = Some n
number_of (Name s ∷ ws) = None
number_of (Fixed s ∷ ws) = None

-- places have a length, and names an index
abbrev pub has_arrays : ℕ → Bool
has_arrays version = nat_eq version ARRAYS_VERSION

-- instantaneous activities have a priority
abbrev pub has_priorities : ℕ → Bool
has_priorities version = nat_le PRIORITIES_VERSION version
