-- The tokens of a text, or its first fault.
use Rattle.std.specs.Prelude.{ℕ, zero, suc, ◌+◌, cond, nat_eq, nat_le, List, [], ◌∷◌, length, map, Result, Ok, Err, Option, Some, None}
use Rattle.std.specs.Option.{option_or}
use Rattle.std.specs.Str.Parse.{digits_value}
use Rattle.san_base.specs.declared.op.Op.TheVariants as op
use Rattle.san_lex.specs.declared.keyword.Keyword.{Keyword}
use Rattle.san_lex.specs.declared.sign.Mark.TheVariants as mark
use Rattle.san_lex.specs.declared.sign.Sign.{Sign}
use Rattle.san_lex.specs.declared.sign.Sign.TheVariants as sign
use Rattle.san_base.specs.declared.limits.TheConstants.{MAX_NAME_BYTES}
use Rattle.san_lex.specs.declared.byte.TheConstants.{MAX_NUMBER}
use Rattle.san_base.specs.Names.{is_letter, is_digit, is_in_name}
use Rattle.san_lex.specs.Bytes.{is_blank, is_in_line, run, first}
use Rattle.san_lex.specs.Keywords.{keyword_of}

-- a token without its offsets
pub data Word : Type 0 where
  Number : (n : ℕ) → Word
  Name : (bytes : List ℕ) → Word
  Fixed : (s : Sign) → Word

-- the first fault of a text, and the offset of its first byte
pub data TokenFault : Type 0 where
  Bad : (at : ℕ) → TokenFault
  Large : (at : ℕ) → TokenFault
  Long : (at : ℕ) → TokenFault

-- what stands at the front of a text, with how many bytes it has behind its first
pub data Front : Type 0 where
  Gap : (more : ℕ) → Front
  Token : (w : Word) (more : ℕ) → Front
  Broken : (fault : ℕ → TokenFault) → Front

abbrev pub name_word : Option Keyword → List ℕ → Word
name_word None bs = Name bs
name_word (Some k) bs = Fixed (sign.Keyword k)

-- a name or keyword: a letter and what can follow it
unfoldable pub named : List ℕ → Front
named [] = Gap 0
named (b ∷ bs) = cond (nat_le MAX_NAME_BYTES (length bs)) (Broken Long) (Token (name_word (keyword_of (b ∷ bs)) (b ∷ bs)) (length bs))

-- a number: digits
unfoldable pub numbered : List ℕ → Front
numbered [] = Gap 0
numbered (b ∷ bs) = cond (nat_le (digits_value 10 (b ∷ bs)) MAX_NUMBER) (Token (Number (digits_value 10 (b ∷ bs))) (length bs)) (Broken Large)

-- the marks: { } ( ) [ ] ; , . : =
unfoldable pub mark_of : ℕ → Option Sign
mark_of b =
    cond (nat_eq b 123) (Some (sign.Mark mark.OpenBrace)) (cond (nat_eq b 125) (Some (sign.Mark mark.CloseBrace)) (cond (nat_eq b 40) (Some (sign.Mark mark.OpenParen)) (cond (nat_eq b 41) (Some (sign.Mark mark.CloseParen))
    (cond (nat_eq b 91) (Some (sign.Mark mark.OpenBracket)) (cond (nat_eq b 93) (Some (sign.Mark mark.CloseBracket)) (cond (nat_eq b 59) (Some (sign.Mark mark.Semicolon)) (cond (nat_eq b 44) (Some (sign.Mark mark.Comma))
    (cond (nat_eq b 46) (Some (sign.Mark mark.Dot)) (cond (nat_eq b 58) (Some (sign.Mark mark.Colon)) (cond (nat_eq b 61) (Some (sign.Mark mark.Equals)) None))))))))))

-- the operators of one byte: < > + - * / % !
unfoldable pub operator_of : ℕ → Option Sign
operator_of b =
    cond (nat_eq b 60) (Some (sign.Operator op.Lt)) (cond (nat_eq b 62) (Some (sign.Operator op.Gt)) (cond (nat_eq b 43) (Some (sign.Operator op.Add)) (cond (nat_eq b 45) (Some (sign.Operator op.Sub))
    (cond (nat_eq b 42) (Some (sign.Operator op.Mul)) (cond (nat_eq b 47) (Some (sign.Operator op.Div)) (cond (nat_eq b 37) (Some (sign.Operator op.Rem)) (cond (nat_eq b 33) (Some sign.Not) None)))))))

-- a sign of one byte
unfoldable pub single : ℕ → Option Sign
single b = option_or (mark_of b) (operator_of b)

-- a sign of two bytes: == != <= >= && ||
unfoldable pub double : ℕ → ℕ → Option Sign
double b c =
    cond (nat_eq c 61) (cond (nat_eq b 61) (Some (sign.Operator op.Eq)) (cond (nat_eq b 33) (Some (sign.Operator op.Ne)) (cond (nat_eq b 60) (Some (sign.Operator op.Le)) (cond (nat_eq b 62) (Some (sign.Operator op.Ge)) None))))
    (cond (nat_eq c 38) (cond (nat_eq b 38) (Some (sign.Operator op.And)) None) (cond (nat_eq c 124) (cond (nat_eq b 124) (Some (sign.Operator op.Or)) None) None))

-- the longer sign, where there are two
abbrev pub sign_front : Option Sign → Option Sign → Front
sign_front (Some s) other = Token (Fixed s) 1
sign_front None (Some s) = Token (Fixed s) 0
sign_front None None = Broken Bad

-- what a byte and those behind it begin with: a blank, a comment, or the longest token
unfoldable pub front : ℕ → List ℕ → Front
front b bs =
    cond (is_blank b) (Gap 0)
    (cond (nat_eq b 35) (Gap (length (run is_in_line bs)))
    (cond (is_letter b) (named (b ∷ run is_in_name bs))
    (cond (is_digit b) (numbered (b ∷ run is_digit bs))
    (sign_front (double b (first bs)) (single b)))))

abbrev pub more : Front → ℕ
more (Gap n) = n
more (Token w n) = n
more (Broken f) = 0

-- a token and where it stands
pub record Located : Type 0 where
  pub word : Word
  pub start : ℕ
  pub end : ℕ

abbrev pub with_token : Located → Result (List Located) TokenFault → Result (List Located) TokenFault
with_token p (Ok ps) = Ok (p ∷ ps)
with_token p (Err f) = Err f

abbrev pub grown : Front → ℕ → Result (List Located) TokenFault → Result (List Located) TokenFault
grown (Gap n) at rest = rest
grown (Token w n) at rest = with_token (record { word = w; start = at; end = at + suc n }) rest
grown (Broken f) at rest = Err (f at)

-- the tokens of the bytes from an offset on, after so many that belong to what was before
unfoldable pub lex : ℕ → ℕ → List ℕ → Result (List Located) TokenFault
lex skip at [] = Ok []
lex (suc k) at (b ∷ bs) = lex k (suc at) bs
lex zero at (b ∷ bs) = grown (front b bs) at (lex (more (front b bs)) (suc at) bs)

unfoldable pub tokens : List ℕ → Result (List Located) TokenFault
tokens text = lex 0 0 text

abbrev pub word_of : Located → Word
word_of p = p.word

-- the words alone
abbrev pub heard : Result (List Located) TokenFault → Result (List Word) TokenFault
heard (Ok ps) = Ok (map word_of ps)
heard (Err f) = Err f
