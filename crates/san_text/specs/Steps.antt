-- The steps of reading, and their faults.
use Rattle.std.specs.Prelude.{ℕ, zero, suc, Bool, cond, List, [], ◌∷◌, ◌++◌, length, Result, Ok, Err, Option, Some, None}
use Rattle.san_lex.specs.declared.keyword.Keyword.{Keyword}
use Rattle.san_lex.specs.declared.sign.Mark.{Mark}
use Rattle.san_lex.specs.declared.sign.Sign.{Sign}
use Rattle.san_lex.specs.declared.sign.Sign.TheVariants as sign
use Rattle.san_lex.specs.Lexer.{Word}
use Rattle.san_text.specs.Words.{is_next, tail, name_of, number_of}

-- a fault, with how many words are left at it
pub data GrammarFault : Type 0 where
  Illegal : (left : ℕ) → GrammarFault
  Deep : (left : ℕ) → GrammarFault
  Long : (left : ℕ) → GrammarFault
  Version : (left : ℕ) → GrammarFault

-- what a reader reads from the front of the words, and the words after it
abbrev pub Reading : Type 0 → Type 0
Reading A = List Word → Result (A × List Word) GrammarFault

infixl 10 ◌>>=◌
abbrev pub ◌>>=◌ : {A B : Type 0} → Result A GrammarFault → (A → Result B GrammarFault) → Result B GrammarFault
(Ok x) >>= f = f x
(Err e) >>= f = Err e

-- one sign
unfoldable pub sign_at : Sign → List Word → Result (List Word) GrammarFault
sign_at s ws = cond (is_next s ws) (Ok (tail ws)) (Err (Illegal (length ws)))

abbrev pub legal : {A : Type 0} → Option A → List Word → Result (A × List Word) GrammarFault
legal (Some x) ws = Ok (x, tail ws)
legal None ws = Err (Illegal (length ws))

-- NAME
unfoldable pub name_at : Reading (List ℕ)
name_at ws = legal (name_of ws) ws

-- INT
unfoldable pub number_at : Reading ℕ
number_at ws = legal (number_of ws) ws

-- items as long as they start, so many at most
unfoldable pub many : {A : Type 0} → (List Word → Bool) → Reading A → ℕ → Reading (List A)
many starts item zero ws = Ok ([], ws)
many starts item (suc n) ws = cond (starts ws) (item ws >>= λ x. many starts item n x.1 >>= λ y. Ok (x.0 ∷ y.0, y.1)) (Ok ([], ws))

-- what was found before, and what is still found
abbrev pub gathered : {A : Type 0} → List A → Result (List A × List Word) GrammarFault → Result (List A × List Word) GrammarFault
gathered front (Ok y) = Ok (front ++ y.0, y.1)
gathered front (Err f) = Err f

abbrev pub mark_at : Mark → List Word → Result (List Word) GrammarFault
mark_at m ws = sign_at (sign.Mark m) ws

abbrev pub keyword_at : Keyword → List Word → Result (List Word) GrammarFault
keyword_at k ws = sign_at (sign.Keyword k) ws

abbrev pub next_mark : Mark → List Word → Bool
next_mark m ws = is_next (sign.Mark m) ws

abbrev pub next_keyword : Keyword → List Word → Bool
next_keyword k ws = is_next (sign.Keyword k) ws

-- { x }
abbrev pub all_of : {A : Type 0} → (List Word → Bool) → Reading A → Reading (List A)
all_of starts item ws = many starts item (length ws) ws

abbrev pub optional : Option ℕ → List Word → Result (Option ℕ × List Word) GrammarFault
optional (Some n) ws = Ok (Some n, tail ws)
optional None ws = Ok (None, ws)

-- [ INT ]
unfoldable pub number_or_none : Reading (Option ℕ)
number_or_none ws = optional (number_of ws) ws
