-- What a whole text parses to, and where its faults stand.
use Rattle.std.specs.Prelude.{ℕ, suc, ◌-◌, ◌≡◌, Bool, true, false, cond, nat_eq, List, [], ◌∷◌, length, map, take, drop, Result, Ok, Err}
use Rattle.san_lex.specs.declared.keyword.Keyword.{Keyword}
use Rattle.san_lex.specs.declared.keyword.Keyword.TheVariants as keyword
use Rattle.san_lex.specs.declared.sign.Sign.{Sign}
use Rattle.san_lex.specs.declared.sign.Sign.TheVariants as sign
use Rattle.san_lex.specs.Lexer.{Word, Number, Name, Fixed, Located, tokens, word_of}
use Rattle.san_lex.specs.Lexer as lexer
use Rattle.san_text.specs.declared.codes.TheConstants.{BAD_BYTE, NUMBER_TOO_LARGE, NAME_TOO_LONG, ILLEGAL_TOKEN, TOO_MANY_BRACES, EXPRESSION_TOO_LONG, UNKNOWN_VERSION}
use Rattle.san_text.specs.declared.syntax.Syntax.{Syntax}
use Rattle.san_text.specs.declared.text.Refusal.{Refusal}
use Rattle.san_text.specs.declared.text.Parsed.{Parsed}
use Rattle.san_text.specs.declared.text.Before.{Before}
use Rattle.san_text.specs.declared.text.Before.TheVariants as before
use Rattle.san_text.specs.declared.text.ParseFault.{ParseFault}
use Rattle.san_text.specs.declared.text.ParseFault.TheVariants as error
use Rattle.san_text.specs.Steps.{GrammarFault, Illegal, Deep, Long, Version}
use Rattle.san_text.specs.Models.{syntax_at}
use Rattle.san_text.specs.ModelWords.{syntax_words}

-- line and column behind these bytes, from such a line and column on
abbrev pub spot_after : ℕ → ℕ → List ℕ → ℕ × ℕ
spot_after line column [] = (line, column)
spot_after line column (b ∷ bs) = cond (nat_eq b 10) (spot_after (suc line) 1 bs) (spot_after line (suc column) bs)

unfoldable pub spot_of : List ℕ → ℕ → ℕ × ℕ
spot_of text offset = spot_after 1 1 (take offset text)

abbrev pub refusal : ℕ → ℕ × ℕ → Refusal
refusal code spot = record { code = code; line = spot.0; column = spot.1 }

unfoldable pub refused : ℕ → List ℕ → ℕ → Refusal
refused code text offset = refusal code (spot_of text offset)

abbrev pub start_or : ℕ → List Located → ℕ
start_or end [] = end
start_or end (p ∷ ps) = p.start

-- the offset of the token at which so many are left, or the end of the text
unfoldable pub offset_of : List ℕ → List Located → ℕ → ℕ
offset_of text ps left = start_or (length text) (drop (length ps - left) ps)

abbrev pub after_keyword : Keyword → Before
after_keyword keyword.Instant = before.Instant
after_keyword k = before.Other

abbrev pub after_sign : Sign → Before
after_sign (sign.Keyword k) = after_keyword k
after_sign s = before.Other

abbrev pub after_name : Before → Before
after_name before.Instant = before.Named
after_name b = before.Other

-- what stands before the next word: `instant`, or it and a name behind it
abbrev pub after_word : Before → Word → Before
after_word b (Number n) = before.Other
after_word b (Name s) = after_name b
after_word b (Fixed s) = after_sign s

abbrev pub is_counted_name : Before → Bool
is_counted_name before.Named = false
is_counted_name b = true

-- a name or number; the word `priority` behind `instant NAME` isn't counted
abbrev pub is_counted : Before → Word → Bool
is_counted b (Number n) = true
is_counted b (Name s) = is_counted_name b
is_counted b (Fixed s) = false

-- the offsets of the words that count
abbrev pub spots_after : Before → List Located → List ℕ
spots_after b [] = []
spots_after b (p ∷ ps) = cond (is_counted b p.word) (p.start ∷ spots_after (after_word b p.word) ps) (spots_after (after_word b p.word) ps)

unfoldable pub spots_of : List Located → List ℕ
spots_of ps = spots_after before.Other ps

-- the words that count
abbrev pub counted_after : Before → List Word → List Word
counted_after b [] = []
counted_after b (w ∷ ws) = cond (is_counted b w) (w ∷ counted_after (after_word b w) ws) (counted_after (after_word b w) ws)

unfoldable pub words_that_count : List Word → List Word
words_that_count ws = counted_after before.Other ws

-- the names and numbers of a syntax in text order
unfoldable pub words_of : Syntax → List Word
words_of s = words_that_count (syntax_words s)

-- the tokens of these words
abbrev pub counting_after : Before → List Located → List Located
counting_after b [] = []
counting_after b (p ∷ ps) = cond (is_counted b p.word) (p ∷ counting_after (after_word b p.word) ps) (counting_after (after_word b p.word) ps)

unfoldable pub counting : List Located → List Located
counting ps = counting_after before.Other ps

abbrev pub start_of : Located → ℕ
start_of p = p.start

abbrev pub lex_refusal : List ℕ → lexer.TokenFault → Refusal
lex_refusal text (lexer.Bad at) = refused BAD_BYTE text at
lex_refusal text (lexer.Large at) = refused NUMBER_TOO_LARGE text at
lex_refusal text (lexer.Long at) = refused NAME_TOO_LONG text at

abbrev pub read_refusal : List ℕ → List Located → GrammarFault → Refusal
read_refusal text ps (Illegal left) = refused ILLEGAL_TOKEN text (offset_of text ps left)
read_refusal text ps (Deep left) = refused TOO_MANY_BRACES text (offset_of text ps left)
read_refusal text ps (Long left) = refused EXPRESSION_TOO_LONG text (offset_of text ps left)
read_refusal text ps (Version left) = refused UNKNOWN_VERSION text (offset_of text ps left)

abbrev pub parsed_words : List ℕ → List Located → Result (Syntax × ℕ) GrammarFault → Result Parsed Refusal
parsed_words text ps (Ok x) = Ok (record { syntax = x.0; spots = spots_of ps; system = offset_of text ps x.1 })
parsed_words text ps (Err f) = Err (read_refusal text ps f)

abbrev pub parsed_tokens : List ℕ → Result (List Located) lexer.TokenFault → Result Parsed Refusal
parsed_tokens text (Ok ps) = parsed_words text ps (syntax_at (map word_of ps))
parsed_tokens text (Err f) = Err (lex_refusal text f)

-- the syntax of a text with its offsets, or its refusal
unfoldable pub parsed : List ℕ → Result Parsed Refusal
parsed text = parsed_tokens text (tokens text)

abbrev pub ParseFails : ParseFault → Result Parsed Refusal → Type 0
ParseFails (error.Refused r) read = read ≡ Err r
ParseFails error.NoMemory read = Unit {0}

-- what parsing answered is what the text parses to, unless memory ran out
abbrev pub Parses : Result Parsed ParseFault → Result Parsed Refusal → Type 0
Parses (Ok x) read = read ≡ Ok x
Parses (Err e) read = ParseFails e read
