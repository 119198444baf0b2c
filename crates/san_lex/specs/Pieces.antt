-- How the code's tokens and faults stand to the words of a text.
use Rattle.std.specs.Prelude.{ℕ, ◌-◌, ◌≡◌, List, map, take, drop, Result, Ok, Err}
use Rattle.san_lex.specs.declared.token.Kind.{Kind}
use Rattle.san_lex.specs.declared.token.Kind.TheVariants as kind
use Rattle.san_lex.specs.declared.token.Token.{Token}
use Rattle.san_lex.specs.declared.token.LexFault.{LexFault}
use Rattle.san_lex.specs.declared.token.LexFault.TheVariants as error
use Rattle.san_lex.specs.Lexer.{Word, Number, Name, Fixed, TokenFault, Bad, Large, Long, Located}

abbrev pub kind_word : List ℕ → Kind → ℕ → ℕ → Word
kind_word text (kind.Number n) from to = Number n
kind_word text kind.Name from to = Name (take (to - from) (drop from text))
kind_word text (kind.Fixed s) from to = Fixed s

abbrev pub located : List ℕ → Token → Located
located text t = record { word = kind_word text t.kind t.start t.end; start = t.start; end = t.end }

abbrev pub LexFails : LexFault → Result (List Located) TokenFault → Type 0
LexFails (error.Bad n) r = r ≡ Err (Bad n)
LexFails (error.Number n) r = r ≡ Err (Large n)
LexFails (error.Name n) r = r ≡ Err (Long n)
LexFails error.NoMemory r = Unit {0}

-- what a function returned is what the definition gives, unless memory ran out
abbrev pub LexGives : List ℕ → Result (List Token) LexFault → Result (List Located) TokenFault → Type 0
LexGives text (Ok ts) r = r ≡ Ok (map (located text) ts)
LexGives text (Err e) r = LexFails e r
