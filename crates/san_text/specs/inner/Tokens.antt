-- The words of tokens.
use Rattle.std.specs.Prelude.{ℕ, List, map}
use Rattle.san_lex.specs.declared.token.Token.{Token}
use Rattle.san_lex.specs.Lexer.{Word}
use Rattle.san_lex.specs.Pieces.{kind_word}

-- a token without its offsets
abbrev pub word : List ℕ → Token → Word
word text t = kind_word text t.kind t.start t.end

abbrev pub words : List ℕ → List Token → List Word
words text = map (word text)
