-- The canonical text of a syntax.
use Rattle.std.specs.Prelude.{ℕ, List}
use Rattle.san_lex.specs.Layout.{show_text}
use Rattle.san_text.specs.declared.syntax.Syntax.{Syntax}
use Rattle.san_text.specs.ModelWords.{syntax_words}

unfoldable pub canonical : Syntax → List ℕ
canonical s = show_text (syntax_words s)
