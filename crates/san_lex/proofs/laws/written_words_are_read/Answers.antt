use Rattle.san_lex.specs.Lexer.{tokens}
use Rattle.san_lex.specs.Layout.{Line}
use Rattle.san_lex.proofs.LayoutLemmas.{layout_law}
use Rattle.san_lex.proofs.laws.written_words_are_read.Goals as goal

pub returns : goal.returns
unfolding tokens
returns c = λ ws fit. layout_law Line 0 ws fit 0
