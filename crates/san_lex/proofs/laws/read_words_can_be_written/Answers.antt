use Rattle.san_lex.specs.Lexer.{tokens}
use Rattle.san_lex.proofs.WordLemmas.{lex_words}
use Rattle.san_lex.proofs.laws.read_words_can_be_written.Goals as goal

pub returns : goal.returns
unfolding tokens
returns c = λ text found e. lex_words 0 0 text found e
