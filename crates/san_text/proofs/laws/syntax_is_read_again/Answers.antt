use Rattle.san_text.proofs.SyntaxLemmas.{syntax_law}
use Rattle.san_text.specs.declared.text.Before.TheVariants as before
use Rattle.san_text.specs.Texts.{words_that_count, words_of}
use Rattle.san_text.proofs.laws.syntax_is_read_again.Goals as goal

pub returns : goal.returns
unfolding words_that_count words_of
returns c = record {
  words = λ ws x e. (syntax_law ws x e).words.said_as;
  counted = λ ws x e. (syntax_law ws x e).words.counted_as before.Other;
  again = λ ws x e. ((syntax_law ws x e).left, (syntax_law ws x e).again);
}
