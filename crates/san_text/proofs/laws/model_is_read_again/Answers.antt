use Rattle.san_text.proofs.ModelLemmas.{model_law}
use Rattle.san_text.proofs.AlikeLemmas.{alike_said}
use Rattle.san_text.specs.ModelWords.{model_words}
use Rattle.san_text.proofs.laws.model_is_read_again.Goals as goal

pub returns : goal.returns
returns c = record {
  words = λ version ws p e. alike_said ws (model_words p.0) p.1 ((model_law version).kept ws p e).words;
  again = λ version ws p e after. ((model_law version).kept ws p e).again after tt;
}
