use Rattle.san_text.proofs.ActLemmas.{act_law}
use Rattle.san_text.proofs.AlikeLemmas.{alike_said}
use Rattle.san_text.specs.ActivityWords.{act_words}
use Rattle.san_text.proofs.laws.activity_is_read_again.Goals as goal

pub returns : goal.returns
returns c = record {
  words = λ version ws p e. alike_said ws (act_words p.0) p.1 ((act_law version).kept ws p e).words;
  again = λ version ws p e after. ((act_law version).kept ws p e).again after tt;
}
