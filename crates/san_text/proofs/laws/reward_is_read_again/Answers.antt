use Rattle.san_text.proofs.RewardLemmas.{reward_law}
use Rattle.san_text.proofs.AlikeLemmas.{alike_said}
use Rattle.san_text.specs.ModelWords.{reward_words}
use Rattle.san_text.proofs.laws.reward_is_read_again.Goals as goal

pub returns : goal.returns
returns c = record {
  words = λ version ws p e. alike_said ws (reward_words p.0) p.1 ((reward_law version).kept ws p e).words;
  again = λ version ws p e after. ((reward_law version).kept ws p e).again after tt;
}
