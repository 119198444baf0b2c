use Rattle.san_text.proofs.CountLemmas.{spots_are, words_count, spots_length}
use Rattle.san_text.proofs.laws.spots_are_those_of_the_words.Goals as goal

pub returns : goal.returns
returns c = record {
  spots = spots_are;
  words = words_count;
  length = spots_length;
}
