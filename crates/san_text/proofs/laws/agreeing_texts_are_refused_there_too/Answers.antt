use Rattle.san_text.proofs.RefusedLemmas.{refused_too, text_refused_too}
use Rattle.san_text.proofs.laws.agreeing_texts_are_refused_there_too.Goals as goal

pub returns : goal.returns
returns c = record {
  words = refused_too;
  texts = text_refused_too;
}
