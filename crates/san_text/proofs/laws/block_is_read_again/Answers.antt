use Rattle.san_text.proofs.StmtLemmas.{body_law}
use Rattle.san_text.proofs.AlikeLemmas.{alike_said}
use Rattle.san_text.specs.Spelling.{body_words}
use Rattle.san_text.proofs.laws.block_is_read_again.Goals as goal

pub returns : goal.returns
returns c = record {
  words = λ version braces ws p e. alike_said ws (body_words p.0) p.1 ((body_law version braces).kept ws p e).words;
  again = λ version braces ws p e after. ((body_law version braces).kept ws p e).again after tt;
}
