use Rattle.san_text.proofs.StmtLemmas.{stmt_law}
use Rattle.san_text.proofs.AlikeLemmas.{alike_said}
use Rattle.san_text.specs.Spelling.{stmt_words}
use Rattle.san_text.proofs.laws.statement_is_read_again.Goals as goal

pub returns : goal.returns
returns c = record {
  words = λ version braces ws p e. alike_said ws (stmt_words p.0) p.1 (stmt_law version braces ws p e).words;
  again = λ version braces ws p e. (stmt_law version braces ws p e).again;
}
