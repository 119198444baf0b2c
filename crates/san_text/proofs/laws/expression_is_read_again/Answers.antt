use Rattle.san_text.proofs.ExprLemmas.{expr_law}
use Rattle.san_text.proofs.laws.expression_is_read_again.Goals as goal

pub returns : goal.returns
returns c = record {
  spelled = λ version ws p e. (expr_law version ws p e).0;
  again = λ version ws p e. (expr_law version ws p e).1;
}
