use Rattle.san_tree.proofs.ShareLemmas.{shares-apart}
use Rattle.san_tree.proofs.laws.shares_apart.Goals as goal

pub returns : goal.returns
returns c = λ node h. shares-apart node h
