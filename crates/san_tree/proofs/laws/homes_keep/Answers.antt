use Rattle.san_tree.proofs.ValueLemmas.{home-kept}
use Rattle.san_tree.proofs.laws.homes_keep.Goals as goal

pub returns : goal.returns
returns c = λ nodes shown h root path p. home-kept nodes shown h root path p
