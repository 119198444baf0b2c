use Rattle.san_tree.proofs.ApartLemmas.{home-apart}
use Rattle.san_tree.proofs.laws.homes_apart.Goals as goal

pub returns : goal.returns
returns c = home-apart
