use Rattle.san_tree.proofs.ReachLemmas.{paths-lead}
use Rattle.san_tree.proofs.laws.paths_lead.Goals as goal

pub returns : goal.returns
returns c = λ nodes root. paths-lead nodes root
