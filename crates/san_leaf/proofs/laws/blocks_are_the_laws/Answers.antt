use Rattle.san_leaf.proofs.BlockLaws as laws
use Rattle.san_leaf.proofs.laws.blocks_are_the_laws.Goals as goal

pub returns : goal.returns
returns c = laws.blocks_are_the_laws
