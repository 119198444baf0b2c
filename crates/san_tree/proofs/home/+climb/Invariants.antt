use Rattle.std.proofs.Common.{length}
use Rattle.san_tree.proofs.home.+climb.Given as goal

abbrev pub decreases-climb : goal.decreases-climb
decreases-climb l = length l.path.now
