use Rattle.std.proofs.Common.{◌≡◌, ◌++◌, drop, map}
use Rattle.san_check.specs.build.Composition.{share_of}
use Rattle.san_check.proofs.build.composition.shares_of.Given as goal

abbrev pub invariant-shares : goal.invariant-shares
invariant-shares l = l.found.items ++ map (share_of l.children) (drop l.share-index l.shares) ≡ map (share_of l.children) l.shares
