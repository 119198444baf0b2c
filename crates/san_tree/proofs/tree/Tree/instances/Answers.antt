use Rattle.std.proofs.Common.{arith}
use Rattle.san_tree.proofs.DepthLemmas.{paths-within}
use Rattle.san_tree.proofs.WalkLemmas.{from-nothing}
use Rattle.san_tree.proofs.tree.Tree.instances.Goals as goal

pub returns-clause-order : goal.returns-clause-order
returns-clause-order c =
    from-nothing _ _ _ _ _ _ c.as_slice-2.ensures c.new-out.ensures.items c.new-path.ensures.items c.in_ok-walk.ensures.more

pub returns-clause-within : goal.returns-clause-within
returns-clause-within c =
    paths-within c.args.self.now.nodes c.args.self.now.root _ (omega (arith, c.args.self.now.kept.few, c.args.self.now.kept.there))
    (from-nothing _ _ _ _ _ _ c.as_slice-2.ensures c.new-out.ensures.items c.new-path.ensures.items c.in_ok-walk.ensures.more)
