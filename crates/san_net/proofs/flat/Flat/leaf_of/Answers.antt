use Rattle.std.proofs.Common.{ap, subst, ◌∙◌}
use Rattle.san_net.specs.Network.{Network}
use Rattle.san_net.specs.Tables.{leaves_of_acts}
use Rattle.san_net.specs.Laid.{IsNetwork}
use Rattle.san_net.proofs.FlatLemmas.{leaf_at}
use Rattle.san_net.proofs.ReaderLemmas.{act_there, leaf_there}
use Rattle.san_net.proofs.flat.Flat.leaf_of.Goals as goal

pub returns-clause-value : goal.returns-clause-value
returns-clause-value c =
    let parts = ap (λ (n : Network). n.parts) c.self.view_is in
    leaf_at c.args.self.now.parts c.self.inside.leaf_of.items c.args.act.0 c.index.result.now (c.self.invariant.acts ∙ ap leaves_of_acts parts) c.requires c.index.ensures

pub returns-clause-leaf : goal.returns-clause-leaf
returns-clause-leaf c =
    leaf_there c.args.self.now (subst IsNetwork c.self.view_is c.self.invariant.network) c.args.act.0 c.index.result.now (returns-clause-value c)

pub returns-clause-act : goal.returns-clause-act
returns-clause-act c =
    act_there c.args.self.now (subst IsNetwork c.self.view_is c.self.invariant.network) c.args.act.0 c.index.result.now (returns-clause-value c)
