use Rattle.std.proofs.Common.{arith, ◌∙◌, ap, sym, Some}
use Rattle.san_net.proofs.FlatLemmas.{acts_within}
use Rattle.san_net.proofs.flat.Flat.act_of.Goals as goal

pub overflow_add-result : goal.overflow_add-result
overflow_add-result c =
    let at = c.part.ensures ∙ ap Some (sym c.get.ensures) in
    omega (arith, c.requires.act c.get.result.now at, acts_within c.args.self.now c.args.leaf.0 c.get.result.now c.is_network.ensures.network at, c.is_network.ensures.network.small.acts)
