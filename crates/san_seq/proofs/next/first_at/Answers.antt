use Rattle.std.proofs.Common.{◌∙◌, ap, sym, Some}
use Rattle.san_net.specs.declared.part.Part.{Part}
use Rattle.san_net.proofs.PartLemmas.{lies_over}
use Rattle.san_seq.proofs.next.first_at.Goals as goal

pub first_of_leaf-first-requires-clause-accepted : goal.first_of_leaf-first-requires-clause-accepted
first_of_leaf-first-requires-clause-accepted c =
    c.is_network.ensures.network.accepted c.args.leaf.0 c.get.result.now (c.part.ensures ∙ ap (λ (p : Part). Some p) (sym c.get.ensures))

pub first_of_leaf-first-requires-clause-over : goal.first_of_leaf-first-requires-clause-over
first_of_leaf-first-requires-clause-over c =
    (lies_over c.args.flat.now c.args.leaf.0 c.get.result.now (c.part.ensures ∙ ap (λ (p : Part). Some p) (sym c.get.ensures)) c.args.marking.now c.requires.sized c.is_network.ensures.laid).within
