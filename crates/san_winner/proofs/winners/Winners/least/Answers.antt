use Rattle.std.proofs.Common.{◌∙◌, ap, arith, slice_index_or, None}
use Rattle.san_winner.specs.Least.{least_from}
use Rattle.san_winner.proofs.TreeLemmas.{top, two}
use Rattle.san_winner.proofs.winners.Winners.least.Goals as goal

pub root-requires : goal.root-requires
root-requires c = let i = c.self.invariant in let t = two _ i.power in omega (arith, t, i.sized, c.as_slice.ensures.len)

pub returns : goal.returns
returns c = let i = c.self.invariant in
    let t = top c.self.inside.size c.self.inside.nodes.items c.self.inside.keys.items i.power i.room i.tree i.leaves in
    c.root.ensures ∙ ap (λ xs. slice_index_or xs 1 None) c.as_slice.ensures.value ∙ t ∙ ap (least_from 0) c.self.view_is
