use Rattle.std.proofs.Common.{◌≤◌, ◌∙◌, sym, ap, slice_index_or, None, length, ◌+◌, ◌-◌, subst}
use Rattle.san_winner.specs.Least.{least_between, span}
use Rattle.san_winner.proofs.TreeLemmas.{part}
use Rattle.san_winner.proofs.winners.Winners.least_between.Goals as goal

pub returns : goal.returns
returns c = let i = c.self.invariant in
    let h : c.args.hi ≤ length c.self.inside.keys.items = subst (λ xs. c.args.hi ≤ length xs) (sym c.self.view_is) c.requires.hi in
    let t = part c.self.inside.size c.args.lo c.args.hi c.self.inside.nodes.items c.self.inside.keys.items c.requires.lo h i.room i.leaves in
    c.between.ensures ∙ ap (λ xs. span (λ v. slice_index_or xs v None) (c.self.inside.size + c.args.lo) (c.args.hi - c.args.lo)) c.as_slice.ensures.value ∙ t ∙ ap (least_between c.args.lo c.args.hi) c.self.view_is
