use Rattle.std.proofs.Common.{◌∙◌, ap, arith, length, slice_set, List, Bool}
use Rattle.san_turn.proofs.Raised.{length_raised_all}
use Rattle.san_turn.proofs.Spread.{spread_is}
use Rattle.san_turn.proofs.marks.spread.Goals as goal

pub set-requires : goal.set-requires
set-requires c =
    let sized = ap (λ (fs : List Bool). length fs) c.raise_all.ensures ∙ length_raised_all c.args.flat.now.parts c.args.written.now c.args.flags.now ∙ c.requires.flags in
    omega (arith, c.requires.leaf, sized)

pub returns : goal.returns
returns c draw limits =
    c.set.ensures ∙ ap (λ (fs : List Bool). slice_set fs c.args.leaf.0 c.args.own) c.raise_all.ensures
    ∙ spread_is c.args.flat.now draw limits c.is_network.ensures.network.numbered.leaves c.args.written.now c.args.leaf.0 c.args.own c.args.flags.now c.requires.flags c.requires.leaf
