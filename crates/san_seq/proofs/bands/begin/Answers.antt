use Rattle.std.proofs.Common.{◌∙◌, ◌++◌, ◌∷◌, [], ap, subst, sym, List}
use Rattle.san_base.specs.declared.numbers.LeafId.{LeafId}
use Rattle.san_seq.specs.declared.wakes.Band.{Band}
use Rattle.san_seq.specs.inner.Wakes.{Gains, Stands}
use Rattle.san_seq.proofs.BandLemmas.{more_gains, more_stands}
use Rattle.san_seq.proofs.bands.begin.Goals as goal

pub returns-clause-gains : goal.returns-clause-gains
returns-clause-gains c =
    let new : Band = record { weight = c.args.weight; leaves = c.push.new.self } in
    let one = c.in_ok-push.ensures.items ∙ ap (λ (xs : List LeafId). xs ++ c.args.leaf ∷ []) c.new-leaves.ensures.items in
    subst (Gains c.args.leaf c.args.bands.now.items) (sym c.in_ok-push-2.ensures.items) (more_gains c.args.bands.now.items c.args.leaf new one)

pub returns-clause-there : goal.returns-clause-there
returns-clause-there c =
    let new : Band = record { weight = c.args.weight; leaves = c.push.new.self } in
    let one = c.in_ok-push.ensures.items ∙ ap (λ (xs : List LeafId). xs ++ c.args.leaf ∷ []) c.new-leaves.ensures.items in
    subst (λ (bs : List Band). Stands bs c.args.weight c.args.leaf.0) (sym c.in_ok-push-2.ensures.items) (more_stands c.args.bands.now.items c.args.leaf new one)
