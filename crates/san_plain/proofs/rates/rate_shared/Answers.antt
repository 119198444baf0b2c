use Rattle.std.proofs.Common.{◌∙◌, ap, subst, List}
use Rattle.std.specs.Prelude.{slice_get}
use Rattle.san_base.specs.declared.numbers.LeafId.{LeafId}
use Rattle.san_plain.specs.inner.Rates.{FollowsAt}
use Rattle.san_plain.proofs.RateLemmas.{place_leaves}
use Rattle.san_plain.proofs.RatedLemmas.{rated_within}
use Rattle.san_plain.proofs.rates.rate_shared.Goals as goal

pub rate_leaves-requires-clause-leaves : goal.rate_leaves-requires-clause-leaves
rate_leaves-requires-clause-leaves c = λ k leaf is.
    let n = c.args.flat.now in
    let are = c.at.ensures ∙ c.requires.rated.each c.args.place.0 c.requires.place in
    rated_within n c.args.place.0 (Rattle.std.proofs.Common.length n.parts) (c.is_network.ensures.importers c.args.place.0) k leaf (ap (λ (ls : List LeafId). slice_get ls k) (Rattle.std.proofs.Common.sym are) ∙ is)

pub returns-clause-rates : goal.returns-clause-rates
returns-clause-rates c =
    let are = c.at.ensures ∙ c.requires.rated.each c.args.place.0 c.requires.place in
    place_leaves c.args.flat.now c.args.marking.now c.args.except.0 c.args.before.now c.args.place.0 c.args.tally.now c.rate_leaves.new.tally c.is_network.ensures.network.numbered.leaves
    (subst (λ (leaves : List LeafId). FollowsAt c.args.flat.now leaves c.args.except.0 c.args.marking.now c.args.tally.now c.rate_leaves.new.tally) are c.rate_leaves.ensures)
