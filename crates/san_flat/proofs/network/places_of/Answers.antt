use Rattle.std.proofs.Common.{◌∙◌, ◌++◌, ap, true, false}
use Rattle.san_flat.proofs.AssembledLemmas.{values-ordered}
use Rattle.san_flat.specs.inner.Sightings.{picked}
use Rattle.san_flat.proofs.network.places_of.Goals as goal

pub returns-clause-initial : goal.returns-clause-initial
returns-clause-initial c = λ homes initial w.
    c.in_ok-initial.ensures
    ∙ ap (λ xs. picked true xs c.as_slice-2.result.now ++ picked false xs c.as_slice-2.result.now) c.as_slice.ensures.value
    ∙ ap (λ xs. picked true c.args.seen.counts.items xs ++ picked false c.args.seen.counts.items xs) c.as_slice-2.ensures.value
    ∙ values-ordered homes initial c.args.seen w
