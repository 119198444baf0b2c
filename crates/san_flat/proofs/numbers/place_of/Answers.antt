use Rattle.std.proofs.Common.{◌∙◌, ap, sym}
use Rattle.std.specs.Prelude.{slice_index}
use Rattle.san_flat.proofs.CodeLemmas.{place-found, place-lost}
use Rattle.san_flat.proofs.numbers.place_of.Goals as goal

pub returns-in-Some : goal.returns-in-Some
returns-in-Some c = λ homes a there.
    c.place_at.ensures ∙ ap (λ xs. slice_index xs c.in-Some.at) c.deref.ensures.value ∙ place-found homes c.args.numbers.now c.args.home.now c.in-Some.at a there (sym c.get_index_of.ensures.index ∙ c.in-Some.is)

pub returns-in-None : goal.returns-in-None
returns-in-None c = λ homes a there. absurd (place-lost homes c.args.numbers.now c.args.home.now a there (sym c.get_index_of.ensures.index ∙ c.in-None.is))
