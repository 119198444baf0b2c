use Rattle.std.proofs.Common.{◌∙◌}
use Rattle.san_flat.proofs.CodeLemmas.{numbers-are, twice-counted}
use Rattle.san_flat.proofs.numbers.numbers_of.Goals as goal

pub returns : goal.returns
returns c = λ cells t.
    let shared = c.repeated-shared.ensures ∙ twice-counted cells _ _ t in
    record {
      all = t.all;
      places = c.in_ok-places.ensures ∙ numbers-are cells _ _ c.repeated-shared.result t shared;
      shared = shared;
    }
