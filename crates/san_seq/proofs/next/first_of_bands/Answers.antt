use Rattle.std.proofs.Common.{◌∙◌, arith, ap, sym, Some}
use Rattle.std.proofs.lemmas.Option.{slice_get-get_or, slice_get_within}
use Rattle.san_seq.specs.declared.wakes.Band.{Band}
use Rattle.san_seq.specs.inner.Firsts.{AreEarlierBy}
use Rattle.san_seq.proofs.SearchLemmas.{bands_more, earlier_fewer}
use Rattle.san_seq.proofs.next.first_of_bands.Goals as goal

pub bands-preserved : goal.bands-preserved
bands-preserved c =
    let bands = c.args.bands.now in
    let band = c.index-bands-k.result in
    let parts = c.args.flat.now.parts in
    let m = c.args.marking.now in
    let many = c.first_of_band-first.result.leaf.0 in
    record {
      first = c.first_of_band-first.ensures.first;
      sooner = omega (arith, c.first_of_band-first.ensures.sooner, c.bands.invariant.sooner);
      none = bands_more (λ (b : Band). AreEarlierBy parts b c.args.was c.args.is m many) bands c.bands.k band (slice_get-get_or bands c.bands.k band c.bands-test.true ∙ ap (λ (b : Band). Some b) (sym c.index-bands-k.is)) c.first_of_band-first.ensures.none
          (λ i b u e. earlier_fewer parts b c.args.was c.args.is m c.bands.first.leaf.0 many c.first_of_band-first.ensures.sooner (c.bands.invariant.none i b u e));
    }

pub returns-clause-none : goal.returns-clause-none
returns-clause-none c = λ i b e. c.bands.invariant.none i b (omega (arith, c.bands-test.false, slice_get_within c.args.bands.now i b e)) e
