use Rattle.std.proofs.Common.{◌∙◌, ap, sym, Some}
use Rattle.std.proofs.lemmas.Option.{slice_get-get_or}
use Rattle.san_seq.specs.declared.wakes.Band.{Band}
use Rattle.san_seq.proofs.TouchLemmas.{raised_all, raised_more, raised_none}
use Rattle.san_seq.proofs.stale.raise_bands.Goals as goal

pub bands-init : goal.bands-init
bands-init c = raised_none c.args.bands.now c.args.was c.args.is c.args.flags.now

pub bands-preserved : goal.bands-preserved
bands-preserved c =
    let bands = c.args.bands.now in
    let band = c.index-bands-k.result in
    raised_more bands c.bands.k band c.args.was c.args.is c.args.flags.now c.bands.flags c.raise_band.new.flags (slice_get-get_or bands c.bands.k band c.bands-test.true ∙ ap (λ (b : Band). Some b) (sym c.index-bands-k.is))
    c.bands.invariant c.raise_band.ensures

pub returns : goal.returns
returns c = raised_all c.args.bands.now c.bands.k c.args.was c.args.is c.args.flags.now c.bands.flags c.bands-test.false c.bands.invariant
