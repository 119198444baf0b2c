use Rattle.std.proofs.Common.{refl, slice_index_or}
use Rattle.std.proofs.lemmas.Option.{slice_get-get_or}
use Rattle.san_seq.specs.declared.wakes.Band.{Band}
use Rattle.san_seq.proofs.BandLemmas.{joined_gains, joined_stands}
use Rattle.san_seq.proofs.bands.join_band.Goals as goal

pub returns-clause-gains : goal.returns-clause-gains
returns-clause-gains c =
    let bands = c.args.bands.now in
    let at = c.args.at in
    let old = slice_index_or bands at c.index-bands-at.result in
    let new : Band = record { weight = old.weight; leaves = c.join.new.leaves } in
    joined_gains c.join.result bands at c.args.leaf old new (slice_get-get_or bands at c.index-bands-at.result c.requires) refl c.join.ensures

pub returns-clause-there : goal.returns-clause-there
returns-clause-there c =
    let bands = c.args.bands.now in
    let at = c.args.at in
    let old = slice_index_or bands at c.index-bands-at.result in
    let new : Band = record { weight = old.weight; leaves = c.join.new.leaves } in
    joined_stands c.join.result bands at c.args.leaf old new (slice_get-get_or bands at c.index-bands-at.result c.requires) refl c.join.ensures
