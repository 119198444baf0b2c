use Rattle.std.proofs.Common.{ap, sym, ◌∙◌, arith, List}
use Rattle.std.specs.Prelude.{slice_get}
use Rattle.san_net.specs.declared.part.Part.{Part}
use Rattle.san_net.proofs.FlatLemmas.{places_within}
use Rattle.san_net.proofs.flat.Flat.assemble.Goals as goal

pub importers_table-requires-clause-within : goal.importers_table-requires-clause-within
importers_table-requires-clause-within c =
    λ n p is i place at.
    let low = places_within _ c.requires n p (ap (λ (ps : List Part). slice_get ps n) (sym c.deref.ensures.value) ∙ is) i place at in
    let many = c.len.ensures in
    let same = c.args.initial.ok in
    omega (arith, low, many, same)
