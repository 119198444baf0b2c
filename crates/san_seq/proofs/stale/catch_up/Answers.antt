use Rattle.std.proofs.Common.{arith, ◌∙◌}
use Rattle.std.proofs.lemmas.Option.{slice_get-get_or, slice_get_within}
use Rattle.san_seq.proofs.FlaggedLemmas.{all_copied}
use Rattle.san_seq.proofs.stale.catch_up.Goals as goal

pub copy_at-requires-clause-at : goal.copy_at-requires-clause-at
copy_at-requires-clause-at c =
    let here = slice_get-get_or c.list-changed.result.now c.places.k 0 c.places-test.true in
    omega (arith, slice_get_within c.args.places.now _ _ (c.list-changed.ensures.up c.places.k _ here), c.requires.flags)

pub returns : goal.returns
returns c =
    all_copied c.args.places.now c.list-changed.result.now c.places.k c.places.stable c.args.marking.now c.list-changed.ensures c.requires.flags (c.places.invariant.sized ∙ c.requires.stable) c.places-test.false
    c.places.invariant.same c.places.invariant.copied
