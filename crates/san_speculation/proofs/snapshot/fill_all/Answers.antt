use Rattle.std.proofs.Common.{ℕ, List, refl, ◌∙◌, ap}
use Rattle.std.specs.Prelude.{slice_set}
use Rattle.san_speculation.proofs.SnapshotLemmas.{given_all, given_more}
use Rattle.san_speculation.proofs.snapshot.fill_all.Goals as goal

pub places-preserved : goal.places-preserved
places-preserved c =
    ap (λ (xs : List ℕ). slice_set xs c.places.k c.args.value) c.places.invariant
    ∙ given_more (λ q. c.args.value) c.args.places.now c.args.values.now c.places.k c.args.value c.places-test.true c.requires refl

pub returns : goal.returns
returns c = c.places.invariant ∙ given_all (λ q. c.args.value) c.args.places.now c.args.values.now c.places.k c.places-test.false c.requires
