use Rattle.std.proofs.Common.{ℕ, List, ◌∙◌, ap}
use Rattle.std.specs.Prelude.{slice_set}
use Rattle.san_speculation.specs.Snapshots.{shown_at}
use Rattle.san_speculation.proofs.SnapshotLemmas.{given_all, given_more}
use Rattle.san_speculation.proofs.snapshot.show_all.Goals as goal

pub places-preserved : goal.places-preserved
places-preserved c =
    ap (λ (xs : List ℕ). slice_set xs c.places.k c.read.result) c.places.invariant
    ∙ given_more (shown_at c.args.ahead.now.lines c.args.stamp) c.args.places.now c.args.values.now c.places.k c.read.result c.places-test.true c.requires c.read.ensures

pub returns : goal.returns
returns c = c.places.invariant ∙ given_all (shown_at c.args.ahead.now.lines c.args.stamp) c.args.places.now c.args.values.now c.places.k c.places-test.false c.requires
