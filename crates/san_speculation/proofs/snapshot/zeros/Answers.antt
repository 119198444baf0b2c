use Rattle.std.proofs.Common.{ℕ, List, ◌∙◌, ◌+◌, ◌++◌, ap, drop, map}
use Rattle.san_speculation.proofs.SnapshotLemmas.{none_of, zero_more}
use Rattle.san_speculation.proofs.snapshot.zeros.Goals as goal

pub places-preserved : goal.places-preserved
places-preserved c =
    ap (λ (vs : List ℕ). vs ++ map none_of (drop (c.places.counter + 1) c.args.places.now)) c.in_ok-push.ensures.items
    ∙ zero_more c.places.values.items c.args.places.now c.places.counter c.places-test.true
    ∙ c.places.invariant
