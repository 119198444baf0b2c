use Rattle.san_speculation.proofs.SnapshotLemmas.{index_is}
use Rattle.san_speculation.proofs.snapshot.index_of.Goals as goal

pub returns : goal.returns
returns c = index_is c.args.place c.args.places.now c.binary_search.result c.requires c.binary_search.ensures.position
