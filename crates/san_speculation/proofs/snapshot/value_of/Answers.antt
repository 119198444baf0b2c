use Rattle.std.proofs.Common.{sym}
use Rattle.san_speculation.proofs.SnapshotLemmas.{between, value_there}
use Rattle.san_speculation.proofs.snapshot.value_of.Goals as goal

pub returns-in-Ok : goal.returns-in-Ok
returns-in-Ok c = sym (value_there c.args.place c.args.places.now c.args.values.now c.in-Ok.at c.requires.ascending c.requires.long c.in-Ok.ensures.0 c.in-Ok.ensures.1)

pub returns-in-Err : goal.returns-in-Err
returns-in-Err c = sym (between c.args.place c.args.places.now c.args.values.now c.in-Err.field-0 c.in-Err.ensures.1 c.in-Err.ensures.2)
