use Rattle.std.proofs.Common.{refl}
use Rattle.std.specs.Fmt.{digits}
use Rattle.san_words.proofs.options.row.Goals as goal

pub optional-requires : goal.optional-requires
unfolding digits
optional-requires c = refl

pub optional-requires-in-Events : goal.optional-requires-in-Events
unfolding digits
optional-requires-in-Events c = refl

pub optional-requires-in-Workers : goal.optional-requires-in-Workers
unfolding digits
optional-requires-in-Workers c = refl

pub optional-requires-in-Window : goal.optional-requires-in-Window
unfolding digits
optional-requires-in-Window c = refl

pub optional-requires-in-Rollbacks : goal.optional-requires-in-Rollbacks
unfolding digits
optional-requires-in-Rollbacks c = refl

pub optional-requires-in-Kind : goal.optional-requires-in-Kind
unfolding digits
optional-requires-in-Kind c = refl

pub optional-requires-in-BatchWorkers : goal.optional-requires-in-BatchWorkers
unfolding digits
optional-requires-in-BatchWorkers c = refl

pub optional-requires-in-FirstRuns : goal.optional-requires-in-FirstRuns
unfolding digits
optional-requires-in-FirstRuns c = refl
