use Rattle.std.proofs.Common.{◌∙◌, sym}
use Rattle.indexmap.specs.IndexMap.{get}
use Rattle.san_tree.proofs.SharedLemmas.{none_there, noted, some_there}
use Rattle.san_tree.specs.inner.Shared.{same_part}
use Rattle.san_tree.proofs.shared.note.Goals as goal

pub returns-then-contains_key : goal.returns-then-contains_key
returns-then-contains_key c = some_there (get same_part c.args.table.now) c.args.part c.args.place (sym c.contains_key.ensures ∙ c.if-contains_key.true)

pub returns : goal.returns
returns c = noted (get same_part c.args.table.now) (get same_part c.insert.new.self) c.args.part c.args.place (none_there _ (sym c.contains_key.ensures ∙ c.if-contains_key.false)) c.in_ok-insert.ensures.updates.0
