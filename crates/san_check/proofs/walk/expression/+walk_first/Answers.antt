use Rattle.san_check.proofs.ExprLemmas.{binary_walks}
use Rattle.san_check.proofs.walk.expression.+walk_first.Goals as goal

pub returns-in-Binary : goal.returns-in-Binary
returns-in-Binary t c =
    binary_walks c.args.places.now c.args.late c.args.e.now c.in-Binary.field-0 c.in-Binary.left c.in-Binary.right c.get-in-Binary.result.now c.get-in-Binary-2.result.now
    c.args.walk.now c.walk_first-in-Binary.new.walk c.walk_first-in-Binary-2.new.walk c.in-Binary.is c.get-in-Binary.ensures c.get-in-Binary-2.ensures c.walk_first-in-Binary.ensures c.walk_first-in-Binary-2.ensures
