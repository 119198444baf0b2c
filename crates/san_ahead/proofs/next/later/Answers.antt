use Rattle.std.proofs.Common.{ap, arith, ◌∙◌}
use Rattle.san_book.specs.Plans.{numbers_of}
use Rattle.san_ahead.proofs.NextLemmas.{later_past, later_there}
use Rattle.san_ahead.proofs.next.later.Goals as goal

pub returns-then-place-lines : goal.returns-then-place-lines
returns-then-place-lines c =
    c.numbers.ensures ∙ (ap numbers_of c.later.ensures ∙ later_there c.args.lines.now c.args.leaf.0 c.args.after.0 c.args.place.0 c.index-lines-place.result (omega (arith, c.if-place-lines.true)) c.index-lines-place.is)

pub returns-else-place-lines : goal.returns-else-place-lines
returns-else-place-lines c = later_past c.args.lines.now c.args.leaf.0 c.args.after.0 c.args.place.0 (omega (arith, c.if-place-lines.false))
