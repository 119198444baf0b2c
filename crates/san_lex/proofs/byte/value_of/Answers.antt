use Rattle.std.proofs.Common.{◌+◌, arith}
use Rattle.san_lex.proofs.RunLemmas.{value_more, value_grows}
use Rattle.san_lex.proofs.byte.value_of.Goals as goal

pub returns-then-more-from : goal.returns-then-more-from
returns-then-more-from c =
    omega (arith, value_more c.args.digits.now c.next.d-index (omega arith), value_grows c.args.digits.now (c.next.d-index + 1), c.digit.ensures.value, c.next.invariant.0)
