use Rattle.std.proofs.Common.{◌≡◌, ◌+◌, length, sum_by}
use Rattle.san_board.proofs.locked.settle.Given as goal

abbrev pub invariant-passes : goal.invariant-passes
invariant-passes g l =
    record {
      parts : l.all.parts ≡ length l.yielded + 1;
      amount : l.all.amount ≡ l.initial.all.amount + sum_by (λ p. p.booked) l.yielded;
    }
