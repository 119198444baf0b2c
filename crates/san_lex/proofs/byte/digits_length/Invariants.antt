use Rattle.std.proofs.Common.{◌≡◌, ◌+◌, ◌-◌, ◌≤◌, length, drop}
use Rattle.san_lex.proofs.byte.digits_length.Given as goal
use Rattle.san_base.specs.Names.{is_digit}
use Rattle.san_lex.specs.Bytes.{run}

abbrev pub invariant-next : goal.invariant-next
invariant-next l = (l.n ≤ length l.bytes) × (l.n + length (run is_digit (drop l.n l.bytes)) ≡ length (run is_digit l.bytes))

abbrev pub decreases-next : goal.decreases-next
decreases-next l = length l.bytes - l.n
