-- A value as a predicate's truth.
use Rattle.std.specs.Prelude.{ℤ, Bool, not, Result, Ok, Err}
use Rattle.san_base.specs.declared.ending.Trap.{Trap}
use Rattle.san_expr.specs.Value.{is_zero}

-- true where it isn't 0
abbrev pub truth : Result ℤ Trap → Result Bool Trap
truth (Ok x) = Ok (not (is_zero x))
truth (Err trap) = Err trap
