-- The value of a reward's term.
use Rattle.std.specs.Prelude.{ℤ, pos, negsuc, nat_le, nat_lt, Option, Some, None, Result, Ok, Err, if◌then◌else◌}
use Rattle.san_base.specs.declared.limits.TheConstants.{MAX_RATED}
use Rattle.san_base.specs.declared.ending.Trap.{Trap}
use Rattle.san_base.specs.declared.term.Rated.{Rated}
use Rattle.san_base.specs.declared.term.Rated.TheVariants.{Value, Fault}

-- a value whose amount is at most the greatest one
abbrev pub in_bounds : ℤ → Option ℤ
in_bounds (pos n) = if nat_le n MAX_RATED then Some (pos n) else None
in_bounds (negsuc n) = if nat_lt n MAX_RATED then Some (negsuc n) else None

-- none where it traps, or is out of its bounds
abbrev pub rated_by : Result ℤ Trap → Option ℤ
rated_by (Ok x) = in_bounds x
rated_by (Err trap) = None

-- a number, or none
abbrev pub term_value : Rated → Option ℤ
term_value (Value v) = Some v
term_value Fault = None
