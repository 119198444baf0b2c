use Rattle.std.proofs.Common.{◌≡◌, ◌≤◌, take}
use Rattle.std.specs.Str.Parse.{digits_value}
use Rattle.san_lex.specs.declared.byte.TheConstants.{MAX_NUMBER}
use Rattle.san_lex.proofs.byte.value_of.Given as goal

abbrev pub invariant-next : goal.invariant-next
invariant-next l = (l.value ≡ digits_value 10 (take l.d-index l.digits)) × (l.value ≤ MAX_NUMBER)
