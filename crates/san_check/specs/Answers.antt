-- How what the checks answer stands to the first fault.
use Rattle.std.specs.Prelude.{◌≡◌, Ok, Err, Result, Some, None}
use Rattle.std.specs.Option.{option_map}
use Rattle.san_text.specs.declared.syntax.Syntax.{Syntax}
use Rattle.san_check.specs.declared.tree.CheckFault.{CheckFault}
use Rattle.san_check.specs.declared.tree.CheckFault.TheVariants as fault
use Rattle.san_check.specs.walk.Entries.{reported}
use Rattle.san_check.specs.walk.Model.{syntax_fault}

abbrev pub RefusesSyntax : CheckFault → Syntax → Type 0
RefusesSyntax (fault.Refused code word) s = option_map reported (syntax_fault s) ≡ Some (record { code = code; word = word })
RefusesSyntax fault.NoMemory s = Unit {0}

-- a syntax is refused at its first fault, and passes where it has none
abbrev pub Checks : {A : Type 0} → Result A CheckFault → Syntax → Type 0
Checks (Ok passed) s = syntax_fault s ≡ None
Checks (Err e) s = RefusesSyntax e s
