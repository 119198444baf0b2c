-- Where a fault stands: how many words are left at it.
use Rattle.std.specs.Prelude.{ℕ}
use Rattle.san_text.specs.declared.codes.TheConstants.{ILLEGAL_TOKEN, TOO_MANY_BRACES, EXPRESSION_TOO_LONG, UNKNOWN_VERSION}
use Rattle.san_text.specs.Steps.{GrammarFault, Illegal, Deep, Long, Version}

abbrev pub left_of : GrammarFault → ℕ
left_of (Illegal n) = n
left_of (Deep n) = n
left_of (Long n) = n
left_of (Version n) = n

-- the same fault where so many are left
abbrev pub with_left : GrammarFault → ℕ → GrammarFault
with_left (Illegal m) n = Illegal n
with_left (Deep m) n = Deep n
with_left (Long m) n = Long n
with_left (Version m) n = Version n

-- the code of a fault
abbrev pub code_of : GrammarFault → ℕ
code_of (Illegal n) = ILLEGAL_TOKEN
code_of (Deep n) = TOO_MANY_BRACES
code_of (Long n) = EXPRESSION_TOO_LONG
code_of (Version n) = UNKNOWN_VERSION
