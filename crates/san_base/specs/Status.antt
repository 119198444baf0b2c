-- The exit status of a program.
use Rattle.std.specs.Prelude.{ℕ}
use Rattle.san_base.specs.declared.status.Status.{Status}
use Rattle.san_base.specs.declared.status.Status.TheVariants as status

-- 1 is left free, since shells and runtimes answer it of their own accord
abbrev pub code_of : Status → ℕ
code_of status.Done = 0
code_of status.Words = 2
code_of status.Refused = 3
code_of status.ReadFault = 4
code_of status.WriteFault = 5
code_of status.Stopped = 6
code_of status.NoMemory = 7
