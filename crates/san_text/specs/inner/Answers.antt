-- How what the code answers stands to what reading gives.
use Rattle.std.specs.Prelude.{◌≡◌, Result, Ok, Err}
use Rattle.san_text.specs.declared.words.ReadError.{ReadError}
use Rattle.san_text.specs.declared.words.ReadError.TheVariants as error
use Rattle.san_text.specs.Steps.{GrammarFault, Illegal, Deep, Long, Version}

abbrev pub Fails : {Y : Type 0} → ReadError → Result Y GrammarFault → Type 0
Fails error.Memory read = Unit {0}
Fails (error.Illegal n) read = read ≡ Err (Illegal n)
Fails (error.Deep n) read = read ≡ Err (Deep n)
Fails (error.Long n) read = read ≡ Err (Long n)
Fails (error.Version n) read = read ≡ Err (Version n)

-- what a function returned is what reading gives, unless memory ran out
abbrev pub GivesRead : {Y : Type 0} → Result Y ReadError → Result Y GrammarFault → Type 0
GivesRead (Ok x) read = read ≡ Ok x
GivesRead (Err e) read = Fails e read

abbrev pub Kept : {X : Type 0} → Result X ReadError → X → Type 0
Kept (Ok x) y = x ≡ y
Kept (Err e) y = e ≡ error.Memory
