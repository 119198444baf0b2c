-- The line of the notes.
use Rattle.std.specs.Prelude.{ℕ, ◌≡◌, ◌⊎◌, ◌++◌, nat_lt, if◌then◌else◌, List, [], ◌∷◌, Option, Result, Ok, Err, codes}
use Rattle.std.specs.Fmt.{decimal}
use Rattle.san_base.specs.Flow.{Appends, AppendsPrefix, CountRose}
use Rattle.san_base.specs.declared.status.Status.{Status}
use Rattle.san_base.specs.declared.status.Status.TheVariants as status
use Rattle.san_text.specs.declared.text.Refusal.{Refusal}

-- the notes got this line, or a front part of it where their count of faults rose
abbrev pub Noted : Option (List ℕ) → Option (List ℕ) → ℕ → ℕ → List ℕ → Type 0
Noted old new before now line = Appends old new line ⊎ (CountRose before now × AppendsPrefix old new line)

-- two digits
abbrev pub code_digits : ℕ → List ℕ
code_digits code = if nat_lt code 10 then 48 ∷ decimal code else decimal code

-- `refused Ecc L C`: the code, the line and the column
unfoldable pub refusal_line : Refusal → List ℕ
refusal_line refusal = codes "refused E" ++ code_digits refusal.code ++ 32 ∷ decimal refusal.line ++ 32 ∷ decimal refusal.column ++ 10 ∷ []

-- that of a status without a refusal
abbrev pub status_line : Status → List ℕ
status_line status.Words = codes "words\n"
status_line status.ReadFault = codes "read\n"
status_line status.WriteFault = codes "write\n"
status_line status.NoMemory = codes "memory\n"
status_line s = codes ""

-- the line of a status, where it may be of such refusals
abbrev pub IsLine : Status → (Refusal → Type 0) → List ℕ → Type 0
IsLine status.Refused Is line = (refusal : Refusal) × Is refusal × (line ≡ refusal_line refusal)
IsLine s Is line = line ≡ status_line s

-- by an answer, which status and which line it comes to: memory may run out for the line of a refusal
abbrev pub Concludes : Result Status Refusal → Status → (List ℕ → Type 0) → Type 0
Concludes (Ok was) s IsPut = (s ≡ was) × IsPut (status_line was)
Concludes (Err refusal) status.Refused IsPut = IsPut (refusal_line refusal)
Concludes (Err refusal) status.NoMemory IsPut = IsPut (status_line status.NoMemory)
Concludes (Err refusal) s IsPut = ⊥
