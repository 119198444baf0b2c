-- One entry for each word: the code that holds there, if one does; and the first of them.
use Rattle.std.specs.Prelude.{ℕ, suc, Bool, cond, List, [], ◌∷◌, ◌++◌, min, Option, Some, None}
use Rattle.san_check.specs.declared.limits.TheConstants.{MAX_COUNT}
use Rattle.san_check.specs.declared.walk.Fault.{Fault}

abbrev pub Entries : Type 0
Entries = List (Option ℕ)

-- lists of entries, one behind the other
abbrev pub joined : List Entries → Entries
joined [] = []
joined (first ∷ more) = first ++ joined more

-- this code, where it holds
abbrev pub code : ℕ → Bool → Option ℕ
code number holds = cond holds (Some number) None

-- the first code, else the second
infixr 6 ◌else◌
abbrev pub ◌else◌ : Option ℕ → Option ℕ → Option ℕ
(Some n) else other = Some n
None else other = other

-- the first entry with a code, and the number of its word, counted from so many
abbrev pub first_fault : ℕ → Entries → Option Fault
first_fault word [] = None
first_fault word (None ∷ entries) = first_fault (suc word) entries
first_fault word (Some number ∷ entries) = Some (record { code = number; word = word })

-- a word's number counts up to the greatest one, which no text that is read comes near
abbrev pub reported : Fault → Fault
reported fault = record { code = fault.code; word = min fault.word MAX_COUNT }
