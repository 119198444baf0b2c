-- The one status that the bytes of a source come to, where no fault and no want of memory stands in the way.
use Rattle.std.specs.Prelude.{ℕ, nat_lt, Bool, true, false, List, length, Result, Ok, Err}
use Rattle.san_base.specs.declared.status.Status.{Status}
use Rattle.san_base.specs.declared.status.Status.TheVariants as status
use Rattle.san_text.specs.declared.text.Refusal.{Refusal}
use Rattle.san_serve.specs.declared.bound.Bound.{Bound}

-- a fault or want of memory, which may come to any bytes
abbrev pub IsHindered : Status → Type 0
IsHindered status.ReadFault = Unit {0}
IsHindered status.WriteFault = Unit {0}
IsHindered status.NoMemory = Unit {0}
IsHindered s = ⊥

-- a text that is too long or refused, or what an accepted one is read as
abbrev pub status_by : {A : Type 0} → (A → Status) → Bool → Result A Refusal → Status
status_by of true read = status.Refused
status_by of false (Err refusal) = status.Refused
status_by of false (Ok x) = of x

-- by how bytes are read, and what status that comes to
abbrev pub settled_by : {A : Type 0} → Bound → (List ℕ → Result A Refusal) → (A → Status) → List ℕ → Status
settled_by bound read of bytes = status_by of (nat_lt bound.bytes (length bytes)) (read bytes)
