-- How long a text may be that a program reads, and what was read of a source.
use Rattle.std.specs.Prelude.{ℕ, ◌+◌, ◌≤◌, List, Option, length}
use Rattle.san_base.specs.Flow.{IsUsedUp, Takes, TakesFirst}
use Rattle.san_base.specs.declared.limits.TheConstants.{MAX_MODEL_BYTES}
use Rattle.san_serve.specs.declared.bound.Bound.{Bound}
use Rattle.san_serve.specs.declared.codes.TheConstants.{TEXT_TOO_LONG}
use Rattle.san_text.specs.declared.text.Refusal.{Refusal}

-- E01
abbrev pub model_bound : Bound
model_bound = record { bytes = MAX_MODEL_BYTES; code = TEXT_TOO_LONG }

-- a refusal without a place in the text
abbrev pub too_long : Bound → Refusal
too_long bound = record { code = bound.code; line = 0; column = 0 }

-- more bytes were taken than a text may have
abbrev pub IsTooLong : Bound → Option (List ℕ) → Option (List ℕ) → Type 0
IsTooLong bound left rest = TakesFirst left rest (bound.bytes + 1)

-- the source was read to its end, and gave these bytes
abbrev pub IsRead : Bound → Option (List ℕ) → Option (List ℕ) → List ℕ → Type 0
IsRead bound left rest bytes = Takes left rest bytes × IsUsedUp rest × (length bytes ≤ bound.bytes)
