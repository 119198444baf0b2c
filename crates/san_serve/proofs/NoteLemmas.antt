-- A line of the notes that was put, whole or in part.
use Rattle.std.proofs.Common.{ℕ, List, Option, Bool, true, false, inl, inr}
use Rattle.std.specs.Prelude.{MatchBool}
use Rattle.san_base.specs.Flow.{Appends, AppendsPrefix, CountRose}
use Rattle.san_serve.specs.Notes.{Noted}

pub noted_by : (done : Bool) (a b : Option (List ℕ)) (f g : ℕ) (line : List ℕ) → MatchBool done (Appends a b line) (AppendsPrefix a b line) → MatchBool done (Unit {0}) (CountRose f g) → Noted a b f g line
noted_by true a b f g line p r = inl p
noted_by false a b f g line p r = inr (r, p)
