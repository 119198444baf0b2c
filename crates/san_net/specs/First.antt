-- What stands first among an atomic's instantaneous activities.
use Rattle.std.specs.Prelude.{ℕ, Bool, true, false, List, [], ◌∷◌, Option, Some, None, Result, Ok, Err, slice_get}
use Rattle.san_base.specs.declared.ending.Trap.{Trap}
use Rattle.san_expr.specs.Meaning.{Meaning, settled, then_do}
use Rattle.san_net.specs.Enabled.{enabled_of}
use Rattle.san_net.specs.Instants.{Named}
use Rattle.san_net.specs.declared.atomic.Atomic.{Atomic}
use Rattle.san_net.specs.declared.first.FirstInstant.{FirstInstant}
use Rattle.san_net.specs.declared.first.FirstInstant.TheVariants as first

-- a trap as an answer, with which one can go on
abbrev pub attempt : {T : Type 0} → Meaning T → Meaning (Result T Trap)
attempt a m = record { answer = Ok (a m).answer; left = (a m).left; looks = (a m).looks; sets = (a m).sets }

-- an activity that isn't there is not enabled
abbrev pub enabled_by : Option Named → Meaning Bool
enabled_by None = settled (Ok false)
enabled_by (Some a) = enabled_of a.1

abbrev pub found_or : ℕ → Meaning FirstInstant → Result Bool Trap → Meaning FirstInstant
found_or k rest (Ok true) = settled (Ok (first.Enabled k))
found_or k rest (Ok false) = rest
found_or k rest (Err trap) = settled (Ok (first.Trapped k trap))

-- the first of these that is enabled or traps
abbrev pub first_among : List Named → List ℕ → Meaning FirstInstant
first_among acts [] = settled (Ok first.None)
first_among acts (k ∷ order) = then_do (attempt (enabled_by (slice_get acts k))) (found_or k (first_among acts order))

-- the instantaneous activities in the order of testing
abbrev pub first_of : Atomic → Meaning FirstInstant
first_of a = first_among a.acts a.instants
