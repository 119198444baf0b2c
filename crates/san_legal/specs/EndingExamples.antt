-- Small networks, one for each ending that a kept state may have.
use Rattle.std.specs.Prelude.{ℕ, nat_eq, [], ◌∷◌, Some, None, Err, if◌then◌else◌}
use Rattle.san_base.specs.declared.ending.Trap.TheVariants as trap
use Rattle.san_law.specs.Activity.{Activity, Instant, Timed, Traps, Yes}
use Rattle.san_law.specs.Examples.{assigned, leaf_with}
use Rattle.san_law.specs.Network.{Limits, Network}
use Rattle.san_legal.specs.Kept.{KeptState}
use Rattle.san_legal.specs.KeptSteps.{kept_opening, undrawn}

-- the limits by their numbers
abbrev pub within : ℕ → ℕ → ℕ → Limits
within horizon burst events = record { horizon = horizon; burst = burst; events = events }

-- what is kept before the first step
abbrev pub opened : Network → Limits → KeptState
opened network limits = kept_opening (undrawn network limits)

-- one leaf without places, with one activity
abbrev pub alone : Activity → Network
alone a = record { parts = leaf_with [] 0 (a ∷ []) ∷ []; shared = 0; initial = []; spans = [] }

-- its test traps
abbrev pub doubtful : Activity
doubtful = record { kind = Instant 0; enabled = λ v. Traps trap.Arith; complete = λ u v. assigned [] v; impulses = λ v. [] }

-- its delay traps
abbrev pub delayless : Activity
delayless = record { kind = Timed (λ u v. Err trap.Delay) None; enabled = λ v. Yes; complete = λ u v. assigned [] v; impulses = λ v. [] }

-- its completion traps at one draw alone
abbrev pub risky : Activity
risky = record { kind = Instant 0; enabled = λ v. Yes; complete = λ u v. if nat_eq u 0 then Err trap.Marking else assigned [] v; impulses = λ v. [] }

-- what is kept after one completion of the leaf that spins
abbrev pub spun : KeptState
spun = record { time = 0; marking = 1 ∷ []; stable = 1 ∷ []; rows = record { timers = None ∷ []; delays = 0 ∷ []; cases = 1 ∷ [] } ∷ []; burst = 1; last = Some 0; count = 1; leaf = 0; act = 0 }
