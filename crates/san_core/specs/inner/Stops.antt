-- How a committed part in code stopped, in the network's numbers.
use Rattle.std.specs.Prelude.{ℕ, ◌≡◌, ◌+◌, List, Option, Some, None, slice_index}
use Rattle.san_base.specs.declared.ending.Ending.{Ending}
use Rattle.san_base.specs.declared.ending.Ending.TheVariants as ending
use Rattle.san_base.specs.declared.ending.Stop.TheVariants as stop
use Rattle.san_base.specs.declared.numbers.Tick.{Tick}
use Rattle.san_law.specs.Step as law
use Rattle.san_turn.specs.declared.need.Need.{Need}
use Rattle.san_turn.specs.declared.need.Need.TheVariants as need
use Rattle.san_core.specs.declared.over.Halt.{Halt}
use Rattle.san_core.specs.declared.over.Over.{Over}
use Rattle.san_core.specs.declared.over.Over.TheVariants as over

-- a trap names its activity by the network's number, where the leaf's first activity has this one
abbrev pub TrapsIn : ℕ → ℕ → Over → Type 0
TrapsIn leaf first over.Unstable = Unit {0}
TrapsIn leaf first over.Events = Unit {0}
TrapsIn leaf first (over.Trapped j act number trap) = (j.0 ≡ leaf) × (number.0 ≡ first + act)

-- and where each leaf's first activity is given
abbrev pub TrapsAmong : List ℕ → Over → Type 0
TrapsAmong firsts over.Unstable = Unit {0}
TrapsAmong firsts over.Events = Unit {0}
TrapsAmong firsts (over.Trapped j act number trap) = number.0 ≡ slice_index firsts j.0 + act

abbrev pub HaltIsNamed : List ℕ → Option Halt → Type 0
HaltIsNamed firsts None = Unit {0}
HaltIsNamed firsts (Some h) = TrapsAmong firsts h.over

-- an ending of the law, by the numbers of the leaves' first activities
abbrev pub ending_by : List ℕ → ℕ → law.Ending → Ending
ending_by firsts time law.End = ending.End (record { 0 = time })
ending_by firsts time law.Unstable = ending.Stop (stop.Unstable (record { 0 = time }))
ending_by firsts time law.Events = ending.Stop (stop.Events (record { 0 = time }))
ending_by firsts time (law.Trapped j k trap) = ending.Stop (stop.Trap trap (record { 0 = time }) (record { 0 = slice_index firsts j + k }))

-- where there is a stop
abbrev pub stopped_by : List ℕ → ℕ → Option law.Ending → Option Ending
stopped_by firsts time None = None
stopped_by firsts time (Some e) = Some (ending_by firsts time e)

-- a stop, or the horizon where the order needs nothing
abbrev pub ended_in : Option Ending → Need → Tick → Option Ending
ended_in (Some e) answer horizon = Some e
ended_in None need.End horizon = Some (ending.End horizon)
ended_in None (need.Settle leaf) horizon = None
ended_in None (need.Refresh leaf) horizon = None
ended_in None (need.Fire leaf act time) horizon = None
