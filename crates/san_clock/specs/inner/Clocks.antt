-- A leaf's timers and draw numbers, as the law says them.
use Rattle.std.specs.Prelude.{ℕ, ◌+◌, Bool, true, false, ◌&&◌, List, [], Option, Some, None, Result, Ok, Err}
use Rattle.std.specs.Option.{option_map}
use Rattle.san_base.specs.declared.ending.Trap.{Trap}
use Rattle.san_expr.specs.Below.{places_below}
use Rattle.san_expr.specs.declared.expr.Expr.{Expr}
use Rattle.san_law.specs.Activity as leaf
use Rattle.san_law.specs.Clocks as law
use Rattle.san_law.specs.Net as net
use Rattle.san_net.specs.Leaf.{activity_in, kind_in}
use Rattle.san_net.specs.declared.activity.Activity.{Activity}
use Rattle.san_clock.specs.Rows.{timer_in}
use Rattle.san_clock.specs.declared.row.Timer.{Timer}

-- one activity's timer, if it has one, and the number of its delay draws
abbrev pub ClockValue : Type 0
ClockValue = Option Timer × ℕ

abbrev pub clock_in : ClockValue → law.Clock
clock_in c = (option_map timer_in c.0, c.1)

abbrev pub clock_by : Result ClockValue Trap → Result law.Clock Trap
clock_by (Ok c) = Ok (clock_in c)
clock_by (Err trap) = Err trap

-- a timer and one draw more, or the activation predicate's trap
abbrev pub timed_at : ℕ → ℕ → Result Bool Trap → Result law.Clock Trap
timed_at due n (Ok held) = Ok (Some (record { due = due; held = held }), n + 1)
timed_at due n (Err trap) = Err trap

-- a pair's cells are below a number
abbrev pub pair_below : Option (Expr × Expr) → ℕ → Bool
pair_below None k = true
pair_below (Some pair) k = places_below pair.0 k && places_below pair.1 k

-- an activity's renewal in a leaf's values, by what was last seen
abbrev pub renewed_in : (ℕ → ℕ) → ℕ → List ℕ → List ℕ → Activity → ClockValue → Result law.Clock Trap
renewed_in draw time seen values a c = law.renewed_act draw time seen values (activity_in [] 0 a) (kind_in a.kind) (option_map timer_in c.0) c.1

-- a clock as it is, or one activated anew
abbrev pub anew_by : Result Bool Trap → ClockValue → Result law.Clock Trap → Result law.Clock Trap
anew_by (Ok true) c go = go
anew_by (Ok false) c go = Ok (clock_in c)
anew_by (Err trap) c go = Err trap

-- an enabled activity's clock: without a timer it is activated
abbrev pub enabled_by : List ℕ → List ℕ → Option net.Timer → ℕ → Option leaf.Pair → Result law.Clock Trap → Result law.Clock Trap
enabled_by seen values x n pair go = law.timed_by seen values x n pair go leaf.Yes
