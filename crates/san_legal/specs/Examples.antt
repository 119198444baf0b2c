-- A small network, written out, and what is kept of a run of it.
use Rattle.std.specs.Prelude.{ℕ, pos, ◌+◌, ◌-◌, nat_le, true, false, List, [], ◌∷◌, Some, None, Ok, slice_index}
use Rattle.san_base.specs.Draws.{pick}
use Rattle.san_expr.specs.declared.expr.Expr.TheVariants.{Number}
use Rattle.san_law.specs.Activity.{Activity, Effected, Timed, Yes}
use Rattle.san_law.specs.Core.{put}
use Rattle.san_law.specs.Examples.{after_ticks, assigned, event_at, leaf_with, yes_if}
use Rattle.san_law.specs.Net.{Net, Private, Row}
use Rattle.san_law.specs.Network.{Limits, Network}
use Rattle.san_law.specs.Order.{is_in, places_of}
use Rattle.san_law.specs.State.{State, index_of}
use Rattle.san_law.specs.Step.{End, Event}
use Rattle.san_law.specs.Trajectory.{Trajectory}
use Rattle.san_legal.specs.Kept.{KeptTimer, KeptRow, KeptState}
use Rattle.san_legal.specs.KeptSteps.{undrawn}
use Rattle.san_net.specs.declared.activity.Case.{Case}

-- after 2 to 4 ticks, it takes the token of its place
abbrev pub slow : Activity
slow = record { kind = Timed (λ u v. Ok (2 + pick u 3)) None; enabled = λ v. yes_if (nat_le 1 (slice_index v 0)); complete = λ u v. assigned ((0, slice_index v 0 - 1) ∷ []) v; impulses = λ v. [] }

-- after 3 ticks, the token of another place
abbrev pub steady : Activity
steady = record { kind = after_ticks 3; enabled = λ v. yes_if (nat_le 1 (slice_index v 1)); complete = λ u v. assigned ((1, slice_index v 1 - 1) ∷ []) v; impulses = λ v. [] }

-- one leaf with both
abbrev pub racing : Network
racing = record { parts = leaf_with (Private 0 ∷ Private 1 ∷ []) 0 (slow ∷ steady ∷ []) ∷ []; shared = 0; initial = 1 ∷ 1 ∷ []; spans = [] }

abbrev pub ten_ticks : Limits
ten_ticks = record { horizon = 10; burst = 5; events = 20 }

abbrev pub race : Net
race = undrawn racing ten_ticks

-- both timers were set at the opening
abbrev pub set_at_opening : KeptTimer
set_at_opening = record { since = 0; values = 1 ∷ 1 ∷ []; held = false }

abbrev pub both_run : KeptRow
both_run = record { timers = Some set_at_opening ∷ Some set_at_opening ∷ []; delays = 1 ∷ 1 ∷ []; cases = 0 ∷ 0 ∷ [] }

abbrev pub at_opening : KeptState
at_opening = record { time = 0; marking = 1 ∷ 1 ∷ []; stable = 1 ∷ 1 ∷ []; rows = record { timers = None ∷ None ∷ []; delays = 0 ∷ 0 ∷ []; cases = 0 ∷ 0 ∷ [] } ∷ []; burst = 0; last = None; count = 0; leaf = 0; act = 0 }

-- the steady one completes first, at 3
abbrev pub steady_first : Event
steady_first = event_at 3 0 1

-- then the slow one is due at 4: at 3 it would have come before, since its number is smaller
abbrev pub after_steady : KeptState
after_steady = record { time = 3; marking = 1 ∷ 0 ∷ []; stable = 1 ∷ 1 ∷ []; rows = record { timers = Some set_at_opening ∷ None ∷ []; delays = 1 ∷ 1 ∷ []; cases = 0 ∷ 1 ∷ [] } ∷ []; burst = 0; last = Some 0; count = 1; leaf = 0; act = 1 }

-- at 4 the slow one can't be first, since the steady one is due at 3
abbrev pub slow_late : Event
slow_late = event_at 4 0 0

-- after both, none runs
abbrev pub after_both : KeptState
after_both = record { time = 4; marking = 0 ∷ 0 ∷ []; stable = 1 ∷ 0 ∷ []; rows = record { timers = None ∷ None ∷ []; delays = 1 ∷ 1 ∷ []; cases = 1 ∷ 1 ∷ [] } ∷ []; burst = 0; last = Some 0; count = 2; leaf = 0; act = 0 }

-- the whole run
abbrev pub steady_then_slow : Trajectory
steady_then_slow = record { events = steady_first ∷ slow_late ∷ []; time = 10; ending = End }

-- the rows of the leaf at the opening and after its first renewal, where all draws are 0
abbrev pub no_draw_taken : Row
no_draw_taken = record { timers = None ∷ None ∷ []; delays = 0 ∷ 0 ∷ []; cases = 0 ∷ 0 ∷ [] }

abbrev pub two_draws_taken : Row
two_draws_taken = record { timers = Some (record { due = 2; held = false }) ∷ Some (record { due = 3; held = false }) ∷ []; delays = 1 ∷ 1 ∷ []; cases = 0 ∷ 0 ∷ [] }

-- the slow one's delay by this draw is 4 ticks, and by 0 it is 2
abbrev pub late_draw : ℕ
late_draw = 12297829382473034411

-- the state after the steady one, where the slow one is due at a time
abbrev pub steady_done : ℕ → State
steady_done due = record { time = 3; marking = 1 ∷ 0 ∷ []; stable = 1 ∷ 1 ∷ []; rows = record { timers = Some (record { due = due; held = false }) ∷ None ∷ []; delays = 1 ∷ 1 ∷ []; cases = 0 ∷ 1 ∷ [] } ∷ []; burst = 0; last = Some 0; count = 1 }

-- the state after both
abbrev pub both_done : State
both_done = record { time = 4; marking = 0 ∷ 0 ∷ []; stable = 1 ∷ 0 ∷ []; rows = record { timers = None ∷ None ∷ []; delays = 1 ∷ 1 ∷ []; cases = 1 ∷ 1 ∷ [] } ∷ []; burst = 0; last = Some 0; count = 2 }

-- the row that the renewal after the steady one gives: its own timer is gone, the slow one's stays
abbrev pub one_left : Row
one_left = record { timers = Some (record { due = 0; held = false }) ∷ None ∷ []; delays = 1 ∷ 1 ∷ []; cases = 0 ∷ 1 ∷ [] }

-- what the steady one's completion does
abbrev pub steady_effect : Effected
steady_effect = record { case = 0; values = put ((1, 0) ∷ []) (1 ∷ 1 ∷ []); sets = λ p. is_in (index_of p (places_of ((1, 0) ∷ []))) }

-- three cases, of which the second has weight 0
abbrev pub weighing : ℕ → Case
weighing weight = record { weight = Number (pos weight); outputs = [] }

abbrev pub one_none_three : List Case
one_none_three = weighing 1 ∷ weighing 0 ∷ weighing 3 ∷ []

-- its only case leaves what is drawn
abbrev pub undecided : Activity
undecided = record { kind = after_ticks 1; enabled = λ v. Yes; complete = λ u v. Ok (record { case = 0; values = u ∷ []; sets = λ p. true }); impulses = λ v. [] }

-- two leaves whose activities have the same number
abbrev pub twice : Network
twice = record { parts = leaf_with [] 0 (slow ∷ []) ∷ leaf_with [] 0 (slow ∷ []) ∷ []; shared = 0; initial = []; spans = [] }
