-- Small networks, written out, whose runs are computed.
use Rattle.std.specs.Prelude.{ℕ, pos, length, ◌+◌, ◌-◌, ◌*◌, ◌/◌, nat_le, nat_eq, ◌&&◌, Bool, true, false, List, [], ◌∷◌, Option, Some, None, Result, Ok, Err, if◌then◌else◌, slice_index}
use Rattle.san_base.specs.declared.ending.Trap.{Trap}
use Rattle.san_base.specs.declared.ending.Trap.TheVariants as trap
use Rattle.san_law.specs.Net.{Net, Private, Shared, Slot}
use Rattle.san_law.specs.State.{index_of, opening_state}
use Rattle.san_law.specs.Step.{Ending, Event}
use Rattle.san_law.specs.Trajectory.{Trajectory, trajectory}
use Rattle.san_law.specs.Piece.{LeafState, Outcome, failed}
use Rattle.san_law.specs.Order.{is_in, places_of}
use Rattle.san_law.specs.Reward.{Worth, worth}
use Rattle.san_law.specs.Core.{put}
use Rattle.san_law.specs.Opening.{opening_core}
use Rattle.san_law.specs.Pieces.{pieces}
use Rattle.san_law.specs.Activity.{ActKind, Activity, Answer, Effected, Instant, No, Part, Timed, Yes}
use Rattle.san_law.specs.Network.{Network, net_of}

-- a predicate from a test
abbrev pub yes_if : Bool → Answer
yes_if true = Yes
yes_if false = No

-- the only case of an activity that assigns these values to places
abbrev pub assigned : List (ℕ × ℕ) → List ℕ → Result Effected Trap
assigned ws v = Ok (record { case = 0; values = put ws v; sets = λ p. is_in (index_of p (places_of ws)) })

-- timed with a fixed delay and no pair
abbrev pub after_ticks : ℕ → ActKind
after_ticks delay = Timed (λ u v. Ok delay) None

-- a leaf without rewards
abbrev pub leaf_with : List Slot → ℕ → List Activity → Part
leaf_with slots first activities = record { slots = slots; first = first; activities = activities; rates = λ v. []; terms = [] }

-- two leaves share place 0; the second sets it and its own place, which an instantaneous activity of each waits for
abbrev pub grab : Activity
grab = record { kind = Instant 0; enabled = λ v. yes_if (nat_eq (slice_index v 0) 1 && nat_eq (slice_index v 1) 1); complete = λ u v. assigned ((1, 0) ∷ []) v; impulses = λ v. [] }

-- the second leaf's timed activity sets both
abbrev pub go : Activity
go = record { kind = after_ticks 2; enabled = λ v. yes_if (nat_le 1 (slice_index v 2)); complete = λ u v. assigned ((0, 1) ∷ (1, 1) ∷ (2, slice_index v 2 - 1) ∷ []) v; impulses = λ v. [] }

-- the second leaf's instantaneous activity waits for its own place
abbrev pub own_token : Activity
own_token = record { kind = Instant 0; enabled = λ v. yes_if (nat_le 1 (slice_index v 1)); complete = λ u v. assigned ((1, slice_index v 1 - 1) ∷ []) v; impulses = λ v. [] }

-- the two leaves
abbrev pub low_and_high : Network
low_and_high = record {
  parts = leaf_with (Shared 0 ∷ Private 1 ∷ []) 0 (grab ∷ []) ∷ leaf_with (Shared 0 ∷ Private 2 ∷ Private 3 ∷ []) 1 (go ∷ own_token ∷ []) ∷ [];
  shared = 1;
  initial = 0 ∷ 1 ∷ 0 ∷ 1 ∷ [];
  spans = [];
}

-- one leaf drains its place
abbrev pub drain : Activity
drain = record { kind = Instant 0; enabled = λ v. yes_if (nat_le 1 (slice_index v 0)); complete = λ u v. assigned ((0, slice_index v 0 - 1) ∷ []) v; impulses = λ v. [] }

-- the leaf with so many tokens
abbrev pub drained : ℕ → Network
drained n = record { parts = leaf_with (Private 0 ∷ []) 0 (drain ∷ []) ∷ []; shared = 0; initial = n ∷ []; spans = [] }

-- one leaf puts back what it takes, for ever
abbrev pub spin : Activity
spin = record { kind = Instant 0; enabled = λ v. yes_if (nat_le 1 (slice_index v 0)); complete = λ u v. assigned ((0, slice_index v 0 - 1 + 1) ∷ []) v; impulses = λ v. [] }

-- the leaf that spins
abbrev pub spinning : Network
spinning = record { parts = leaf_with (Private 0 ∷ []) 0 (spin ∷ []) ∷ []; shared = 0; initial = 1 ∷ []; spans = [] }

-- a job that its own leaf's poke reactivates, beside another leaf's tick
abbrev pub job : Activity
job = record { kind = Timed (λ u v. Ok 5) (Some (record { activation = λ v. Yes; reactivation = λ v. yes_if (nat_eq (slice_index v 0) 1) })); enabled = λ v. Yes; complete = λ u v. assigned [] v; impulses = λ v. [] }

-- the poke changes places of its leaf
abbrev pub poke : Activity
poke = record { kind = after_ticks 3; enabled = λ v. yes_if (nat_le 1 (slice_index v 1)); complete = λ u v. assigned ((0, 1) ∷ (1, slice_index v 1 - 1) ∷ []) v; impulses = λ v. [] }

-- the tick changes nothing
abbrev pub idle_tick : Activity
idle_tick = record { kind = after_ticks 2; enabled = λ v. Yes; complete = λ u v. assigned [] v; impulses = λ v. [] }

-- the two leaves
abbrev pub job_and_tick : Network
job_and_tick = record {
  parts = leaf_with (Private 0 ∷ Private 1 ∷ []) 0 (job ∷ poke ∷ []) ∷ leaf_with [] 2 (idle_tick ∷ []) ∷ [];
  shared = 0;
  initial = 0 ∷ 1 ∷ [];
  spans = [];
}

-- one leaf sets the shared place by which the other divides later
abbrev pub set_shared : Activity
set_shared = record { kind = after_ticks 2; enabled = λ v. yes_if (nat_le 1 (slice_index v 1)); complete = λ u v. assigned ((0, 1) ∷ (1, slice_index v 1 - 1) ∷ []) v; impulses = λ v. [] }

-- a division by 0 traps
abbrev pub divided : List ℕ → Result Effected Trap
divided v = if nat_eq (slice_index v 0) 0 then Err trap.Arith else assigned ((1, 10 / slice_index v 0) ∷ (2, slice_index v 2 - 1) ∷ []) v

-- the division reads the shared place
abbrev pub divide : Activity
divide = record { kind = after_ticks 3; enabled = λ v. yes_if (nat_le 1 (slice_index v 2)); complete = λ u v. divided v; impulses = λ v. [] }

-- the two leaves
abbrev pub set_and_divide : Network
set_and_divide = record {
  parts = leaf_with (Shared 0 ∷ Private 1 ∷ []) 0 (set_shared ∷ []) ∷ leaf_with (Shared 0 ∷ Private 2 ∷ Private 3 ∷ []) 1 (divide ∷ []) ∷ [];
  shared = 1;
  initial = 0 ∷ 1 ∷ 0 ∷ 1 ∷ [];
  spans = [];
}

-- one leaf counts its ticks; two rewards of the count and of 5 a tick, and one of the count at 6
abbrev pub count_tick : Activity
count_tick = record {
  kind = after_ticks 3;
  enabled = λ v. yes_if (nat_le 1 (slice_index v 0));
  complete = λ u v. assigned ((0, slice_index v 0 - 1 + 1) ∷ (1, slice_index v 1 + 1) ∷ []) v;
  impulses = λ v. record { reward = 0; rated = Some (pos 5) } ∷ record { reward = 1; rated = Some (pos 5) } ∷ [];
}

-- the leaf that counts, and its rewards
abbrev pub counting : Network
counting = record {
  parts = record {
    slots = Private 0 ∷ Private 1 ∷ [];
    first = 0;
    activities = count_tick ∷ [];
    rates = λ v. Some (pos (slice_index v 1)) ∷ Some (pos (slice_index v 1)) ∷ Some (pos (slice_index v 1)) ∷ [];
    terms = 0 ∷ 1 ∷ 2 ∷ [];
  } ∷ [];
  shared = 0;
  initial = 1 ∷ 0 ∷ [];
  spans = record { from = 0; to = 10; mean = false } ∷ record { from = 0; to = 10; mean = true } ∷ record { from = 6; to = 7; mean = false } ∷ [];
}

-- a tick's event with its impulses
abbrev pub tick_at : ℕ → Event
tick_at time = record { time = time; leaf = 0; act = 0; case = 0; impulses = count_tick.impulses [] }

-- a job is aborted where a flip takes its place away, and activated anew where it gives it back
abbrev pub flip : Activity
flip = record { kind = after_ticks 2; enabled = λ v. yes_if (nat_le 1 (slice_index v 1)); complete = λ u v. assigned ((0, 1 - slice_index v 0) ∷ (1, slice_index v 1 - 1) ∷ []) v; impulses = λ v. [] }

-- the job waits for its place
abbrev pub gated_job : Activity
gated_job = record { kind = after_ticks 5; enabled = λ v. yes_if (nat_eq (slice_index v 0) 1); complete = λ u v. assigned [] v; impulses = λ v. [] }

-- the leaf with both
abbrev pub flipping : Network
flipping = record { parts = leaf_with (Private 0 ∷ Private 1 ∷ []) 0 (flip ∷ gated_job ∷ []) ∷ []; shared = 0; initial = 1 ∷ 2 ∷ []; spans = [] }

-- two activities wait for one place, the second with a greater priority
abbrev pub taking : ℕ → Activity
taking priority = record { kind = Instant priority; enabled = λ v. yes_if (nat_le 1 (slice_index v 0)); complete = λ u v. assigned ((0, slice_index v 0 - 1) ∷ []) v; impulses = λ v. [] }

-- the leaf with both and two tokens
abbrev pub by_priority : Network
by_priority = record { parts = leaf_with (Private 0 ∷ []) 0 (taking 0 ∷ taking 5 ∷ []) ∷ []; shared = 0; initial = 2 ∷ []; spans = [] }

-- a completion that traps, and a delay that comes to 0
abbrev pub overflow : Activity
overflow = record { kind = after_ticks 1; enabled = λ v. Yes; complete = λ u v. Err trap.Marking; impulses = λ v. [] }

-- the leaf that traps
abbrev pub overflowing : Network
overflowing = record { parts = leaf_with [] 0 (overflow ∷ []) ∷ []; shared = 0; initial = []; spans = [] }

-- the delay is 2 less the count
abbrev pub two_less : List ℕ → Result ℕ Trap
two_less v = if nat_le 2 (slice_index v 0) then Err trap.Delay else Ok (2 - slice_index v 0)

-- each completion makes the next delay shorter
abbrev pub hurry : Activity
hurry = record { kind = Timed (λ u v. two_less v) None; enabled = λ v. Yes; complete = λ u v. assigned ((0, slice_index v 0 + 1) ∷ []) v; impulses = λ v. [] }

-- the leaf that hurries
abbrev pub hurrying : Network
hurrying = record { parts = leaf_with (Private 0 ∷ []) 0 (hurry ∷ []) ∷ []; shared = 0; initial = 0 ∷ []; spans = [] }

-- activity 1, whose delays and cases are its draws
abbrev pub toss : Activity
toss = record { kind = Timed (λ u v. Ok u) None; enabled = λ v. Yes; complete = λ u v. Ok (record { case = u; values = v; sets = λ p. false }); impulses = λ v. [] }

-- the leaf that tosses
abbrev pub tossing : Network
tossing = record { parts = leaf_with [] 1 (toss ∷ []) ∷ []; shared = 0; initial = []; spans = [] }

-- draw k of stream s is 10s + k
abbrev pub tossed : Net
tossed = net_of (λ s k. 10 * s + k) tossing (record { horizon = 70; burst = 10; events = 20 })

-- a toss with its case
abbrev pub toss_at : ℕ → ℕ → Event
toss_at time case = record { time = time; leaf = 0; act = 0; case = case; impulses = [] }

-- these networks need no draw
abbrev pub net_with : Network → ℕ → ℕ → ℕ → Net
net_with network horizon burst events = net_of (λ s k. 0) network (record { horizon = horizon; burst = burst; events = events })

-- the run from the opening
abbrev pub run_of : Net → Option Trajectory
run_of net = trajectory net (opening_state net)

-- an event of the only case, without impulses
abbrev pub event_at : ℕ → ℕ → ℕ → Event
event_at time leaf act = record { time = time; leaf = leaf; act = act; case = 0; impulses = [] }

-- a run that came to an ending
abbrev pub ran : List Event → ℕ → Ending → Option Trajectory
ran events time ending = Some (record { events = events; time = time; ending = ending })

-- the leaf that divides, as it is before it fires
abbrev pub about_to_divide : LeafState
about_to_divide = record { values = 0 ∷ 1 ∷ []; row = record { timers = Some (record { due = 3; held = false }) ∷ []; delays = 1 ∷ []; cases = 0 ∷ [] }; seen = [] }

-- a trap of its division, picked for completion
abbrev pub failed_division : Outcome
failed_division = failed about_to_divide (record { act = 0; trap = trap.Arith; picked = true })

-- how many pieces a run has
abbrev pub pieces_of : Net → ℕ
pieces_of net = length (pieces net (opening_core net))

-- a reward's worth over the whole run
abbrev pub worth_of : Net → ℕ → Option Trajectory → Option Worth
worth_of net r None = None
worth_of net r (Some t) = Some (worth net r (opening_state net) t.events)
