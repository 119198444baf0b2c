-- Two small leaves that share a place, written out, and what is computed of them.
use Rattle.std.specs.Prelude.{ℕ, pos, true, false, List, [], ◌∷◌, Option, None, Some}
use Rattle.san_expr.specs.declared.expr.Expr.TheVariants.{Number, Place}
use Rattle.san_expr.specs.declared.dist.Dist.TheVariants as dist
use Rattle.san_law.specs.Clocks.{renewed_row}
use Rattle.san_law.specs.Net.{Net}
use Rattle.san_law.specs.Net as net
use Rattle.san_base.specs.declared.numbers.LeafId.{LeafId}
use Rattle.san_net.specs.Instants.{Named, instants_of}
use Rattle.san_net.specs.Leaf.{leaf_of}
use Rattle.san_net.specs.Network.{Network, net_of}
use Rattle.san_net.specs.declared.activity.Input.TheVariants as input
use Rattle.san_net.specs.declared.activity.Output.{Output}
use Rattle.san_net.specs.declared.activity.Output.TheVariants as output
use Rattle.san_net.specs.declared.activity.Activity.{Activity}
use Rattle.san_net.specs.declared.activity.ActKind.TheVariants.{Timed, Instant}
use Rattle.san_net.specs.declared.activity.Case.{Case}
use Rattle.san_net.specs.declared.atomic.Atomic.{Atomic}
use Rattle.san_net.specs.declared.part.Part.{Part}
use Rattle.san_net.specs.declared.part.Reward.{Reward}
use Rattle.san_net.specs.declared.part.Slot.{Slot}
use Rattle.san_net.specs.declared.part.Slot.TheVariants as slot
use Rattle.san_net.specs.declared.part.Span.{Span}
use Rattle.san_net.specs.declared.part.Span.TheVariants as span

abbrev pub letter_a : List ℕ
letter_a = 97 ∷ []

abbrev pub letter_b : List ℕ
letter_b = 98 ∷ []

-- a case of weight 1
abbrev pub one_case : List Output → List Case
one_case outputs = record { weight = Number (pos 1); outputs = outputs } ∷ []

-- in p 1; delay table 2:1; out q 1;
abbrev pub moving : ℕ → ℕ → Activity
moving p q = record { kind = Timed (dist.Table ((2, 1) ∷ [])) None; inputs = input.Arc p 1 ∷ []; cases = one_case (output.Arc q 1 ∷ []) }

-- instantaneous, with a priority: in p w; out q 1;
abbrev pub taking : ℕ → ℕ → ℕ → ℕ → Activity
taking priority p w q = record { kind = Instant priority; inputs = input.Arc p w ∷ []; cases = one_case (output.Arc q 1 ∷ []) }

abbrev pub atomic_of : List ℕ → List Named → Atomic
atomic_of initial acts = record { name = letter_a; initial = initial; acts = acts; instants = instants_of acts; rates = []; impulses = [] }

-- place s; place once = 1; timed a { in once; delay table 2:1; out s; }
abbrev pub putter : Atomic
putter = atomic_of (0 ∷ 1 ∷ []) ((letter_a, moving 1 0) ∷ [])

-- place n; place s; instant a { in s; out n; } instant b priority 5 { in s 2; out n; }
abbrev pub getter : Atomic
getter = atomic_of (0 ∷ 0 ∷ []) ((letter_a, taking 0 1 1 0) ∷ (letter_b, taking 5 1 2 0) ∷ [])

abbrev pub leaf_id : ℕ → LeafId
leaf_id k = record { 0 = k }

abbrev pub private : ℕ → Slot
private place = slot.Private (record { 0 = place })

abbrev pub shared : ℕ → Slot
shared place = slot.Shared (record { 0 = place })

abbrev pub put_part : Part
put_part = record { leaf = leaf_id 0; first = record { 0 = 0 }; atomic = putter; slots = shared 0 ∷ private 1 ∷ [] }

abbrev pub get_part : Part
get_part = record { leaf = leaf_id 1; first = record { 0 = 1 }; atomic = getter; slots = private 2 ∷ shared 0 ∷ [] }

-- the two leaves share s, which is place 0; reward a on putter at 6 { }
abbrev pub put_and_get : Network
put_and_get = record {
  parts = put_part ∷ get_part ∷ [];
  paths = letter_a ∷ letter_b ∷ [];
  initial = 0 ∷ 1 ∷ 0 ∷ [];
  shared = 1;
  rewards = record { name = letter_a; atomic = 0; span = span.At (record { 0 = 6 }) } ∷ [];
}

-- a row of one activity, with so many delay draws taken
abbrev pub row_with : List (Option net.Timer) → ℕ → net.Row
row_with timers delays = record { timers = timers; delays = delays ∷ []; cases = 0 ∷ [] }

abbrev pub timer : ℕ → net.Timer
timer due = record { due = due; held = false }

-- the putter's renewal at time 10, with so many tokens in once
abbrev pub renewed_putter : ℕ → List (Option net.Timer) → net.Renewing
renewed_putter once timers = renewed_row (λ s k. 0) (leaf_of put_part) 10 [] (record { values = 0 ∷ once ∷ []; row = row_with timers 0 })

-- priorities 3, none, 7 and 3
abbrev pub four_activities : List Named
four_activities = (letter_a, taking 3 0 1 0) ∷ (letter_a, moving 0 0) ∷ (letter_a, taking 7 0 1 0) ∷ (letter_a, taking 3 0 1 0) ∷ []

-- the network's run up to time 5; all its draws are 0
abbrev pub net_to_five : Net
net_to_five = net_of put_and_get (λ s k. 0) (record { horizon = 5; burst = 10; events = 20 })

-- place p = 1; place n; timed a { in p; delay det 3; out p; out n; }
-- three rewards of n and 5 at each tick of the activity: over 0 10, the mean over 0 10, and n alone at 6
abbrev pub counter : Atomic
counter = record {
  name = letter_a;
  initial = 1 ∷ 0 ∷ [];
  acts = (letter_a, record { kind = Timed (dist.Det (Number (pos 3))) None; inputs = input.Arc 0 1 ∷ []; cases = one_case (output.Arc 0 1 ∷ output.Arc 1 1 ∷ []) }) ∷ [];
  instants = [];
  rates = record { reward = 0; expr = Place 1 } ∷ record { reward = 1; expr = Place 1 } ∷ record { reward = 2; expr = Place 1 } ∷ [];
  impulses = record { reward = 0; act = 0; expr = Number (pos 5) } ∷ record { reward = 1; act = 0; expr = Number (pos 5) } ∷ [];
}

abbrev pub reward_over : Span → Reward
reward_over over = record { name = letter_a; atomic = 0; span = over }

abbrev pub counting : Network
counting = record {
  parts = record { leaf = leaf_id 0; first = record { 0 = 0 }; atomic = counter; slots = private 0 ∷ private 1 ∷ [] } ∷ [];
  paths = letter_a ∷ [];
  initial = 1 ∷ 0 ∷ [];
  shared = 0;
  rewards = reward_over (span.Over (record { 0 = 0 }) (record { 0 = 10 })) ∷ reward_over (span.Mean (record { 0 = 0 }) (record { 0 = 10 })) ∷ reward_over (span.At (record { 0 = 6 })) ∷ [];
}

abbrev pub counting_to : ℕ → Net
counting_to horizon = net_of counting (λ s k. 0) (record { horizon = horizon; burst = 10; events = 20 })

-- place p; place q; timed a { delay table 2:1; react p, q; }
abbrev pub reacting_activity : Activity
reacting_activity = record { kind = Timed (dist.Table ((2, 1) ∷ [])) (Some (Place 0, Place 1)); inputs = []; cases = one_case [] }

abbrev pub reacting : Atomic
reacting = atomic_of (0 ∷ 0 ∷ []) ((letter_a, reacting_activity) ∷ [])

abbrev pub held_timer : ℕ → net.Timer
held_timer due = record { due = due; held = true }

-- its renewal at time 10 with these tokens in p and q, of which 0 and 0 were seen last
abbrev pub renewed_reacting : ℕ → ℕ → List (Option net.Timer) → net.Renewing
renewed_reacting p q timers =
    renewed_row (λ s k. 0) (leaf_of (record { leaf = leaf_id 0; first = record { 0 = 0 }; atomic = reacting; slots = private 0 ∷ private 1 ∷ [] })) 10 (0 ∷ 0 ∷ [])
    (record { values = p ∷ q ∷ []; row = row_with timers 0 })
