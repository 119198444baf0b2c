-- Small cores, step by step, that are computed.
use Rattle.std.specs.Prelude.{ℕ, nat_eq, List, [], ◌∷◌, length, map, Option, Some, None}
use Rattle.san_base.specs.declared.limits.Limits.{Limits}
use Rattle.san_base.specs.declared.piece.Kind as named
use Rattle.san_base.specs.declared.piece.Kind.TheVariants as kind
use Rattle.san_law.specs.Net.{Net, Private, Shared}
use Rattle.san_law.specs.Step.{Event}
use Rattle.san_law.specs.Piece.{Fire, Kind, Refresh, Settle}
use Rattle.san_law.specs.Core as law
use Rattle.san_law.specs.Opening.{opening_core}
use Rattle.san_law.specs.Activity.{Activity, Yes}
use Rattle.san_law.specs.Network.{Network}
use Rattle.san_law.specs.Examples.{after_ticks, assigned, counting, grab, leaf_with, net_with, set_and_divide, set_shared}
use Rattle.san_book.specs.Lines.{Line}
use Rattle.san_book.specs.Cores.{Claim, Core, Late, Pending, Publish, Read, Redo, Step, opened}
use Rattle.san_book.specs.Plans.{Plan, plan_of, when}
use Rattle.san_book.specs.Journals.{replayed}
use Rattle.san_book.specs.Nets.{Ahead, machine_of}

-- leaves of one timed activity each, which is their first, in a network of one activity before the second leaf
abbrev pub one_each : ℕ → named.Kind → Option Kind
one_each j (kind.Fire act) = when (nat_eq act.0 j) (Some (Fire 0))
one_each j kind.Settle = Some Settle
one_each j kind.Refresh = Some Refresh

-- one leaf sets the place by which the other divides, up to 10
abbrev pub dividing : Net
dividing = net_with set_and_divide 10 1000 1000

-- one leaf ticks, up to 10
abbrev pub ticking : Net
ticking = net_with counting 10 1000 1000

-- a tick of 3 beside an activity that waits for the place and for an own one
abbrev pub tick_of_three : Activity
tick_of_three = record { kind = after_ticks 3; enabled = λ v. Yes; complete = λ u v. assigned [] v; impulses = λ v. [] }

-- one leaf sets the place that the other waits for
abbrev pub set_and_grab : Network
set_and_grab = record {
  parts = leaf_with (Shared 0 ∷ Private 1 ∷ []) 0 (set_shared ∷ []) ∷ leaf_with (Shared 0 ∷ Private 2 ∷ []) 1 (tick_of_three ∷ grab ∷ []) ∷ [];
  shared = 1;
  initial = 0 ∷ 1 ∷ 1 ∷ [];
  spans = [];
}

-- up to 10
abbrev pub grabbing : Net
grabbing = net_with set_and_grab 10 1000 1000

-- the limits of all
abbrev pub the_limits : Limits
the_limits = record { horizon = record { 0 = 10 }; burst = 1000; events = 1000; window = 16; rollbacks = 10 }

-- what steps make of a core with two workers beside the caller
abbrev pub ran : Net → List Step → Option (Core law.Core Ahead)
ran net steps = replayed (machine_of net one_each) the_limits steps (opened (machine_of net one_each) 2 (opening_core net))

-- a core at a glance: the committed events, the lengths of the chains, the committed values, how many versions each line has, the claims, the rollbacks, how many pieces were taken
pub record Glance : Type 0 where
  pub events : List Event
  pub chains : List ℕ
  pub values : List ℕ
  pub versions : List ℕ
  pub claims : List (Option Pending)
  pub rollbacks : ℕ
  pub taken : ℕ

-- of a core
abbrev pub glance : Option (Core law.Core Ahead) → Option Glance
glance None = None
glance (Some c) = Some (record {
  events = c.held.events;
  chains = map (λ xs. length xs) c.chains;
  values = map (λ (l : Line). l.committed) c.lines;
  versions = map (λ (l : Line). length l.versions) c.lines;
  claims = c.claims;
  rollbacks = c.rollbacks;
  taken = c.taken;
})

-- the plan of a leaf
abbrev pub plan_in : Net → ℕ → Option (Core law.Core Ahead) → Option Plan
plan_in net j None = None
plan_in net j (Some c) = plan_of (machine_of net one_each) the_limits c j

-- a claim
abbrev pub of_leaf : ℕ → Option Pending
of_leaf j = Some (record { leaf = j; log = [] })

-- both leaves are settled and renewed
abbrev pub four_redone : List Step → List Step
four_redone ss = Redo 0 ∷ Redo 0 ∷ Redo 0 ∷ Redo 0 ∷ ss

-- the division is made ahead by a value that the other leaf is about to change
abbrev pub stale_read : List Step → List Step
stale_read ss = four_redone (Claim 1 ∷ Claim 2 ∷ Read 2 (record { 0 = 0 }) 0 ∷ Publish 2 (kind.Fire (record { 0 = 1 })) 3 ∷ Redo 0 ∷ ss)

-- a claim outlives the piece that it was for
abbrev pub late : List Step → List Step
late ss = Redo 0 ∷ Redo 0 ∷ Claim 1 ∷ Redo 0 ∷ Late 1 ∷ Claim 1 ∷ ss

-- the place is set ahead, with this value read of it
abbrev pub set_ahead : ℕ → List Step → List Step
set_ahead v ss = four_redone (Claim 1 ∷ Read 1 (record { 0 = 0 }) v ∷ Publish 1 (kind.Fire (record { 0 = 0 })) 2 ∷ ss)
