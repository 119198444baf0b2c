-- What comes of a stretch.
use Rattle.std.specs.Prelude.{ℕ, ◌≡◌, ◌⊎◌, List, ◌++◌, map, Option, Some, true}
use Rattle.san_base.specs.declared.ending.Ending.{Ending}
use Rattle.san_base.specs.declared.ending.Event.{Event}
use Rattle.san_base.specs.declared.limits.Limits.{Limits}
use Rattle.san_book.specs.Steps.{has_ended, rests}
use Rattle.san_core.specs.Committed.{CommittedValue}
use Rattle.san_core.specs.Machines.{core_in, net_in}
use Rattle.san_core.specs.Nets.{outcome_in}
use Rattle.san_law.specs.Net.{Net}
use Rattle.san_law.specs.Pieces.{outcome_of_core}
use Rattle.san_law.specs.Standing.{Follows}
use Rattle.san_law.specs.State.{opening_state}
use Rattle.san_law.specs.Step as law
use Rattle.san_law.specs.Trajectory.{Trajectory, followed_by, trajectory}
use Rattle.san_net.specs.Network.{Network}
use Rattle.san_net.specs.Runs.{ending_in, event_in, net_at}
use Rattle.san_speculation.specs.Speculating.{CoreValue, book_in}

-- a core is of this network, with this seed and these limits, and from this start on
pub record IsOfRun (n : Network) (k : ℕ) (l : Limits) (s : CommittedValue) (c : CoreValue) : Type 0 where
  pub network : c.machine.network ≡ n
  pub seed : c.machine.seed ≡ k
  pub limits : c.machine.limits ≡ l
  pub start : c.machine.start ≡ s

-- the run has ended, or the core rests
abbrev pub IsOver : CoreValue → Type 0
IsOver c = (has_ended (book_in c.machine) c.machine.limits c.book ≡ true) ⊎ (rests (book_in c.machine) c.machine.limits c.book ≡ true)

-- the run's whole trajectory begins with the events before the start and these ones; where there is an ending, it has no others and ends so
pub record Continues (net : Net) (n : Network) (past : List law.Event) (events : List Event) (ending : Option Ending) : Type 0 where
  pub own : List law.Event
  pub told : events ≡ map (event_in n) own
  pub goes_on : (rest : Trajectory) × (trajectory net (opening_state net) ≡ Some (followed_by (past ++ own) rest))
  pub ended : (e : Ending) → ending ≡ Some e → (run : Trajectory) × (trajectory net (opening_state net) ≡ Some run) × (run.events ≡ past ++ own) × (ending_in n run.time run.ending ≡ e)

-- a core that has ended or rests, whose events go on from the start as the run does
pub record IsStretch (n : Network) (seed : ℕ) (limits : Limits) (start : CommittedValue) (c : CoreValue) : Type 0 where
  pub run : IsOfRun n seed limits start c
  pub over : IsOver c
  pub continues : (past : List law.Event) → Follows (net_at n seed limits) (opening_state (net_at n seed limits)) past start.core → Continues (net_at n seed limits) n past c.machine.events (outcome_in n (outcome_of_core (net_in c.machine) (core_in c.machine)))
