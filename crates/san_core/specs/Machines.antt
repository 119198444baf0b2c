-- A machine as contracts see it, when it follows the run, and what it does to take a piece.
use Rattle.std.specs.Prelude.{ℕ, ◌≡◌, ◌≤◌, ◌+◌, ◌-◌, ◌++◌, List, [], map, Some, None, slice_get}
use Rattle.san_base.specs.Limits.{IsInRange}
use Rattle.san_base.specs.declared.ending.Event.{Event}
use Rattle.san_base.specs.declared.limits.Limits.{Limits}
use Rattle.san_law.specs.Net.{Net}
use Rattle.san_law.specs.Order.{Needs, need_of}
use Rattle.san_law.specs.Core.{Core, after_pieces, leaf_of, taken}
use Rattle.san_law.specs.Left.{left}
use Rattle.san_law.specs.Starts.{IsStart}
use Rattle.san_leaf.specs.Pieces.{AgreesWith, PieceValue}
use Rattle.san_leaf.specs.States.{kind_in}
use Rattle.san_net.specs.Network.{Network}
use Rattle.san_net.specs.Runs.{event_in, net_at}
use Rattle.san_core.specs.Committed.{Belongs, CommittedValue, quiet, with_taken}

-- the run's network, seed and limits; the start; the committed part; the events since the start; how many pieces were taken since then, and for how many more there is room
pub record MachineValue : Type 0 where
  pub network : Network
  pub seed : ℕ
  pub limits : Limits
  pub start : CommittedValue
  pub held : CommittedValue
  pub events : List Event
  pub taken : ℕ
  pub spare : ℕ

abbrev pub machine_by : Network → ℕ → Limits → CommittedValue → CommittedValue → List Event → ℕ → ℕ → MachineValue
machine_by n seed limits start held events taken spare = record { network = n; seed = seed; limits = limits; start = start; held = held; events = events; taken = taken; spare = spare }

-- one that has taken no piece yet
abbrev pub opened : Network → ℕ → Limits → CommittedValue → MachineValue
opened n seed limits start = machine_by n seed limits start start [] 0 0

abbrev pub net_in : MachineValue → Net
net_in m = net_at m.network m.seed m.limits

-- the core that the needed pieces of the run lead to from the start, as many as were taken
abbrev pub core_in : MachineValue → Core
core_in m = after_pieces (net_in m) m.taken m.start.core

-- the committed part and the events are that core's, and the start is one of the run's
pub record FollowsRun (m : MachineValue) : Type 0 where
  pub limits : IsInRange m.limits
  pub start : IsStart (net_in m) m.start.core
  pub held : m.held.core ≡ quiet (core_in m)
  pub events : m.events ≡ map (event_in m.network) (core_in m).events
  pub belongs : Belongs (net_in m) m.network m.held
  -- each piece that was taken left less to take
  pub few : m.taken + left (net_in m) (core_in m) ≤ left (net_in m) m.start.core

-- the piece that the machine needs next, by its leaf, kind and time, was made from the committed state of that leaf and has read committed values alone
pub record IsNeeded (m : MachineValue) (p : PieceValue) : Type 0 where
  pub going : m.held.core.stop ≡ None
  pub need : need_of m.limits.horizon.0 m.held.core.order ≡ Needs p.part.leaf.0 (kind_in p.part.first.0 p.kind) p.time
  pub seed : p.seed ≡ m.seed
  pub part : slice_get m.network.parts p.part.leaf.0 ≡ Some p.part
  pub base : leaf_of m.held.core p.part.leaf.0 ≡ p.base
  pub log : AgreesWith p.log m.held.core.shared

-- the core that taking a piece leads to
abbrev pub core_taken : MachineValue → PieceValue → Core
core_taken m p = taken (net_in m) m.held.core p.part.leaf.0 (kind_in p.part.first.0 p.kind) p.time p.outcome

-- a machine that has taken a piece
abbrev pub after_taking : MachineValue → PieceValue → MachineValue
after_taking m p = record {
  network = m.network;
  seed = m.seed;
  limits = m.limits;
  start = m.start;
  held = with_taken (net_in m) m.held p.part.leaf.0 (kind_in p.part.first.0 p.kind) p.time p.outcome;
  events = m.events ++ map (event_in m.network) (core_taken m p).events;
  taken = m.taken + 1;
  spare = m.spare - 1;
}
