-- The committed part of a core as contracts see it, what a taken piece makes of it, and where a run goes on from one.
use Rattle.std.specs.Prelude.{ℕ, ◌≡◌, List, [], length, map}
use Rattle.san_law.specs.Net.{Net}
use Rattle.san_law.specs.Piece.{Kind, Outcome}
use Rattle.san_law.specs.Core.{Core, taken}
use Rattle.san_law.specs.Starts.{IsStart}
use Rattle.san_net.specs.Network.{Network}
use Rattle.san_reward.specs.Running.{IsOf, Running}

-- a core without its events
abbrev pub quiet : Core → Core
quiet c = record { leaves = c.leaves; shared = c.shared; order = c.order; burst = c.burst; count = c.count; events = []; tally = c.tally; stop = c.stop }

-- the law's core without events; the tally with its intervals and terms; and what the order keeps of its network and horizon
pub record CommittedValue : Type 0 where
  pub core : Core
  pub running : Running
  pub firsts : List ℕ
  pub horizon : ℕ

-- the tally and the order are of this network and of the limits' horizon, and are at one time
pub record Belongs (net : Net) (n : Network) (v : CommittedValue) : Type 0 where
  pub tally : v.running.tally ≡ v.core.tally
  pub time : v.running.time ≡ v.core.order.time
  pub of : IsOf net v.running
  pub terms : length v.running.terms ≡ length n.parts
  pub firsts : v.firsts ≡ map (λ p. p.first.0) n.parts
  pub horizon : v.horizon ≡ net.horizon

-- the run of this net goes on from it
pub record StartsRun (net : Net) (n : Network) (v : CommittedValue) : Type 0 where
  pub start : IsStart net v.core
  pub belongs : Belongs net n v

-- what a piece's outcome, taken, makes of it; its events stand elsewhere
abbrev pub with_taken : Net → CommittedValue → ℕ → Kind → ℕ → Outcome → CommittedValue
with_taken net v j kind time o = record {
  core = quiet (taken net v.core j kind time o);
  running = record { horizon = v.running.horizon; time = time; spans = v.running.spans; terms = v.running.terms; tally = (taken net v.core j kind time o).tally };
  firsts = v.firsts;
  horizon = v.horizon;
}
