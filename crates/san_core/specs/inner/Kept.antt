-- What a machine keeps.
use Rattle.san_base.specs.declared.limits.TheConstants.{MAX_CELLS}
use Rattle.std.specs.Prelude.{ℕ, ◌≡◌, ◌≤◌, ◌+◌, ◌*◌}
use Rattle.san_draw.specs.Streams.{Seeded}
use Rattle.san_net.specs.Laid.{acts_of}
use Rattle.san_core.specs.Machines.{FollowsRun, MachineValue}

-- it follows the run, has room for its spare pieces' events and for the places of any piece, and draws by its seed
pub record IsMachine (m : MachineValue) (events room places : ℕ) (draws : Seeded) : Type 0 where
  pub follows : FollowsRun m
  pub spare : events + 64 * m.spare ≤ room
  pub few : m.spare ≤ 64
  pub places_kept : MAX_CELLS ≤ places
  pub seed : draws.seed ≡ m.seed
  pub streams : draws.streams ≡ 2 * acts_of m.network.parts
