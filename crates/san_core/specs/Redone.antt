-- What a machine does when it is asked for its next piece.
use Rattle.std.specs.Prelude.{◌≡◌, ◌+◌, ◌-◌, ◌<◌, Result, Ok, Err, Some, None}
use Rattle.san_base.specs.declared.numbers.NoMemory.{NoMemory}
use Rattle.san_law.specs.Left.{left}
use Rattle.san_law.specs.Pieces.{Piece, next_piece}
use Rattle.san_core.specs.Machines.{MachineValue, core_in, net_in}
use Rattle.san_core.specs.declared.redoing.Redoing.{Redoing}
use Rattle.san_core.specs.declared.redoing.Redoing.TheVariants as redoing

-- a machine of the same run, from the same start
pub record IsSameRun (old new : MachineValue) : Type 0 where
  pub network : new.network ≡ old.network
  pub seed : new.seed ≡ old.seed
  pub limits : new.limits ≡ old.limits
  pub start : new.start ≡ old.start

-- one needed piece more is taken; as a machine follows the run, this says which
pub record TakesNext (old new : MachineValue) : Type 0 where
  pub needs : (p : Piece) × (next_piece (net_in old) (core_in old) ≡ Some p)
  pub run : IsSameRun old new
  pub taken : new.taken ≡ old.taken + 1
  pub spare : new.spare ≡ old.spare - 1
  pub less : left (net_in new) (core_in new) < left (net_in old) (core_in old)

-- by the answer
abbrev pub RedoneBy : MachineValue → MachineValue → Result Redoing NoMemory → Type 0
RedoneBy old new (Err e) = new ≡ old
RedoneBy old new (Ok redoing.Redone) = TakesNext old new
RedoneBy old new (Ok redoing.Ended) = (new ≡ old) × (next_piece (net_in old) (core_in old) ≡ None)
RedoneBy old new (Ok redoing.Rested) = ⊥
