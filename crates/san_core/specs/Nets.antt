-- How a run ends, in the network's numbers.
use Rattle.std.specs.Prelude.{ℕ, Option, Some, None}
use Rattle.san_base.specs.declared.ending.Ending.{Ending}
use Rattle.san_law.specs.Step as law
use Rattle.san_net.specs.Network.{Network}
use Rattle.san_net.specs.Runs.{ending_in}

-- when and how a run ends
abbrev pub outcome_in : Network → Option (ℕ × law.Ending) → Option Ending
outcome_in n None = None
outcome_in n (Some x) = Some (ending_in n x.0 x.1)
