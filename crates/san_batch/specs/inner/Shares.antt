-- The runs of a batch, shared out among workers.
use Rattle.std.specs.Prelude.{ℕ, ◌≡◌, ◌+◌, ◌-◌, ◌<◌, List, length, Result, Ok, slice_index_or}
use Rattle.san_base.specs.declared.limits.Limits.{Limits}
use Rattle.san_net.specs.Network.{Network}
use Rattle.san_summary.specs.Batches.{AreSmall, Sums}
use Rattle.san_batch.specs.Outcomes.{batch_of, outcomes_of}
use Rattle.san_share.specs.Shares.{first_of}

-- what so many runs from a seed on come to, which are small enough to be summed up with others
pub record IsBatch (n : Network) (limits : Limits) (seed runs : ℕ) (b : Sums) : Type 0 where
  pub sums : b ≡ batch_of n limits seed runs
  pub small : AreSmall (outcomes_of n limits seed runs)

-- what each worker came to, unless its memory ran out
pub record AreShares {E : Type 0} (n : Network) (limits : Limits) (seed runs each : ℕ) (shares : List (Result Sums E)) : Type 0 where
  pub is : (w : ℕ) (b : Sums) (d : Result Sums E) → w < length shares → slice_index_or shares w d ≡ Ok b → IsBatch n limits (seed + first_of each runs w) (first_of each runs (w + 1) - first_of each runs w) b
