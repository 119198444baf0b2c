-- Totals of runs that were shared out among workers.
use Rattle.std.specs.Prelude.{ℕ, ◌+◌, ◌-◌, ◌*◌, ◌^◌, ◌≤◌, ◌<◌, ◌≡◌, Bool, List, length, Option, Some, None, Result, Ok, slice_index_or}
use Rattle.san_base.specs.declared.limits.Limits.{Limits}
use Rattle.san_base.specs.declared.numbers.Tick.{Tick}
use Rattle.san_share.specs.Shares.{first_of}
use Rattle.san_net.specs.Network.{Network}
use Rattle.san_passage.specs.Totals.{earlier, later, passages_of}
use Rattle.san_passage.specs.declared.totals.Passages.{Passages}

abbrev pub earliest : Option Tick → Option Tick → Option Tick
earliest None o = o
earliest (Some t) o = earlier t o

abbrev pub latest : Option Tick → Option Tick → Option Tick
latest None o = o
latest (Some t) o = later t o

-- those of some runs, and those of others
abbrev pub joined : Passages → Passages → Passages
joined s t = record { reached = s.reached + t.reached; never = s.never + t.never; stopped = s.stopped + t.stopped; sum = s.sum + t.sum; least = earliest s.least t.least; greatest = latest s.greatest t.greatest }

-- of at most so many runs
pub record AreFew (k : ℕ) (s : Passages) : Type 0 where
  pub runs : s.reached + (s.never + s.stopped) ≤ k
  pub sum : s.sum ≤ k * 2 ^ 64

-- of the runs with so many seeds from one on
pub record IsShare (n : Network) (limits : Limits) (holds : List ℕ → Bool) (seed runs : ℕ) (s : Passages) : Type 0 where
  pub is : s ≡ passages_of n limits holds seed runs
  pub few : AreFew runs s

-- what each worker came to, unless its memory ran out
pub record AreShares {E : Type 0} (n : Network) (limits : Limits) (holds : List ℕ → Bool) (seed runs each : ℕ) (shares : List (Result Passages E)) : Type 0 where
  pub is : (w : ℕ) (s : Passages) (d : Result Passages E) → w < length shares → slice_index_or shares w d ≡ Ok s
      → IsShare n limits holds (seed + first_of each runs w) (first_of each runs (w + 1) - first_of each runs w) s
