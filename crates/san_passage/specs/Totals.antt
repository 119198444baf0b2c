-- What the passages of many runs come to.
use Rattle.std.specs.Prelude.{ℕ, zero, suc, ◌+◌, min, max, Bool, List, Option, Some, None}
use Rattle.san_base.specs.declared.limits.Limits.{Limits}
use Rattle.san_base.specs.declared.numbers.Tick.{Tick}
use Rattle.san_net.specs.Network.{Network}
use Rattle.san_passage.specs.Passages.{passage_of}
use Rattle.san_passage.specs.declared.passage.Passage.{Passage}
use Rattle.san_passage.specs.declared.passage.Passage.TheVariants as passage
use Rattle.san_passage.specs.declared.totals.Passages.{Passages}

-- a tick, and another if there is one
abbrev pub earlier : Tick → Option Tick → Option Tick
earlier t None = Some t
earlier t (Some u) = Some (record { 0 = min t.0 u.0 })

abbrev pub later : Tick → Option Tick → Option Tick
later t None = Some t
later t (Some u) = Some (record { 0 = max t.0 u.0 })

abbrev pub no_passages : Passages
no_passages = record { reached = 0; never = 0; stopped = 0; sum = 0; least = None; greatest = None }

-- one run's passage more; sums, the least and the greatest are of ticks
abbrev pub with_passage : Passages → Passage → Passages
with_passage s (passage.At time count) =
    record { reached = s.reached + 1; never = s.never; stopped = s.stopped; sum = s.sum + time.0; least = earlier time s.least; greatest = later time s.greatest }
with_passage s passage.Never = record { reached = s.reached; never = s.never + 1; stopped = s.stopped; sum = s.sum; least = s.least; greatest = s.greatest }
with_passage s (passage.Stopped why) = record { reached = s.reached; never = s.never; stopped = s.stopped + 1; sum = s.sum; least = s.least; greatest = s.greatest }

-- every run has a passage
abbrev pub with_run : Passages → Option Passage → Passages
with_run s None = s
with_run s (Some p) = with_passage s p

-- the runs with so many seeds from one on
abbrev pub passages_of : Network → Limits → (List ℕ → Bool) → ℕ → ℕ → Passages
passages_of n limits holds seed zero = no_passages
passages_of n limits holds seed (suc k) = with_run (passages_of n limits holds seed k) (passage_of n (seed + k) limits holds)
