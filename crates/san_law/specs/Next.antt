-- Which instantaneous activity completes next.
use Rattle.std.specs.Prelude.{ℕ, zero, suc, length, Option, Some, None}
use Rattle.san_base.specs.declared.ending.Trap.{Trap}
use Rattle.san_law.specs.Net.{Broken, Enabled, Found, Net, Nothing}
use Rattle.san_law.specs.State.{State, gather, slots_of}

-- no instantaneous activity is enabled or traps, or the first that is enabled, or that traps
pub data Next : Type 0 where
  Stable : Next
  Completes : (leaf act : ℕ) → Next
  TrapsAt : (leaf act : ℕ) (trap : Trap) → Next

-- a leaf's first instantaneous activity in a state
abbrev pub next_of : Net → State → ℕ → Found
next_of net s j = net.first j (gather (slots_of net j) s.marking)

-- what a leaf has goes before what the others have
abbrev pub found_at : ℕ → Found → Next → Next
found_at j Nothing rest = rest
found_at j (Enabled k) rest = Completes j k
found_at j (Broken k trap) rest = TrapsAt j k trap

-- so many leaves, from a number on
abbrev pub scan : Net → State → ℕ → ℕ → Next
scan net s j zero = Stable
scan net s j (suc n) = found_at j (next_of net s j) (scan net s (suc j) n)

-- the leaf that completed last, if any
abbrev pub last_first : Net → State → Option ℕ → Next → Next
last_first net s None rest = rest
last_first net s (Some j) rest = found_at j (next_of net s j) rest

-- the leaf that completed last goes first, then the leaves by number
unfoldable pub next_instant : Net → State → Next
next_instant net s = last_first net s s.last (scan net s 0 (length net.parts))
