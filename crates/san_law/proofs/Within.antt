-- A renewal leaves as many timers as there were, or traps at an activity of the leaf.
use Rattle.std.proofs.Common.{ℕ, suc, ◌+◌, ◌≤◌, ◌<◌, ◌≡◌, ap, refl, arith, List, [], ◌∷◌, length, Option, Result, Ok, Err}
use Rattle.san_base.specs.declared.ending.Trap.{Trap}
use Rattle.san_law.specs.Activity.{Activity}
use Rattle.san_law.specs.Clocks.{AllClocks, BadClock, Clock, Clocks, clock_then, renewed_act, renewed_acts, row_of_clocks}
use Rattle.san_law.specs.Net.{Faulty, Fresh, Renewing, Timer}

-- as many timers as before, or a fault of an activity below a number
abbrev pub ClocksWithin : ℕ → ℕ → Clocks → Type 0
ClocksWithin many b (AllClocks ts ns) = length ts ≡ many
ClocksWithin many b (BadClock k trap) = k < b

pub clocks_then : (many b k : ℕ) (r : Result Clock Trap) (rest : Clocks) → k < b → ClocksWithin many b rest → ClocksWithin (suc many) b (clock_then k r rest)
clocks_then many b k (Err trap) rest h within = h
clocks_then many b k (Ok x) (AllClocks ts ns) h within = ap suc within
clocks_then many b k (Ok x) (BadClock i trap) h within = within

pub clocks_within : (draws : ℕ → ℕ → ℕ) (time : ℕ) (seen values : List ℕ) (b k : ℕ) (acts : List Activity) (ts : List (Option Timer)) (ns : List ℕ) → k + length acts ≤ b
    → ClocksWithin (length ts) b (renewed_acts draws time seen values k acts ts ns)
clocks_within draws time seen values b k [] ts ns h = refl
clocks_within draws time seen values b k (a ∷ acts) [] ns h = refl
clocks_within draws time seen values b k (a ∷ acts) (t ∷ ts) [] h = refl
clocks_within draws time seen values b k (a ∷ acts) (t ∷ ts) (n ∷ ns) h =
    clocks_then (length ts) b k (renewed_act (draws k) time seen values a a.kind t n) (renewed_acts draws time seen values (suc k) acts ts ns) (omega (arith, h)) (clocks_within draws time seen values b (suc k) acts ts ns (omega (arith, h)))

abbrev pub RowWithin : ℕ → ℕ → Renewing → Type 0
RowWithin many b (Fresh r) = length r.timers ≡ many
RowWithin many b (Faulty k trap) = k < b

pub row_within : (many b : ℕ) (cases : List ℕ) (x : Clocks) → ClocksWithin many b x → RowWithin many b (row_of_clocks cases x)
row_within many b cases (AllClocks ts ns) h = h
row_within many b cases (BadClock k trap) h = h
