-- The renewal of a leaf over markings, and of leaves in any order.
use Rattle.std.specs.Prelude.{ℕ, ◌≡◌, ◌≤◌, ◌<◌, ◌⊎◌, nat_lt, if◌then◌else◌, List, length, Result, Ok, Err, Some, slice_get}
use Rattle.san_base.specs.declared.ending.Trap.{Trap}
use Rattle.san_base.specs.declared.numbers.LeafId.{LeafId}
use Rattle.san_law.specs.Clocks as law
use Rattle.san_law.specs.Net as net
use Rattle.san_law.specs.Renewal.{renewed_at}
use Rattle.san_law.specs.State.{State, gather}
use Rattle.san_net.specs.Laid.{places_of}
use Rattle.san_net.specs.Leaf.{leaf_of}
use Rattle.san_net.specs.declared.part.Part.{Part}
use Rattle.san_seq.specs.inner.Rows.{row_at}

-- a leaf's renewal at a time over a marking, by the one at the last stable point
abbrev pub renewed_part : (ℕ → ℕ → ℕ) → Part → ℕ → List ℕ → List ℕ → net.Row → net.Renewing
renewed_part draw p time stable m row = law.renewed_row draw (leaf_of p) time (gather (places_of p) stable) (record { values = gather (places_of p) m; row = row })

-- nothing, or a leaf whose renewal traps, with its activity
abbrev pub FirstTrap : Type 0
FirstTrap = Result (Unit {0}) (LeafId × ℕ × Trap)

-- the fault of the first leaf, where one more is renewed
abbrev pub sooner_fault : FirstTrap → LeafId → Result (Unit {0}) (ℕ × Trap) → FirstTrap
sooner_fault known leaf (Ok done) = known
sooner_fault (Ok done) leaf (Err fault) = Err (leaf, fault.0, fault.1)
sooner_fault (Err first) leaf (Err fault) = if nat_lt leaf.0 first.0.0 then Err (leaf, fault.0, fault.1) else Err first

-- a fault is known of a leaf with no greater number
abbrev pub IsBy : FirstTrap → ℕ → Type 0
IsBy (Ok done) j = ⊥
IsBy (Err first) j = first.0.0 ≤ j

-- a leaf's row is renewed, or a fault comes before
abbrev pub IsRenewed : net.Net → State → List net.Row → List net.Row → FirstTrap → ℕ → Type 0
IsRenewed n s old rows fault j = (renewed_at n s j (row_at old j) ≡ net.Fresh (row_at rows j)) ⊎ IsBy fault j

-- the fault is one
abbrev pub IsFirstTrap : net.Net → State → List net.Row → FirstTrap → Type 0
IsFirstTrap n s old (Ok done) = Unit {0}
IsFirstTrap n s old (Err first) = (first.0.0 < length old) × (renewed_at n s first.0.0 (row_at old first.0.0) ≡ net.Faulty first.1 first.2)

-- the first so many of some leaves are renewed
pub record AreRenewed (n : net.Net) (s : State) (old rows : List net.Row) (leaves : List ℕ) (many : ℕ) (fault : FirstTrap) : Type 0 where
  pub each : (i j : ℕ) → i < many → slice_get leaves i ≡ Some j → IsRenewed n s old rows fault j
  pub first : IsFirstTrap n s old fault
