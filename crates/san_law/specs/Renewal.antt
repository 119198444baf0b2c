-- The renewal of all timers at a stable marking, and the timer that is due first.
use Rattle.std.specs.Prelude.{ℕ, suc, nat_lt, List, [], ◌∷◌, Option, Some, None, if◌then◌else◌}
use Rattle.san_base.specs.declared.ending.Trap.{Trap}
use Rattle.san_law.specs.Net.{Faulty, Fresh, Net, Renewing, Row}
use Rattle.san_law.specs.State.{State, gather, slots_of}

-- all rows renewed, or the first activity that traps
pub data Renewal : Type 0 where
  AllFresh : (rows : List Row) → Renewal
  FaultAt : (leaf act : ℕ) (trap : Trap) → Renewal

-- one row before the others
abbrev pub and_rest : Row → Renewal → Renewal
and_rest r (AllFresh rs) = AllFresh (r ∷ rs)
and_rest r (FaultAt j k trap) = FaultAt j k trap

-- the first trap ends the renewal
abbrev pub renewed_then : ℕ → Renewing → Renewal → Renewal
renewed_then j (Faulty k trap) rest = FaultAt j k trap
renewed_then j (Fresh r) rest = and_rest r rest

-- one leaf's renewal in a state, with its values at the last stable point as those last seen
abbrev pub renewed_at : Net → State → ℕ → Row → Renewing
renewed_at net s j r = net.renewed j s.time (gather (slots_of net j) s.stable) (record { values = gather (slots_of net j) s.marking; row = r })

-- the leaves in order, from a number on
abbrev pub renewed_from : Net → State → ℕ → List Row → Renewal
renewed_from net s j [] = AllFresh []
renewed_from net s j (r ∷ rs) = renewed_then j (renewed_at net s j r) (renewed_from net s (suc j) rs)

-- the timer that is due first, its leaf and its activity
pub record Due : Type 0 where
  pub time : ℕ
  pub leaf : ℕ
  pub act : ℕ

-- the earlier of two, and the first where they are equal
abbrev pub sooner : Due → Option Due → Option Due
sooner d None = Some d
sooner d (Some e) = if nat_lt e.time d.time then Some e else Some d

-- a leaf without a timer is passed over
abbrev pub and_sooner : ℕ → Option (ℕ × ℕ) → Option Due → Option Due
and_sooner j None rest = rest
and_sooner j (Some d) rest = sooner (record { time = d.0; leaf = j; act = d.1 }) rest

-- the least of the leaves' least timers, for equal times the first leaf's
abbrev pub least_from : ℕ → List (Option (ℕ × ℕ)) → Option Due
least_from j [] = None
least_from j (d ∷ ds) = and_sooner j d (least_from (suc j) ds)
