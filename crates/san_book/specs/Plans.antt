-- Which piece a leaf comes to next, and which leaf is claimed.
use Rattle.std.specs.Prelude.{ℕ, suc, nat_eq, nat_lt, nat_le, ◌&&◌, ◌||◌, not, List, [], ◌∷◌, length, Option, Some, None, Bool, true, false, if◌then◌else◌}
use Rattle.san_base.specs.declared.limits.Limits.{Limits}
use Rattle.san_base.specs.declared.numbers.LeafId.{LeafId}
use Rattle.san_base.specs.declared.numbers.Tick.{Tick}
use Rattle.san_line.specs.Lines.{first_by, next_after}
use Rattle.san_law.specs.Piece.{Fire, Kind, Refresh, Settle}
use Rattle.san_law.specs.Order.{Order, flag}
use Rattle.san_book.specs.Machines.{Machine, sees_all}
use Rattle.san_book.specs.Lines.{Line, line_of}
use Rattle.san_book.specs.Chains.{Chain, chain_of}
use Rattle.san_book.specs.Cores.{Core, is_claimed}

-- a piece that a leaf may come to
pub record Plan : Type 0 where
  pub kind : Kind
  pub time : ℕ

-- an option where a test holds
abbrev pub when : {X : Type 0} → Bool → Option X → Option X
when true o = o
when false o = None

-- what has its number up to the horizon
abbrev pub in_time : ℕ → Option (ℕ × ℕ) → Option (ℕ × ℕ)
in_time horizon None = None
in_time horizon (Some x) = when (nat_le x.0 horizon) (Some x)

-- a version's time and leaf as numbers
abbrev pub numbers_of : Option (Tick × LeafId) → Option (ℕ × ℕ)
numbers_of None = None
numbers_of (Some x) = Some (x.0.0, x.1.0)

-- the lesser of two by the first number, then the second
abbrev pub lesser : Option (ℕ × ℕ) → Option (ℕ × ℕ) → Option (ℕ × ℕ)
lesser None b = b
lesser (Some x) None = Some x
lesser (Some x) (Some y) = if first_by y.0 x.0 (nat_lt y.1 x.1) then Some y else Some x

-- the least time and leaf of the versions by other leaves above a time, over a leaf's places
abbrev pub next_version : List Line → ℕ → ℕ → List ℕ → Option (ℕ × ℕ)
next_version lines j after [] = None
next_version lines j after (q ∷ qs) = lesser (numbers_of (next_after j after (line_of lines q).versions)) (next_version lines j after qs)

-- the leaf's own timer, or the version that comes before it
abbrev pub chosen : ℕ → Option (ℕ × ℕ) → Option (ℕ × ℕ) → Option Plan
chosen j None None = None
chosen j (Some d) None = Some (record { kind = Fire d.1; time = d.0 })
chosen j None (Some v) = Some (record { kind = Settle; time = v.0 })
chosen j (Some d) (Some v) = if first_by v.0 d.0 (nat_lt v.1 j) then Some (record { kind = Settle; time = v.0 }) else Some (record { kind = Fire d.1; time = d.0 })

-- from a time on, with the leaf in a state
abbrev pub plan_from : {H S P : Type 0} → Machine H S P → ℕ → List Line → ℕ → ℕ → S → Option Plan
plan_from m horizon lines j after s = chosen j (in_time horizon (m.due s)) (in_time horizon (next_version lines j after (m.places j)))

-- after a renewal the leaf waits, after another piece it renews
abbrev pub plan_done : {H S P : Type 0} → Machine H S P → ℕ → List Line → ℕ → P → Option Plan
plan_done m horizon lines j p = if sees_all (m.reading.kind p) then plan_from m horizon lines j (m.reading.time p) (m.reading.end p) else Some (record { kind = Refresh; time = m.reading.time p })

-- nothing comes after a trap; where there was more to do, it is done first
abbrev pub plan_after : {H S P : Type 0} → Machine H S P → ℕ → List Line → ℕ → P → Option Plan
plan_after m horizon lines j p = if m.reading.trapped p then None else if m.reading.more p then Some (record { kind = Settle; time = m.reading.time p }) else plan_done m horizon lines j p

-- whether a leaf is the one that goes on
abbrev pub is_leaf : ℕ → Option ℕ → Bool
is_leaf j None = false
is_leaf j (Some i) = nat_eq i j

-- from the committed state: settle, else renew, else wait
abbrev pub plan_first : {H S P : Type 0} → Machine H S P → ℕ → List Line → ℕ → Order → S → Option Plan
plan_first m horizon lines j o s =
    if is_leaf j o.going || flag o.unsettled j then Some (record { kind = Settle; time = o.time })
    else if flag o.stale j then Some (record { kind = Refresh; time = o.time }) else plan_from m horizon lines j o.time s

-- by the last piece of the chain
abbrev pub plan_over : {H S P : Type 0} → Machine H S P → ℕ → List Line → ℕ → Option Plan → Chain P → Option Plan
plan_over m horizon lines j plan [] = plan
plan_over m horizon lines j plan (x ∷ xs) = plan_over m horizon lines j (plan_after m horizon lines j x.1) xs

-- the piece that a leaf comes to next
abbrev pub plan_of : {H S P : Type 0} → Machine H S P → Limits → Core H P → ℕ → Option Plan
plan_of m limits c j = plan_over m limits.horizon.0 c.lines j (plan_first m limits.horizon.0 c.lines j (m.order c.held) (m.state c.held j)) (chain_of c.chains j)

-- a plan's time
abbrev pub time_of : Option Plan → Option ℕ
time_of None = None
time_of (Some p) = Some p.time

-- the time of a free leaf's next piece: nobody has claimed the leaf, its chain is shorter than the window, and it has a next piece
abbrev pub free_at : {H S P : Type 0} → Machine H S P → Limits → Core H P → ℕ → Option ℕ
free_at m limits c j = when (not (is_claimed j c.claims) && nat_lt (length (chain_of c.chains j)) limits.window) (time_of (plan_of m limits c j))

-- the earlier of a leaf and one after it
abbrev pub earlier : ℕ → Option ℕ → Option (ℕ × ℕ) → Option (ℕ × ℕ)
earlier j None rest = rest
earlier j (Some t) None = Some (t, j)
earlier j (Some t) (Some r) = if nat_lt r.0 t then Some r else Some (t, j)

-- the least time and leaf, leaf by leaf from a number on
abbrev pub earliest : {X : Type 0} → (ℕ → Option ℕ) → ℕ → List X → Option (ℕ × ℕ)
earliest f j [] = None
earliest f j (x ∷ xs) = earlier j (f j) (earliest f (suc j) xs)

-- the free leaf whose next piece has the least time and leaf
abbrev pub planned : {H S P : Type 0} → Machine H S P → Limits → Core H P → Option (ℕ × ℕ)
planned m limits c = earliest (free_at m limits c) 0 c.chains
