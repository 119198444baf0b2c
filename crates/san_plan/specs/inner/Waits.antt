-- The piece that a leaf of a part comes to next, as the code finds it.
use Rattle.std.specs.Prelude.{ℕ, ◌+◌, ◌^◌, ◌≡◌, ◌≤◌, ◌<◌, ◌||◌, nat_lt, List, Option, Some, None, if◌then◌else◌}
use Rattle.san_base.specs.declared.limits.TheConstants.{MAX_HORIZON}
use Rattle.san_base.specs.declared.numbers.ActId.{ActId}
use Rattle.san_base.specs.declared.piece.Kind as named
use Rattle.san_base.specs.declared.piece.Kind.TheVariants as kind
use Rattle.san_book.specs.Lines.{Line}
use Rattle.san_book.specs.Nets.{is_there, shared_in}
use Rattle.san_book.specs.Plans as book
use Rattle.san_book.specs.Plans.{chosen, in_time, is_leaf, next_version}
use Rattle.san_law.specs.Net.{least_timer}
use Rattle.san_law.specs.Order.{Order, flag}
use Rattle.san_law.specs.Piece.{Fire, LeafState, Refresh, Settle}
use Rattle.san_leaf.specs.Fits.{KindFits}
use Rattle.san_leaf.specs.Pieces.{PieceValue, slots_in}
use Rattle.san_line.specs.Lines.{first_by}
use Rattle.san_net.specs.declared.part.Part.{Part}

-- a timer can fire: it is a timed activity's, and due in the longest run
pub record Fires (p : Part) (due : ℕ × ℕ) : Type 0 where
  pub few : p.first.0 + due.1 < 2 ^ 32
  pub fits : (act : ActId) → act.0 ≡ p.first.0 + due.1 → KindFits p (kind.Fire act)
  pub timely : due.0 ≤ MAX_HORIZON

-- the leaf's timer, or the version that comes before it
abbrev pub sooner : ℕ → ℕ × ℕ → ℕ × ℕ → book.Plan
sooner j d v = if first_by v.0 d.0 (nat_lt v.1 j) then record { kind = Settle; time = v.0 } else record { kind = Fire d.1; time = d.0 }

-- what a leaf waits for
abbrev pub waits : Part → List Line → ℕ → ℕ → LeafState → Option book.Plan
waits p lines horizon after s = chosen p.leaf.0 (in_time horizon (least_timer s.row)) (in_time horizon (next_version lines p.leaf.0 after (shared_in (slots_in p))))

-- after a renewal it waits, after another piece it renews
abbrev pub goes_after : List Line → ℕ → PieceValue → named.Kind → Option book.Plan
goes_after lines horizon x kind.Refresh = waits x.part lines horizon x.time x.outcome.state
goes_after lines horizon x kind.Settle = Some (record { kind = Refresh; time = x.time })
goes_after lines horizon x (kind.Fire act) = Some (record { kind = Refresh; time = x.time })

-- nothing comes after a trap; where there was more to do, it is done first
abbrev pub comes_after : List Line → ℕ → PieceValue → Option book.Plan
comes_after lines horizon x = if is_there x.outcome.fault then None else if x.outcome.more then Some (record { kind = Settle; time = x.time }) else goes_after lines horizon x x.kind

-- from the committed state: settle, else renew, else wait
abbrev pub comes_first : ℕ → Part → List Line → ℕ → Order → LeafState → Option book.Plan
comes_first j p lines horizon o s =
    if is_leaf j o.going || flag o.unsettled j then Some (record { kind = Settle; time = o.time })
    else if flag o.stale j then Some (record { kind = Refresh; time = o.time }) else waits p lines horizon o.time s
