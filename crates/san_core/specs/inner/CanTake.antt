-- When the committed part can take a piece without memory.
use Rattle.std.specs.Prelude.{◌≡◌, ◌≤◌, ◌*◌, Some, None, [], length, slice_get}
use Rattle.san_base.specs.declared.limits.TheConstants.{MAX_ACTS, MAX_BURST, MAX_EVENTS, MAX_EVENT_IMPULSES}
use Rattle.san_law.specs.Net.{Net}
use Rattle.san_leaf.specs.Pieces.{PieceValue}
use Rattle.san_leaf.specs.States.{kind_in}
use Rattle.san_net.specs.Network.{Network}
use Rattle.san_core.specs.Committed.{Belongs, CommittedValue}
use Rattle.san_core.specs.inner.Suits.{Suits}

pub record CanTake (net : Net) (n : Network) (v : CommittedValue) (p : PieceValue) : Type 0 where
  pub belongs : Belongs net n v
  pub leaves : length v.core.leaves ≡ length n.parts
  pub part : slice_get n.parts p.part.leaf.0 ≡ Some p.part
  pub going : v.core.stop ≡ None
  pub quiet : v.core.events ≡ []
  pub most : net.burst ≤ MAX_BURST
  pub count : v.core.count ≤ MAX_EVENTS
  pub impulses : v.core.tally.impulses ≤ MAX_EVENT_IMPULSES * MAX_EVENTS
  pub suits : Suits net (length v.core.shared) (length n.initial) v.core.order.time (kind_in p.part.first.0 p.kind) p.time p.part.leaf.0 p.base p.outcome
  pub first : p.part.first.0 ≤ MAX_ACTS
  pub row : length p.base.row.timers ≤ MAX_ACTS
