-- The committed part in code, as the law says it.
use Rattle.std.specs.Prelude.{ℕ, List, [], Option, Some, None}
use Rattle.san_law.specs.Order.{Order}
use Rattle.san_law.specs.Piece.{LeafState}
use Rattle.san_law.specs.Step.{Ending}
use Rattle.san_reward.specs.Running.{Running}
use Rattle.san_turn.specs.Changes.{OrderValue}
use Rattle.san_core.specs.Committed.{CommittedValue}
use Rattle.san_core.specs.declared.over.Halt.{Halt}
use Rattle.san_core.specs.inner.Admits.{over_in}

-- a stop is at a time of its own, which the order doesn't know
abbrev pub order_at : Order → Option Halt → Order
order_at o None = o
order_at o (Some h) = record { going = o.going; unsettled = o.unsettled; stale = o.stale; dues = o.dues; time = h.time.0 }

abbrev pub stop_in : Option Halt → Option Ending
stop_in None = None
stop_in (Some h) = Some (over_in h.over)

abbrev pub committed_by : List LeafState → List ℕ → OrderValue → Running → ℕ → ℕ → Option Halt → CommittedValue
committed_by leaves shared order running burst count halt = record {
  core = record {
    leaves = leaves;
    shared = shared;
    order = order_at order.order halt;
    burst = burst;
    count = count;
    events = [];
    tally = running.tally;
    stop = stop_in halt;
  };
  running = running;
  firsts = order.firsts;
  horizon = order.horizon;
}
