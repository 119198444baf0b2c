-- What taking a piece does to the committed part, step by step.
use Rattle.std.specs.Prelude.{ℕ, ◌+◌, [], map, Option, Some, None, slice_set}
use Rattle.san_base.specs.Rated.{term_value}
use Rattle.san_base.specs.declared.piece.Kind.{Kind}
use Rattle.san_base.specs.declared.piece.Kind.TheVariants as kind
use Rattle.san_law.specs.Net.{Net}
use Rattle.san_law.specs.Core.{burst_after, put}
use Rattle.san_law.specs.Piece as law
use Rattle.san_law.specs.Step.{Ending}
use Rattle.san_leaf.specs.States.{kind_in}
use Rattle.san_leaf.specs.declared.outcome.Outcome.{Outcome}
use Rattle.san_reward.specs.Running.{Running, advanced, with_impulses, with_leaf_rates}
use Rattle.san_turn.specs.Reflected.{order_with}
use Rattle.san_core.specs.Committed.{CommittedValue}
use Rattle.san_core.specs.declared.admission.Admission.{Admission}
use Rattle.san_core.specs.declared.admission.Taking.{Taking}
use Rattle.san_core.specs.declared.over.Over.{Over}
use Rattle.san_core.specs.inner.Admits.{over_in}
use Rattle.san_core.specs.inner.Impulses.{impulses_from}

-- the tally comes to the piece's time and counts the impulses that were let through
abbrev pub impulses_counted : Running → Taking → ℕ → Outcome → Running
impulses_counted r t passed o = with_impulses (advanced r t.time.0) (impulses_from 0 passed o.impulses.items)

-- a renewal has rates in place of impulses
abbrev pub counted_by : Running → Taking → ℕ → Outcome → Option Over → Kind → Running
counted_by r t passed o None kind.Refresh = with_leaf_rates r t.leaf.0 (map term_value o.rates.items)
counted_by r t passed o None kind.Settle = impulses_counted r t passed o
counted_by r t passed o None (kind.Fire act) = impulses_counted r t passed o
counted_by r t passed o (Some over) k = impulses_counted r t passed o

-- with another tally, burst and count
abbrev pub with_counts : CommittedValue → Running → ℕ → ℕ → CommittedValue
with_counts v r burst count = record {
  core = record { leaves = v.core.leaves; shared = v.core.shared; order = v.core.order; burst = burst; count = count; events = []; tally = r.tally; stop = v.core.stop };
  running = r;
  firsts = v.firsts;
  horizon = v.horizon;
}

abbrev pub counted_in : CommittedValue → Taking → Admission → Outcome → CommittedValue
counted_in v t a o = with_counts v (counted_by v.running t a.passed o a.over t.kind) (burst_after (kind_in t.first.0 t.kind) v.core.burst a.passed) (v.core.count + a.passed)

-- stopped at the piece's time
abbrev pub halted : CommittedValue → ℕ → Ending → CommittedValue
halted v time e = record {
  core = record {
    leaves = v.core.leaves;
    shared = v.core.shared;
    order = record { going = v.core.order.going; unsettled = v.core.order.unsettled; stale = v.core.order.stale; dues = v.core.order.dues; time = time };
    burst = v.core.burst;
    count = v.core.count;
    events = [];
    tally = v.core.tally;
    stop = Some e;
  };
  running = v.running;
  firsts = v.firsts;
  horizon = v.horizon;
}

-- with the leaf's state, the shared values and the order that the piece made
abbrev pub put_in : Net → CommittedValue → Taking → law.Outcome → CommittedValue
put_in net v t o = record {
  core = record {
    leaves = slice_set v.core.leaves t.leaf.0 o.state;
    shared = put o.writes v.core.shared;
    order = order_with net v.core.order t.time.0 t.leaf.0 o t.kind;
    burst = v.core.burst;
    count = v.core.count;
    events = [];
    tally = v.core.tally;
    stop = None;
  };
  running = v.running;
  firsts = v.firsts;
  horizon = v.horizon;
}

-- by whether the limits or a fault stop the core
abbrev pub ended_by : Net → CommittedValue → Taking → law.Outcome → Option Over → CommittedValue
ended_by net v t o None = put_in net v t o
ended_by net v t o (Some over) = halted v t.time.0 (over_in over)
