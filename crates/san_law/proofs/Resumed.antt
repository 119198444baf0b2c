-- A core that is started anew from another's committed part.
use Rattle.std.proofs.Common.{sym, subst, List, ◌++◌}
use Rattle.std.proofs.lemmas.List.{append-nil}
use Rattle.san_law.specs.Net.{Net}
use Rattle.san_law.specs.State.{State}
use Rattle.san_law.specs.Step.{Event}
use Rattle.san_law.specs.Trajectory.{Runs}
use Rattle.san_law.specs.Core.{Core}
use Rattle.san_law.specs.Standing.{Counts, Stands, follows_by}
use Rattle.san_law.specs.Pieces.{resumed}
use Rattle.san_law.specs.Laws.{ResumedFollows}

stands_anew : (net : Net) (opening : State) (past : List Event) (c : Core) (s : State) → Stands net opening past c s → Stands net opening (past ++ c.events) (resumed c) s
stands_anew net opening past c s st = record {
  runs = subst (λ (es : List Event). Runs net opening es s) (sym (append-nil (past ++ c.events))) st.runs;
  holds = record {
    sized = record {
      leaves = st.holds.sized.leaves;
      rows = st.holds.sized.rows;
      unsettled = st.holds.sized.unsettled;
      stale = st.holds.sized.stale;
      timers = st.holds.sized.timers;
      rates = st.holds.sized.rates;
      laid = st.holds.sized.laid;
    };
    time = st.holds.time;
    burst = st.holds.burst;
    count = st.holds.count;
    shared = st.holds.shared;
    values = st.holds.values;
    fresh = st.holds.fresh;
    first = st.holds.first;
    going = st.holds.going;
    last = st.holds.last;
    dues = st.holds.dues;
    late = st.holds.late;
  };
  upto = record { renewed = st.upto.renewed; waits = st.upto.waits };
  counts = subst (λ (es : List Event). Counts net opening es c.order.time c.tally) (sym (append-nil (past ++ c.events))) st.counts;
}

pub resumed_follows : (net : Net) → ResumedFollows net
resumed_follows net opening past c stop h = let k = subst (follows_by net opening past c) stop h in (k.0, stands_anew net opening past c k.0 k.1)
