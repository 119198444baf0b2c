-- An opening with any rates follows the run.
use Rattle.std.proofs.Common.{ℕ, ◌<◌, ◌≡◌, ◌∙◌, sym, refl, ◌++◌, List, [], length, map, true, false}
use Rattle.std.proofs.lemmas.Bool.{true≢false}
use Rattle.std.proofs.lemmas.List.{get_or-map}
use Rattle.san_law.specs.Net.{Net, Rated}
use Rattle.san_law.specs.State.{State, opening_state}
use Rattle.san_law.specs.Order.{flag}
use Rattle.san_law.specs.Opening.{opening_core}
use Rattle.san_law.specs.Lawful.{IsLawful}
use Rattle.san_law.specs.Standing.{Stands}
use Rattle.san_law.proofs.Opening.{opening_follows}
use Rattle.san_law.proofs.Standing.{pieces_keep}
use Rattle.san_law.specs.Core.{after_pieces}
use Rattle.san_law.specs.Rates.{OpensAtAnyRates, with_rates}
use Rattle.san_law.specs.Starts.{OpeningIsStart, ResumedIsStart}
use Rattle.san_law.proofs.Resumed.{resumed_follows}

set_at : (net : Net) (i : ℕ) → i < length net.parts → flag (map (λ p. true) net.parts) i ≡ true
set_at net i h = get_or-map (λ p. true) net.parts i [] false h

module _ (net : Net) (rates : List (List Rated)) (long : length rates ≡ length net.parts) (s : State) (st : Stands net (opening_state net) [] (opening_core net) s) where
  stands : Stands net (opening_state net) [] (with_rates rates (opening_core net)) s
  stands = record {
    runs = st.runs;
    holds = record {
      sized = record {
        leaves = st.holds.sized.leaves;
        rows = st.holds.sized.rows;
        unsettled = st.holds.sized.unsettled;
        stale = st.holds.sized.stale;
        timers = st.holds.sized.timers;
        rates = long;
        laid = st.holds.sized.laid;
      };
      time = st.holds.time;
      burst = st.holds.burst;
      count = st.holds.count;
      shared = st.holds.shared;
      values = st.holds.values;
      fresh = λ i h e. absurd (true≢false (sym (set_at net i h) ∙ e));
      first = st.holds.first;
      going = st.holds.going;
      last = st.holds.last;
      dues = st.holds.dues;
      late = st.holds.late;
    };
    upto = record { renewed = st.upto.renewed; waits = st.upto.waits };
    counts = record { long = st.counts.long; sums = st.counts.sums; impulses = st.counts.impulses; early = st.counts.early; timely = st.counts.timely };
  }

pub opens_at_any_rates : (net : Net) → IsLawful net → OpensAtAnyRates net
opens_at_any_rates net law laid rates long n =
    let h = opening_follows net law laid in
    pieces_keep net law (opening_state net) [] (with_rates rates (opening_core net)) (h.0, stands net rates long h.0 h.1) n

pub opening_is_start : (net : Net) → IsLawful net → OpeningIsStart net
unfolding after_pieces
opening_is_start net law laid rates long = record { follows = ([], opens_at_any_rates net law laid rates long 0); quiet = refl; going = refl }

pub resumed_is_start : (net : Net) → ResumedIsStart net
resumed_is_start net past c going h = record { follows = (past ++ c.events, resumed_follows net (opening_state net) past c going h); quiet = refl; going = refl }
