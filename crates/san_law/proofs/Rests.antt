-- Next every leaf is settled: the least stale leaf is renewed, or the least timer completes.
use Rattle.san_base.proofs.NumberTests.{by_number}
use Rattle.std.proofs.Common.{ℕ, suc, ◌+◌, ◌<◌, ◌≤◌, ◌≡◌, ◌≢◌, ◌∙◌, inl, inr, ap, sym, refl, subst, List, [], length, map, Option, Some, None, true, false, arith, nat_le, slice_index, slice_set, slice_index_or, cond}
use Rattle.std.proofs.lemmas.Bool.{cases_lt, true≢false, leb-true}
use Rattle.std.proofs.lemmas.List.{ext_get_or, get_or-map, get_or-set_same, get_or-set_other, length-set, length-map}
use Rattle.std.specs.Prelude.{Result, Ok, Err}
use Rattle.san_base.specs.declared.ending.Trap.{Trap}
use Rattle.san_law.specs.Net.{Done, Faulty, Fresh, Net, Rated, Renewing, Row, least_timer, no_row, without_timer}
use Rattle.san_law.specs.State.{State, gather, local_of, part_of, row_of, slots_of}
use Rattle.san_law.specs.Next.{Stable, next_instant}
use Rattle.san_law.specs.Renewal.{AllFresh, Due, FaultAt, Renewal, least_from, renewed_at, renewed_from}
use Rattle.san_law.specs.Step.{End, Ending, Event, Happened, Over, Stepped, Trapped, at_due, at_next, at_rest, complete, count_limit, event_of, fire, fired, step, unless_over, with_local}
use Rattle.san_law.specs.Block.{before, fault_of, settle}
use Rattle.san_law.specs.Admitted.{Admitted, event_then, admitted, admitted_rest, unless_ended}
use Rattle.san_law.specs.Piece.{Fire, LeafState, Outcome, Refresh, dropped, fired_outcome, kept, no_leaf, privates, renewed_outcome}
use Rattle.san_law.specs.Order.{Order, first_true, flag}
use Rattle.san_law.specs.Reward.{rates_from}
use Rattle.san_law.specs.Core.{Core, burst_after, leaf_of, rates_of, leaf_view_of, stopped, take_piece, take_admitted, taken, with_block, with_renewal}
use Rattle.san_law.specs.Lawful.{IsLate, IsLawful}
use Rattle.san_law.specs.Standing.{Each, Follows, Holds, IsFresh, ServesRenewal, Sized, Stands, Upto, Waits, nothing_in, upto, upto_going, upto_stale, upto_unsettled}
use Rattle.san_law.specs.inner.Least.{Before}
use Rattle.san_law.proofs.Flags.{first_is, none_is}
use Rattle.san_law.proofs.Timers.{dropped_late}
use Rattle.san_law.proofs.Least.{before_late, least_is_before}
use Rattle.san_law.proofs.Tallies.{counts_later, rates_are, admitted_at_time}
use Rattle.san_law.proofs.Blocks.{Fits, ahead, fits_after, keeps, keeps_more, local_after, one_more, ready_again}
use Rattle.san_law.proofs.Commits.{Base}
use Rattle.san_law.proofs.Orders.{due_within, fault_at, nowhere, renewed_all, runs_later, served}
use Rattle.san_law.proofs.Settles.{block_taken, fits_from, local_from, leaf_view_values, stands_from, admitted_closes, with_last}

step_rest : (net : Net) (s : State) (x : Renewal) → next_instant net s ≡ Stable → renewed_from net s 0 s.rows ≡ x → step net s ≡ at_rest net s x
unfolding step
step_rest net s x e f = ap (at_next net s) e ∙ ap (at_rest net s) f

none_goes : (o : Option ℕ) → o ≡ None → (i : ℕ) → o ≢ Some i
none_goes o e i f = let k : None ≡ Some i = sym e ∙ f in cc

-- no leaf is going or unsettled
pub record Settled (c : Core) : Type 0 where
  pub going : c.order.going ≡ None
  pub unsettled : first_true 0 c.order.unsettled ≡ None

pub all_nothing : (net : Net) (c : Core) (s : State) → Holds net c s → Settled c → (i : ℕ) → i < length net.parts → nothing_in net s i
all_nothing net c s holds k i h = holds.first i h (none_is c.order.unsettled k.unsettled i) (none_goes c.order.going k.going i)

pub settled_nowhere : (net : Net) (c : Core) (s : State) → Holds net c s → Settled c → next_instant net s ≡ Stable
settled_nowhere net c s holds k = nowhere net s (all_nothing net c s holds k) (holds.last k.going)

pub settled_upto : (net : Net) (o : Order) (x : Option ℕ) → o.going ≡ None → first_true 0 o.unsettled ≡ None → first_true 0 o.stale ≡ x → upto net o ≡ upto_stale net x
settled_upto net o x g u t = ap (upto_going net o) g ∙ (ap (upto_unsettled net o) u ∙ ap (upto_stale net) t)

module _ (net : Net) (law : IsLawful net) (opening : State) (past : List Event) (c : Core) (s : State) (st : Stands net opening past c s) (settled : Settled c) (unstopped : c.stop ≡ None) (j : ℕ) (stale : first_true 0 c.order.stale ≡ Some j) where
  within : j < length net.parts
  within = omega (arith, (first_is c.order.stale j stale).within, st.holds.sized.stale)

  upto_here : Upto net c s j
  upto_here = subst (Upto net c s) (settled_upto net c.order (Some j) settled.going settled.unsettled stale) st.upto

  waits_here : Waits net s j (leaf_of c j)
  waits_here = upto_here.waits j within (omega arith)

  leaf_view_here : leaf_view_of net c j ≡ local_of net s j
  leaf_view_here = local_from (leaf_view_of net c j).values (gather (slots_of net j) s.marking) (leaf_of c j).row (row_of s j) (leaf_view_values net c s j st.holds within) waits_here.row

  same_renewal : net.renewed j c.order.time (leaf_of c j).seen (leaf_view_of net c j) ≡ renewed_at net s j (row_of s j)
  same_renewal = ap (λ t. net.renewed j t (leaf_of c j).seen (leaf_view_of net c j)) st.holds.time
      ∙ (ap (net.renewed j s.time (leaf_of c j).seen) leaf_view_here
      ∙ served net law j s.time (leaf_of c j).seen (gather (slots_of net j) s.stable) (local_of net s j) (subst (ServesRenewal net j (leaf_of c j).seen (gather (slots_of net j) s.stable)) waits_here.row waits_here.seen))

  faulty : (k : ℕ) (trap : Trap) → renewed_at net s j (row_of s j) ≡ Faulty k trap → Follows net opening past (stopped net c c.order.time (burst_after Refresh c.burst 0) [] (Trapped j k trap))
  faulty k trap e =
      let f = fault_at net s j k s.rows (λ i. (leaf_of c i).row) trap (omega (arith, within, st.holds.sized.rows)) (λ i h. upto_here.renewed i (omega (arith, h, within)) h) e in (
        s,
        record {
          runs = runs_later net opening s s past c.events [] st.runs refl;
          over = ap (λ (x : Stepped × State). x.0) (step_rest net s (FaultAt j k trap) (settled_nowhere net c s st.holds settled) f) ∙ ap (λ t. Over t (Trapped j k trap)) (sym st.holds.time);
          count = omega (arith, st.holds.count);
          counts = counts_later net opening s past c.events [] c.tally c.order.time c.order.time st.runs st.counts tt (omega arith) st.counts.timely (inl refl) (omega arith);
        },
      )

  module _ (r : Row) (e : renewed_at net s j (row_of s j) ≡ Fresh r) where
    abbrev new_leaf : LeafState
    new_leaf = record { values = (leaf_of c j).values; row = r; seen = kept net j (leaf_view_of net c j).values }

    abbrev new_outcome : Outcome
    new_outcome = renewed_outcome net j (leaf_of c j) (leaf_view_of net c j).values (Fresh r)

    leaf_same : (i : ℕ) → i ≢ j → slice_index_or (slice_set c.leaves j new_leaf) i no_leaf ≡ leaf_of c i
    leaf_same i n = get_or-set_other c.leaves j i new_leaf no_leaf n

    leaf_new : slice_index_or (slice_set c.leaves j new_leaf) j no_leaf ≡ new_leaf
    leaf_new = get_or-set_same c.leaves j new_leaf no_leaf (omega (arith, within, st.holds.sized.leaves))

    abbrev new_rates : List Rated
    new_rates = net.rates j (leaf_view_of net c j).values

    fresh_new : IsFresh net s j new_leaf new_rates
    fresh_new = record {
      quiet = λ t. law.again j s.time t (gather (slots_of net j) s.stable) (local_of net s j) r e;
      seen = ap (kept net j) (leaf_view_values net c s j st.holds within);
      rates = ap (net.rates j) (leaf_view_values net c s j st.holds within);
    }

    stale_same : (i : ℕ) → i ≢ j → flag (slice_set c.order.stale j false) i ≡ flag c.order.stale i
    stale_same i n = get_or-set_other c.order.stale j i false false n

    fresh_after : Each net (λ i. flag (slice_set c.order.stale j false) i ≡ false → IsFresh net s i (slice_index_or (slice_set c.leaves j new_leaf) i no_leaf) (slice_index_or (slice_set c.tally.rates j new_rates) i []))
    fresh_after = by_number (λ i. i < length net.parts → flag (slice_set c.order.stale j false) i ≡ false → IsFresh net s i (slice_index_or (slice_set c.leaves j new_leaf) i no_leaf) (slice_index_or (slice_set c.tally.rates j new_rates) i [])) j
        (λ h q. subst (λ (x : LeafState). IsFresh net s j x (slice_index_or (slice_set c.tally.rates j new_rates) j [])) (sym leaf_new) (subst (λ ws. IsFresh net s j new_leaf ws) (sym (get_or-set_same c.tally.rates j new_rates [] (omega (arith, h, st.holds.sized.rates)))) fresh_new))
        (λ i n h q. subst (λ (x : LeafState). IsFresh net s i x (slice_index_or (slice_set c.tally.rates j new_rates) i [])) (sym (leaf_same i n)) (subst (λ ws. IsFresh net s i (leaf_of c i) ws) (sym (get_or-set_other c.tally.rates j i new_rates [] n)) (st.holds.fresh i h (sym (stale_same i n) ∙ q))))

    values_after : Each net (λ i. (slice_index_or (slice_set c.leaves j new_leaf) i no_leaf).values ≡ gather (privates (part_of net i)) s.marking)
    values_after = by_number (λ i. i < length net.parts → (slice_index_or (slice_set c.leaves j new_leaf) i no_leaf).values ≡ gather (privates (part_of net i)) s.marking) j
        (λ h. ap (λ (x : LeafState). x.values) leaf_new ∙ st.holds.values j h)
        (λ i n h. ap (λ (x : LeafState). x.values) (leaf_same i n) ∙ st.holds.values i h)

    dues_after : Each net (λ i. slice_index_or (slice_set c.order.dues j (least_timer r)) i None ≡ least_timer (slice_index_or (slice_set c.leaves j new_leaf) i no_leaf).row)
    dues_after = by_number (λ i. i < length net.parts → slice_index_or (slice_set c.order.dues j (least_timer r)) i None ≡ least_timer (slice_index_or (slice_set c.leaves j new_leaf) i no_leaf).row) j
        (λ h. get_or-set_same c.order.dues j (least_timer r) None (omega (arith, h, st.holds.sized.timers)) ∙ ap (λ (x : LeafState). least_timer x.row) (sym leaf_new))
        (λ i n h. get_or-set_other c.order.dues j i (least_timer r) None n ∙ (st.holds.dues i h ∙ ap (λ (x : LeafState). least_timer x.row) (sym (leaf_same i n))))

    holds_after : Holds net (with_renewal net c c.order.time j new_outcome) s
    holds_after = record {
      sized = record {
        leaves = length-set c.leaves j new_leaf ∙ st.holds.sized.leaves;
        rows = st.holds.sized.rows;
        unsettled = st.holds.sized.unsettled;
        stale = length-set c.order.stale j false ∙ st.holds.sized.stale;
        timers = length-set c.order.dues j (least_timer r) ∙ st.holds.sized.timers;
        rates = length-set c.tally.rates j new_rates ∙ st.holds.sized.rates;
        laid = st.holds.sized.laid;
      };
      time = st.holds.time;
      burst = st.holds.burst;
      count = st.holds.count;
      shared = st.holds.shared;
      values = values_after;
      fresh = fresh_after;
      first = st.holds.first;
      going = st.holds.going;
      last = st.holds.last;
      dues = dues_after;
      late = by_number (λ i. i < length net.parts → IsLate s.time (slice_index_or (slice_set c.leaves j new_leaf) i no_leaf).row) j
          (λ h. subst (λ (x : LeafState). IsLate s.time x.row) (sym leaf_new) (law.renewed_late j s.time (gather (slots_of net j) s.stable) (local_of net s j) r e (subst (IsLate s.time) waits_here.row (st.holds.late j h))))
          (λ i n h. subst (λ (x : LeafState). IsLate s.time x.row) (sym (leaf_same i n)) (st.holds.late i h));
    }

    upto_after : Upto net (with_renewal net c c.order.time j new_outcome) s (suc j)
    upto_after = record {
      renewed = by_number (λ i. i < length net.parts → i < suc j → renewed_at net s i (row_of s i) ≡ Fresh (slice_index_or (slice_set c.leaves j new_leaf) i no_leaf).row) j
          (λ h l. e ∙ ap (λ (x : LeafState). Fresh x.row) (sym leaf_new))
          (λ i n h l. upto_here.renewed i h (omega arith) ∙ ap (λ (x : LeafState). Fresh x.row) (sym (leaf_same i n)));
      waits = λ i h l. let n : i ≢ j = omega arith in subst (λ (x : LeafState). Waits net s i x) (sym (leaf_same i n)) (upto_here.waits i h (omega arith));
    }

    further : (x : Option ℕ) → first_true 0 (slice_set c.order.stale j false) ≡ x → suc j ≤ upto_stale net x
    further None q = within
    further (Some i) q =
        let k = first_is (slice_set c.order.stale j false) i q in
        let l = first_is c.order.stale j stale in
        elim (cases_lt j i) [
          | inl h ↦ h
          | inr h ↦ absurd (by_number (λ i. i ≤ j → flag (slice_set c.order.stale j false) i ≡ true → ⊥) j
              (λ h t. true≢false (sym t ∙ get_or-set_same c.order.stale j false false (omega (arith, within, st.holds.sized.stale))))
              (λ i n h t. true≢false (sym t ∙ (stale_same i n ∙ l.below i (omega arith)))) i h k.set)
        ]

    refreshed : Follows net opening past (with_renewal net c c.order.time j new_outcome)
    refreshed = (
      s,
      stands_from net law opening past (with_renewal net c c.order.time j new_outcome) s (suc j) st.runs holds_after upto_after
          (let q = settled_upto net (with_renewal net c c.order.time j new_outcome).order (first_true 0 (slice_set c.order.stale j false)) settled.going settled.unsettled refl in
          let f = further (first_true 0 (slice_set c.order.stale j false)) refl in
          subst (λ n. suc j ≤ n) (sym q) f) (record { long = st.counts.long; sums = st.counts.sums; impulses = st.counts.impulses; early = st.counts.early; timely = st.counts.timely }),
    )

  by_renewed : (x : Renewing) → renewed_at net s j (row_of s j) ≡ x → Follows net opening past (taken net c j Refresh c.order.time (renewed_outcome net j (leaf_of c j) (leaf_view_of net c j).values x))
  by_renewed (Fresh r) e = refreshed r e
  by_renewed (Faulty k trap) e = faulty k trap e

  pub refresh_follows : Follows net opening past (take_piece net c j Refresh c.order.time)
  refresh_follows = subst (λ x. Follows net opening past (taken net c j Refresh c.order.time (renewed_outcome net j (leaf_of c j) (leaf_view_of net c j).values x))) (sym same_renewal) (by_renewed (renewed_at net s j (row_of s j)) refl)

-- the least timer completes
abbrev rows_of : Core → List Row
rows_of c = map (λ (x : LeafState). x.row) c.leaves

module _ (net : Net) (law : IsLawful net) (opening : State) (past : List Event) (c : Core) (s : State) (st : Stands net opening past c s) (settled : Settled c) (none_stale : first_true 0 c.order.stale ≡ None) where
  all_fresh : Each net (λ i. IsFresh net s i (leaf_of c i) (rates_of c i))
  all_fresh i h = st.holds.fresh i h (none_is c.order.stale none_stale i)

  upto_all : Upto net c s (length net.parts)
  upto_all = subst (Upto net c s) (settled_upto net c.order None settled.going settled.unsettled none_stale) st.upto

  row_at : (i : ℕ) → i < length net.parts → slice_index_or (rows_of c) i no_row ≡ (leaf_of c i).row
  row_at i h = get_or-map (λ (x : LeafState). x.row) c.leaves i no_leaf no_row (omega (arith, h, st.holds.sized.leaves))

  long_rows : length (rows_of c) ≡ length net.parts
  long_rows = length-map c.leaves (λ (x : LeafState). x.row) ∙ st.holds.sized.leaves

  renewal_is : renewed_from net s 0 s.rows ≡ AllFresh (rows_of c)
  renewal_is = renewed_all net s s.rows (rows_of c) (st.holds.sized.rows ∙ sym long_rows) (λ i h.
      let k : i < length net.parts = omega (arith, h, st.holds.sized.rows) in
      upto_all.renewed i k k ∙ ap (λ r. Fresh r) (sym (row_at i k)))

  dues_are : map least_timer (rows_of c) ≡ c.order.dues
  dues_are = ext_get_or None (map least_timer (rows_of c)) c.order.dues (length-map (rows_of c) least_timer ∙ (long_rows ∙ sym st.holds.sized.timers)) (λ i h.
      let k : i < length net.parts = omega (arith, h, length-map (rows_of c) least_timer, long_rows) in
      get_or-map least_timer (rows_of c) i no_row None (omega (arith, k, long_rows)) ∙ (ap least_timer (row_at i k) ∙ sym (st.holds.dues i k)))

  pub step_is : (x : Option Due) → least_from 0 c.order.dues ≡ x → step net s ≡ at_due net s (rows_of c) x
  step_is x e = step_rest net s (AllFresh (rows_of c)) (settled_nowhere net c s st.holds settled) renewal_is
      ∙ (ap (λ ds. at_due net s (rows_of c) (least_from 0 ds)) dues_are ∙ ap (at_due net s (rows_of c)) e)

  module _ (d : Due) (is : least_from 0 c.order.dues ≡ Some d) (timely : nat_le d.time net.horizon ≡ true) where
    abbrev at : State
    at = fired net s (rows_of c) d

    leaf_within : d.leaf < length net.parts
    leaf_within = omega (arith, due_within c.order.dues d is, st.holds.sized.timers)

    step_fires : step net s ≡ fire net at d.leaf d.act
    step_fires = step_is (Some d) is ∙ ap (λ b. cond b (fire net at d.leaf d.act) (Over net.horizon End, s)) timely

    row_fired : without_timer (leaf_of c d.leaf).row d.act ≡ row_of at d.leaf
    row_fired = sym (get_or-set_same (rows_of c) d.leaf (without_timer (slice_index_or (rows_of c) d.leaf no_row) d.act) no_row (omega (arith, leaf_within, long_rows)) ∙ ap (λ r. without_timer r d.act) (row_at d.leaf leaf_within))

    local_fired : dropped net (leaf_view_of net c d.leaf) d.act ≡ local_of net at d.leaf
    local_fired = local_from (leaf_view_of net c d.leaf).values (gather (slots_of net d.leaf) s.marking) (without_timer (leaf_of c d.leaf).row d.act) (row_of at d.leaf) (leaf_view_values net c s d.leaf st.holds leaf_within) row_fired

    sized_fired : Sized net c at
    sized_fired = record {
      leaves = st.holds.sized.leaves;
      rows = length-set (rows_of c) d.leaf (without_timer (slice_index_or (rows_of c) d.leaf no_row) d.act) ∙ long_rows;
      unsettled = st.holds.sized.unsettled;
      stale = st.holds.sized.stale;
      timers = st.holds.sized.timers;
      rates = st.holds.sized.rates;
      laid = st.holds.sized.laid;
    }

    first_due : (slice_index_or c.order.dues d.leaf None ≡ Some (d.time, d.act)) × ((i : ℕ) → Before d i (slice_index_or c.order.dues i None))
    first_due = least_is_before c.order.dues d is

    on_time : c.order.time ≤ d.time
    on_time = omega (arith, st.holds.time, st.holds.late d.leaf leaf_within (d.time, d.act) (sym (st.holds.dues d.leaf leaf_within) ∙ first_due.0))

    late_others : (i : ℕ) → i < length net.parts → IsLate d.time (leaf_of c i).row
    late_others i h x e = before_late d i x (subst (Before d i) (st.holds.dues i h ∙ e) (first_due.1 i))

    base_fired : Base net c at d.leaf (local_of net at d.leaf)
    base_fired = record {
      sized = sized_fired;
      within = leaf_within;
      local = refl;
      shared = st.holds.shared;
      values = st.holds.values;
      fresh = λ i h n e. let f = all_fresh i h in record { quiet = f.quiet; seen = f.seen; rates = f.rates };
      first = λ i h n e. all_nothing net c s st.holds settled i h;
      last = λ i n e. st.holds.last settled.going i e;
      dues = st.holds.dues;
      waits = λ i h n. record {
        row = sym (get_or-set_other (rows_of c) d.leaf i (without_timer (slice_index_or (rows_of c) d.leaf no_row) d.act) no_row n ∙ row_at i h);
        seen = inl (all_fresh i h).seen;
      };
      seen = inl (all_fresh d.leaf leaf_within).seen;
      late = λ i h n. late_others i h;
      late_own = subst (IsLate d.time) row_fired (dropped_late (leaf_of c d.leaf).row d.time d.act (sym (st.holds.dues d.leaf leaf_within) ∙ first_due.0));
    }

    fits_fired : Fits net at d.leaf
    fits_fired = fits_from net c at d.leaf sized_fired leaf_within

    by_horizon : d.time ≤ net.horizon
    by_horizon = leb-true d.time net.horizon timely

    present : c.tally.rates ≡ rates_from net 0 net.parts s.marking
    present = rates_are net c.tally.rates s.marking st.holds.sized.rates (λ i h. (all_fresh i h).rates)

    over_at : (e : Ending) → (step net s).0 ≡ Over d.time e → Follows net opening past (stopped net c d.time (burst_after (Fire d.act) c.burst 0) [] e)
    over_at e h = (
      s,
      record {
        runs = runs_later net opening s s past c.events [] st.runs refl;
        over = h;
        count = omega (arith, st.holds.count);
        counts = counts_later net opening s past c.events [] c.tally c.order.time d.time st.runs st.counts tt on_time by_horizon (inr present) (omega arith);
      },
    )

    -- the fired piece, admitted from a count
    abbrev fire_with : ℕ → ℕ → Option Ending → Result Done Trap → Core
    fire_with n count lim o =
        let out = fired_outcome net n d.leaf (leaf_of c d.leaf) d.act o in
        take_admitted net c d.time (Fire d.act) (unless_ended lim (admitted_rest net d.time d.leaf count out.fault out.completions)) (λ es. with_block net c d.time (burst_after (Fire d.act) c.burst (length out.completions)) (count + length out.completions) d.leaf es out)

    completes : (n : ℕ) (m : Done) → count_limit net s.count ≡ None → net.done d.leaf d.act (local_of net at d.leaf) ≡ Ok m → Follows net opening past (fire_with n s.count None (Ok m))
    completes n m lim done =
        let j = d.leaf in
        let rest = settle net j n m.left in
        let u1 = with_local net at 0 j m.left in
        let go : step net s ≡ (Happened (event_of d.time j d.act m), u1) = step_fires ∙ (ap (λ o. unless_over at o (complete net at 0 j d.act (net.done j d.act (local_of net at j)))) lim ∙ ap (complete net at 0 j d.act) done) in
        let long : length m.left.values ≡ length (slots_of net j) = law.keeps j d.act (local_of net at j) m done ∙ length-map (slots_of net j) (λ p. slice_index s.marking p) in
        let x : Admitted = event_then (event_of d.time j d.act m) (admitted net d.time j 0 (s.count + 1) (fault_of rest.close) rest.completions) in
        let r = one_more net j d.act 0 (length rest.completions) s at m rest go (ahead net law j n u1 m.left (local_after net j 0 at m.left fits_fired long) (fits_after net j 0 at m.left fits_fired) (ready_again net u1 j refl)) (omega arith) in
        let b = before d.act m rest in
        block_taken net law opening past c at r.0 j (length rest.completions) (s.count + length b.completions) (local_of net at j) b base_fired (keeps_more net law j d.act (local_of net at j) m rest done (keeps net law j n m.left)) x s st.runs st.holds.count st.counts (refl, admitted_at_time net d.time j 0 (s.count + 1) (fault_of rest.close) rest.completions) on_time by_horizon (inr present)
        (Fire d.act) (runs_later net opening s r.0 past c.events x.0 st.runs r.1) r.2
        (λ e. with_last b j at.last (λ h. refl) (admitted_closes net d.time j 0 (s.count + 1) rest.close rest.completions e)) refl

    by_done : (n : ℕ) (o : Result Done Trap) → count_limit net s.count ≡ None → net.done d.leaf d.act (local_of net at d.leaf) ≡ o → Follows net opening past (fire_with n s.count None o)
    by_done n (Err trap) lim done = over_at (Trapped d.leaf d.act trap)
        (ap (λ (x : Stepped × State). x.0) (step_fires ∙ (ap (λ o. unless_over at o (complete net at 0 d.leaf d.act (net.done d.leaf d.act (local_of net at d.leaf)))) lim ∙ ap (complete net at 0 d.leaf d.act) done)))
    by_done n (Ok m) lim done = completes n m lim done

    by_limit : (n : ℕ) (o : Option Ending) → count_limit net s.count ≡ o → Follows net opening past (fire_with n s.count o (net.done d.leaf d.act (local_of net at d.leaf)))
    by_limit n None lim = by_done n (net.done d.leaf d.act (local_of net at d.leaf)) lim refl
    by_limit n (Some e) lim = over_at e (ap (λ (x : Stepped × State). x.0) (step_fires ∙ ap (λ o. unless_over at o (complete net at 0 d.leaf d.act (net.done d.leaf d.act (local_of net at d.leaf)))) lim))

    pub fire_follows : (n : ℕ) → Follows net opening past (fire_with n c.count (count_limit net c.count) (net.done d.leaf d.act (dropped net (leaf_view_of net c d.leaf) d.act)))
    fire_follows n =
        subst (λ l. Follows net opening past (fire_with n c.count (count_limit net c.count) (net.done d.leaf d.act l))) (sym local_fired)
        (subst (λ k. Follows net opening past (fire_with n k (count_limit net k) (net.done d.leaf d.act (local_of net at d.leaf)))) (sym st.holds.count)
        (by_limit n (count_limit net s.count) refl))
