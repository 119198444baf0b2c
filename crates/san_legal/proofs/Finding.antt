-- Back: for what may come in a kept state there are a state that agrees with it and draws with which a step does it.
use Rattle.std.proofs.Common.{ℕ, zero, suc, ◌+◌, ◌^◌, ◌<◌, ◌≡◌, ◌∙◌, inl, inr, ap, sym, subst, refl, arith, List, [], ◌∷◌, length, map, Option, Some, None, Result, Ok, Err, Bool, cond}
use Rattle.std.specs.Prelude.{slice_index}
use Rattle.std.proofs.lemmas.Bool.{le-leb, lt-leb}
use Rattle.std.proofs.lemmas.List.{length-set}
use Rattle.san_base.specs.declared.ending.Trap.{Trap}
use Rattle.san_law.proofs.Firsts.{is_before_all}
use Rattle.san_law.specs.Activity.{Activity, Effected, activity_of, case_stream, delay_stream, done_by}
use Rattle.san_law.specs.First.{due_of, timer_at}
use Rattle.san_law.specs.Net.{Local, Net, Row, Timer, least_timer}
use Rattle.san_law.specs.Network.{Limits, Network, net_of, part_at}
use Rattle.san_law.specs.Next.{Completes, Next, Stable, TrapsAt, next_instant}
use Rattle.san_law.specs.Renewal.{AllFresh, Due, FaultAt, Renewal, least_from, renewed_from}
use Rattle.san_law.specs.State.{State, gather, local_of, slots_of}
use Rattle.san_law.specs.Step.{End, Ending, Event, Events, Happened, Over, Stepped, Trapped, Unstable, at_due, at_next, at_rest, complete, count_limit, fire, fired, step, unless_over}
use Rattle.san_legal.specs.Draws.{AreDraws}
use Rattle.san_legal.specs.Endings.{HasAfter, IsStopped, MayEnd, MayWait, TrapsInstant, TrapsNow, TrapsRenewed}
use Rattle.san_legal.specs.Free.{IsFreeNetwork}
use Rattle.san_legal.specs.FreeRuns.{IsFreeStep}
use Rattle.san_legal.specs.Kept.{RowsAgree, HaveSome, IsOne, StateAgrees, KeptTimer, KeptRow, KeptState, bound_of, kept_at, timer_of, with_rows}
use Rattle.san_legal.specs.KeptSteps.{kept_completed, kept_renewed, kept_without, state_in, undrawn}
use Rattle.san_legal.specs.Legal.{InstantMayCome, RenewsTo, TimedMayCome, MayCome, MayFire, due_in, event_by, fired_at}
use Rattle.san_legal.proofs.Chosen.{Chosen, NotYet, chosen, done_of, not_yet, some_rows}
use Rattle.san_legal.proofs.Fires.{PutBack, kept_left, kept_row_there, put}
use Rattle.san_legal.proofs.Firing.{kept_there}
use Rattle.san_legal.proofs.FreeLemmas.{by_stream, even_stream, odd_stream}
use Rattle.san_legal.proofs.Judging.{next_any}
use Rattle.san_legal.proofs.KeptActs.{least_word}
use Rattle.san_legal.proofs.KeptRows.{AllDelays, AreSizedKept, RenewalAlike, RowsBefore, before_rows, renewal_alike, rows_before}
use Rattle.san_legal.proofs.WithinLemmas.{NextIsUnder, first_under, next_under}

-- a kept state whose rows are as long as the activities, and each of whose timers has a due time
pub record IsReady (network : Network) (k : KeptState) : Type 0 where
  pub sized : AreSizedKept network k.rows
  pub some : HaveSome network (bound_of k) k.rows

-- a state that agrees, and a step from it
pub record Found (network : Network) (limits : Limits) (k : KeptState) (x : Stepped × State) : Type 0 where
  pub state : State
  pub within : StateAgrees network k state
  pub step : IsFreeStep network limits state x

-- and one that comes to an ending
pub record FoundEnd (network : Network) (limits : Limits) (k : KeptState) (time : ℕ) (ending : Ending) : Type 0 where
  pub left : State
  pub found : Found network limits k (Over time ending, left)

-- words by stream
stream_words : (f g : ℕ → ℕ) → ((a : ℕ) → f a < 2 ^ 64) → ((a : ℕ) → g a < 2 ^ 64) → (n : ℕ) → by_stream f g n < 2 ^ 64
stream_words f g hf hg zero = hf 0
stream_words f g hf hg (suc zero) = hg 0
stream_words f g hf hg (suc (suc n)) = stream_words (λ a. f (suc a)) (λ a. g (suc a)) (λ a. hf (suc a)) (λ a. hg (suc a)) n

case_row_there : (xs : List KeptRow) (j i : ℕ) → i < length (kept_at xs j).cases → j < length xs
case_row_there [] j i h = absurd (omega (arith, h))
case_row_there (x ∷ xs) zero i h = omega arith
case_row_there (x ∷ xs) (suc j) i h = let more = case_row_there xs j i h in omega (arith, more)

module _ (network : Network) (limits : Limits) where
  abbrev still : Net
  still = undrawn network limits

  -- ---- a completion with a given case draw

  module _ (draw : ℕ → ℕ → ℕ) (u : ℕ) (k : KeptState) (rows : List Row) (burst j i : ℕ) (drawn : (n : ℕ) → draw (case_stream (part_at network j) i) n ≡ u) where
    abbrev net : Net
    net = net_of draw network limits

    abbrev l : Local
    l = local_of net (with_rows k rows) j

    abbrev act : Activity
    act = activity_of (part_at network j) i

    done_is : (r : Result Effected Trap) → act.complete u l.values ≡ r → net.done j i l ≡ done_by l.row i act r
    done_is r is = ap (λ (v : ℕ). done_by l.row i act (act.complete v l.values)) (drawn (slice_index l.row.cases i)) ∙ ap (done_by l.row i act) is

    happens : (effect : Effected) → act.complete u l.values ≡ Ok effect
        → complete net (with_rows k rows) burst j i (net.done j i l) ≡ (Happened (event_by network k.time j i effect), with_rows (kept_completed still k burst j i effect.values) (done_of network (bound_of k) k.rows j i rows))
    happens effect is = ap (complete net (with_rows k rows) burst j i) (done_is (Ok effect) is)

    fails : (trap : Trap) → act.complete u l.values ≡ Err trap → complete net (with_rows k rows) burst j i (net.done j i l) ≡ (Over k.time (Trapped j i trap), with_rows k rows)
    fails trap is = ap (complete net (with_rows k rows) burst j i) (done_is (Err trap) is)

  -- ---- instantaneous completions

  module _ (k : KeptState) (ready : IsReady network k) where
    any_rows : (rows : List Row) × RowsAgree network (bound_of k) k.rows rows
    any_rows = some_rows network (bound_of k) k.rows ready.some

    within_of : (rows : List Row) → RowsAgree network (bound_of k) k.rows rows → StateAgrees network k (with_rows k rows)
    within_of rows are = record { same = refl; rows = are }

    -- the step at what stands next, with one number for all draws
    next_step : (u : ℕ) (rows : List Row) (w : Next) → next_instant still (state_in k) ≡ w → step (net_of (λ s n. u) network limits) (with_rows k rows) ≡ at_next (net_of (λ s n. u) network limits) (with_rows k rows) w
    unfolding step
    next_step u rows w next = ap (at_next (net_of (λ s n. u) network limits) (with_rows k rows)) (next_any network limits (λ s n. u) k rows ∙ next)

    act_inside : (j i : ℕ) → next_instant still (state_in k) ≡ Completes j i → j < length k.rows
    act_inside j i next =
        let under : i < length (part_at network j).activities = subst (NextIsUnder still.acts) next (next_under still (state_in k) (λ m values. first_under (part_at network m) values)) in
        case_row_there k.rows j i (omega (arith, under, (ready.sized j).cases))

    instant_found : (e : Event) (after : KeptState) (t : State) → InstantMayCome network limits k e after → StateAgrees network after t → Found network limits k (Happened e, t)
    instant_found e after t is within =
        let x = is.done in
        let to : KeptState = kept_completed still k (k.burst + 1) e.leaf e.act is.effect.values in
        let agrees : StateAgrees network to t = subst (λ (y : KeptState). StateAgrees network y t) is.left within in
        let before : NotYet network (bound_of k) k.rows e.leaf e.act t.rows = not_yet network (bound_of k) k.rows e.leaf e.act (act_inside e.leaf e.act is.next) t.rows agrees.rows in
        let net = net_of (λ s n. x.draw) network limits in
        let s : State = with_rows k before.rows in
        let left : with_rows to (done_of network (bound_of k) k.rows e.leaf e.act before.rows) ≡ t = ap (with_rows to) before.left ∙ sym agrees.same in
        let go : Stepped × State = complete net s (k.burst + 1) e.leaf e.act (net.done e.leaf e.act (local_of net s e.leaf)) in
        record {
          state = s;
          within = within_of before.rows before.are;
          step = record {
            draw = λ s n. x.draw;
            words = λ s n. x.word;
            is = next_step x.draw before.rows (Completes e.leaf e.act) is.next
                ∙ (ap (λ (o : Option Ending). unless_over s o go) is.limit
                ∙ (happens (λ s n. x.draw) x.draw k before.rows (k.burst + 1) e.leaf e.act (λ n. refl) is.effect x.is
                ∙ (ap (λ (y : State). (let p : Stepped × State = (Happened (event_by network k.time e.leaf e.act is.effect), y) in p)) left
                ∙ ap (λ (y : Event). (let p : Stepped × State = (Happened y, t) in p)) (sym is.event))));
          };
        }

    stopped_found : (e : Ending) → IsStopped network limits k e → FoundEnd network limits k k.time e
    stopped_found e is =
        let net = net_of (λ s n. 0) network limits in
        let s : State = with_rows k any_rows.0 in
        let go : Stepped × State = complete net s (k.burst + 1) is.leaf is.act (net.done is.leaf is.act (local_of net s is.leaf)) in
        record {
          left = s;
          found = record {
            state = s;
            within = within_of any_rows.0 any_rows.1;
            step = record { draw = λ s n. 0; words = λ s n. least_word; is = next_step 0 any_rows.0 (Completes is.leaf is.act) is.next ∙ ap (λ (o : Option Ending). unless_over s o go) is.limit };
          };
        }

    test_found : (j i : ℕ) (trap : Trap) → next_instant still (state_in k) ≡ TrapsAt j i trap → FoundEnd network limits k k.time (Trapped j i trap)
    test_found j i trap next = record {
      left = with_rows k any_rows.0;
      found = record {
        state = with_rows k any_rows.0;
        within = within_of any_rows.0 any_rows.1;
        step = record { draw = λ s n. 0; words = λ s n. least_word; is = next_step 0 any_rows.0 (TrapsAt j i trap) next };
      };
    }

    trap_found : (j i : ℕ) (trap : Trap) → TrapsInstant network limits k j i trap → FoundEnd network limits k k.time (Trapped j i trap)
    trap_found j i trap is =
        let x = is.traps in
        let net = net_of (λ s n. x.draw) network limits in
        let s : State = with_rows k any_rows.0 in
        let go : Stepped × State = complete net s (k.burst + 1) j i (net.done j i (local_of net s j)) in
        record {
          left = s;
          found = record {
            state = s;
            within = within_of any_rows.0 any_rows.1;
            step = record {
              draw = λ s n. x.draw;
              words = λ s n. x.word;
              is = next_step x.draw any_rows.0 (Completes j i) is.next
                  ∙ (ap (λ (o : Option Ending). unless_over s o go) is.limit
                  ∙ fails (λ s n. x.draw) x.draw k any_rows.0 (k.burst + 1) j i (λ n. refl) trap x.is);
            };
          };
        }

    module _ (free : IsFreeNetwork network) where
      abbrev delays : AllDelays network
      delays = λ j i. (free.each j i).delays

      -- a renewal that traps does so whatever the draws
      renewal_found : (j i : ℕ) (trap : Trap) → TrapsRenewed network limits k j i trap → FoundEnd network limits k k.time (Trapped j i trap)
      renewal_found j i trap is =
          let net = net_of (λ s n. 0) network limits in
          let s : State = with_rows k any_rows.0 in
          by_renewal (renewed_from net s 0 any_rows.0) refl
          (subst (λ (y : Renewal). RenewalAlike network limits k delays 0 k.rows y (renewed_from net s 0 any_rows.0)) is.renewed (renewal_alike network limits k delays (λ s n. 0) (λ s n. least_word) any_rows.0 ready.sized any_rows.1))
        where
          by_renewal : (y : Renewal) → renewed_from (net_of (λ s n. 0) network limits) (with_rows k any_rows.0) 0 any_rows.0 ≡ y → RenewalAlike network limits k delays 0 k.rows (FaultAt j i trap) y → FoundEnd network limits k k.time (Trapped j i trap)
          by_renewal (AllFresh gs) e h = absurd h
          by_renewal (FaultAt l m f) e h =
              let same : renewed_from (net_of (λ s n. 0) network limits) (with_rows k any_rows.0) 0 any_rows.0 ≡ FaultAt j i trap
              = e ∙ sym (ap (λ (x : ℕ). FaultAt x i trap) h.0 ∙ (ap (λ (x : ℕ). FaultAt l x trap) h.1 ∙ ap (FaultAt l m) h.2)) in
              record {
                left = with_rows k any_rows.0;
                found = record {
                  state = with_rows k any_rows.0;
                  within = within_of any_rows.0 any_rows.1;
                  step = record { draw = λ s n. 0; words = λ s n. least_word; is = next_step 0 any_rows.0 Stable is.next ∙ ap (at_rest (net_of (λ s n. 0) network limits) (with_rows k any_rows.0)) same };
                };
              }

      -- ---- renewals

      -- rows that agree after a renewal come from a state that agrees, with draws whose case draws are all one number
      module _ (fs : List Row) (renewed : RenewsTo network limits k fs) (rows : List Row) (are : RowsAgree network (bound_of k) (kept_renewed still k fs) rows) (u : ℕ) (word : u < 2 ^ 64) where
        old : RowsBefore network limits k delays 0 k.rows rows
        old = rows_before network limits k delays fs rows renewed.renewed ready.sized ready.some are

        abbrev draw : ℕ → ℕ → ℕ
        draw stream n = by_stream (λ a. old.draws (free.apart.leaf_of a) (free.apart.act_of a)) (λ a. u) stream

        draw_words : AreDraws draw
        draw_words stream n = stream_words (λ a. old.draws (free.apart.leaf_of a) (free.apart.act_of a)) (λ a. u) (λ a. old.words (free.apart.leaf_of a) (free.apart.act_of a)) (λ a. word) stream

        case_drawn : (j i n : ℕ) → draw (case_stream (part_at network j) i) n ≡ u
        case_drawn j i n = odd_stream (λ a. old.draws (free.apart.leaf_of a) (free.apart.act_of a)) (λ a. u) ((part_at network j).first + i)

        delay_drawn : (l i n : ℕ) → i < length (part_at network (0 + l)).activities → draw (delay_stream (part_at network (0 + l)) i) n ≡ old.draws l i
        delay_drawn l i n h =
            let at : 0 + l ≡ l = omega arith in
            even_stream (λ a. old.draws (free.apart.leaf_of a) (free.apart.act_of a)) (λ a. u) ((part_at network (0 + l)).first + i)
            ∙ (ap (λ (m : ℕ). old.draws m (free.apart.act_of ((part_at network (0 + l)).first + i))) (free.apart.leaf (0 + l) i h ∙ at)
            ∙ ap (old.draws l) (free.apart.act (0 + l) i h))

        abbrev start : State
        start = with_rows k old.rows

        start_within : StateAgrees network k start
        start_within = within_of old.rows (before_rows network limits k delays rows old)

        rest_is : step (net_of draw network limits) start ≡ at_due (net_of draw network limits) start rows (least_from 0 (map least_timer rows))
        unfolding step
        rest_is =
            ap (at_next (net_of draw network limits) start) (next_any network limits draw k old.rows ∙ renewed.next)
            ∙ ap (at_rest (net_of draw network limits) start) (old.is draw (λ l i h. delay_drawn l i (slice_index (kept_at k.rows l).delays i) h) old.rows)

        free_step : (x : Stepped × State) → at_due (net_of draw network limits) start rows (least_from 0 (map least_timer rows)) ≡ x → Found network limits k x
        free_step x e = record { state = start; within = start_within; step = record { draw = draw; words = draw_words; is = rest_is ∙ e } }

      -- ---- the end at the horizon

      abbrev Waits : Option Timer → Type 0
      Waits None = Unit {0}
      Waits (Some t) = limits.horizon < t.due

      waits_by : (j i : ℕ) (x : Option KeptTimer) → HasAfter limits.horizon (bound_of k) j i (activity_of (part_at network j) i).kind x → (t : Option Timer) × IsOne (bound_of k) j i (activity_of (part_at network j) i).kind x t × Waits t
      waits_by j i None h = (None, tt, tt)
      waits_by j i (Some x) h = (Some (record { due = h.0; held = x.held }), (refl, h.1), h.2)

      end_found : MayWait network limits k → FoundEnd network limits k limits.horizon End
      end_found is = by_due (least_from 0 (map least_timer c.rows)) refl
        where
          c : Chosen network (bound_of k) (kept_renewed still k is.rows) Waits
          c = chosen network (bound_of k) Waits tt (kept_renewed still k is.rows) (λ j i. (let w = waits_by j i (timer_of (kept_at (kept_renewed still k is.rows) j) i) (is.each j i) in (w.0, (w.1, w.2))))

          ended : (o : Option Due) → least_from 0 (map least_timer c.rows) ≡ o → at_due (net_of (draw is.rows is.renewed c.rows c.are 0 least_word) network limits) (start is.rows is.renewed c.rows c.are 0 least_word) c.rows o ≡ (Over limits.horizon End, start is.rows is.renewed c.rows c.are 0 least_word) → FoundEnd network limits k limits.horizon End
          ended o e g = record {
            left = start is.rows is.renewed c.rows c.are 0 least_word;
            found = free_step is.rows is.renewed c.rows c.are 0 least_word (Over limits.horizon End, start is.rows is.renewed c.rows c.are 0 least_word)
                (ap (at_due (net_of (draw is.rows is.renewed c.rows c.are 0 least_word) network limits) (start is.rows is.renewed c.rows c.are 0 least_word) c.rows) e ∙ g);
          }

          after : (d : Due) (t : Option Timer) → Waits t → due_of t ≡ Some d.time → limits.horizon < d.time
          after d None h e = absurd cc
          after d (Some t) h e = let due : t.due ≡ d.time = same t.due d.time e in omega (arith, h, due)
            where
              same : (a b : ℕ) → (let o : Option ℕ = Some a in o) ≡ Some b → a ≡ b
              same a b e = cc

          by_due : (o : Option Due) → least_from 0 (map least_timer c.rows) ≡ o → FoundEnd network limits k limits.horizon End
          by_due None e = ended None e refl
          by_due (Some d) e =
              let late = after d (timer_at c.rows d.leaf d.act) (c.facts d.leaf d.act) (is_before_all c.rows d e).0 in
              let s = start is.rows is.renewed c.rows c.are 0 least_word in
              let net = net_of (draw is.rows is.renewed c.rows c.are 0 least_word) network limits in
              ended (Some d) e (ap (λ (b : Bool). cond b (fire net (fired net s c.rows d) d.leaf d.act) (Over limits.horizon End, s)) (lt-leb d.time limits.horizon late))

      -- ---- timers that fire

      module _ (fs : List Row) (d : Due) (may : MayFire network limits k fs d) (rows : List Row) (are : RowsAgree network d (kept_left network (bound_of k) d (kept_renewed still k fs)) rows) (u : ℕ) (word : u < 2 ^ 64) where
        abbrev now : KeptState
        now = fired_at network limits k fs d

        back : PutBack network (bound_of k) d (kept_renewed still k fs) rows
        back = put network (bound_of k) d (kept_renewed still k fs) may.timer may.runs may.due rows are

        abbrev drawn : ℕ → ℕ → ℕ
        drawn = draw fs may.renewed back.rows back.are u word

        abbrev fire_net : Net
        fire_net = net_of drawn network limits

        abbrev base : State
        base = start fs may.renewed back.rows back.are u word

        fires_to : at_due fire_net base back.rows (least_from 0 (map least_timer back.rows)) ≡ fire fire_net (with_rows now rows) d.leaf d.act
        fires_to =
            ap (at_due fire_net base back.rows) back.first
            ∙ (ap (λ (b : Bool). cond b (fire fire_net (fired fire_net base back.rows d) d.leaf d.act) (Over limits.horizon End, base)) (le-leb d.time limits.horizon may.within)
            ∙ ap (λ (rs : List Row). fire fire_net (with_rows now rs) d.leaf d.act) back.left)

        fire_found : (x : Stepped × State) → fire fire_net (with_rows now rows) d.leaf d.act ≡ x → Found network limits k x
        fire_found x e = free_step fs may.renewed back.rows back.are u word x (fires_to ∙ e)

        cases_drawn : (n : ℕ) → drawn (case_stream (part_at network d.leaf) d.act) n ≡ u
        cases_drawn n = case_drawn fs may.renewed back.rows back.are u word d.leaf d.act n

        abbrev go : Stepped × State
        go = complete fire_net (with_rows now rows) 0 d.leaf d.act (fire_net.done d.leaf d.act (local_of fire_net (with_rows now rows) d.leaf))

        over_found : count_limit still k.count ≡ Some Events → FoundEnd network limits k d.time Events
        over_found limit = record { left = with_rows now rows; found = fire_found (Over d.time Events, with_rows now rows) (ap (λ (o : Option Ending). unless_over (with_rows now rows) o go) limit) }

        trapped_found : (trap : Trap) → count_limit still k.count ≡ None → (activity_of (part_at network d.leaf) d.act).complete u (gather (slots_of still d.leaf) now.marking) ≡ Err trap → FoundEnd network limits k d.time (Trapped d.leaf d.act trap)
        trapped_found trap limit is = record {
          left = with_rows now rows;
          found = fire_found (Over d.time (Trapped d.leaf d.act trap), with_rows now rows)
              (ap (λ (o : Option Ending). unless_over (with_rows now rows) o go) limit ∙ fails drawn u now rows 0 d.leaf d.act cases_drawn trap is);
        }

        happened_found : (effect : Effected) (t : State) → count_limit still k.count ≡ None → (activity_of (part_at network d.leaf) d.act).complete u (gather (slots_of still d.leaf) now.marking) ≡ Ok effect
            → with_rows (kept_completed still now 0 d.leaf d.act effect.values) (done_of network (bound_of now) now.rows d.leaf d.act rows) ≡ t → Found network limits k (Happened (event_by network d.time d.leaf d.act effect), t)
        happened_found effect t limit is left =
            fire_found (Happened (event_by network d.time d.leaf d.act effect), t)
            (ap (λ (o : Option Ending). unless_over (with_rows now rows) o go) limit
            ∙ (happens drawn u now rows 0 d.leaf d.act cases_drawn effect is
            ∙ ap (λ (y : State). (let p : Stepped × State = (Happened (event_by network d.time d.leaf d.act effect), y) in p)) left))

      -- rows that are left when a timer fired
      lefts_of : (fs : List Row) (d : Due) → MayFire network limits k fs d → (rows : List Row) × RowsAgree network d (kept_left network (bound_of k) d (kept_renewed still k fs)) rows
      lefts_of fs d may = some_rows network d (kept_left network (bound_of k) d (kept_renewed still k fs)) may.others

      timed_inside : (fs : List Row) (d : Due) → MayFire network limits k fs d → d.leaf < length (kept_left network (bound_of k) d (kept_renewed still k fs))
      timed_inside fs d may =
          let xs = kept_renewed still k fs in
          let here = kept_row_there xs d.leaf d.act (kept_there (kept_at xs d.leaf).timers d.act may.timer may.runs) in
          omega (arith, here, length-set xs d.leaf (kept_without (kept_at xs d.leaf) d.act))

      timed_found : (e : Event) (after : KeptState) (t : State) → TimedMayCome network limits k e after → StateAgrees network after t → Found network limits k (Happened e, t)
      timed_found e after t is within =
          let d = due_in e in
          let now : KeptState = fired_at network limits k is.rows d in
          let to : KeptState = kept_completed still now 0 e.leaf e.act is.effect.values in
          let agrees : StateAgrees network to t = subst (λ (y : KeptState). StateAgrees network y t) is.left within in
          let before : NotYet network (bound_of now) now.rows e.leaf e.act t.rows = not_yet network (bound_of now) now.rows e.leaf e.act (timed_inside is.rows d is.fires) t.rows agrees.rows in
          let left : with_rows to (done_of network (bound_of now) now.rows e.leaf e.act before.rows) ≡ t = ap (with_rows to) before.left ∙ sym agrees.same in
          let found = happened_found is.rows d is.fires before.rows before.are is.done.draw is.done.word is.effect t is.limit is.done.is left in
          subst (λ (y : Event). Found network limits k (Happened y, t)) (sym is.event) found

      -- ---- all that may come

      pub event_found : (e : Event) (after : KeptState) (t : State) → MayCome network limits k e after → StateAgrees network after t → Found network limits k (Happened e, t)
      event_found e after t (inl is) within = instant_found e after t is within
      event_found e after t (inr is) within = timed_found e after t is within

      now_found : (j i : ℕ) (trap : Trap) → TrapsNow network limits k j i trap → FoundEnd network limits k k.time (Trapped j i trap)
      now_found j i trap (inl next) = test_found j i trap next
      now_found j i trap (inr (inl is)) = renewal_found j i trap is
      now_found j i trap (inr (inr is)) = trap_found j i trap is

      at_time : (a b : ℕ) (e : Ending) → b ≡ a → FoundEnd network limits k a e → FoundEnd network limits k b e
      at_time a b e same found = subst (λ (x : ℕ). FoundEnd network limits k x e) (sym same) found

      pub ending_found : (time : ℕ) (ending : Ending) → MayEnd network limits k time ending → FoundEnd network limits k time ending
      ending_found time End is = at_time limits.horizon time End is.0 (end_found is.1)
      ending_found time Unstable is = at_time k.time time Unstable is.0 (stopped_found Unstable is.1)
      ending_found time Events (inl is) = at_time k.time time Events is.0 (stopped_found Events is.1)
      ending_found time Events (inr is) =
          let rows = lefts_of is.rows is.due is.fires in
          at_time is.due.time time Events (sym is.at) (over_found is.rows is.due is.fires rows.0 rows.1 0 least_word is.limit)
      ending_found time (Trapped j i trap) (inl is) = at_time k.time time (Trapped j i trap) is.0 (now_found j i trap is.1)
      ending_found time (Trapped j i trap) (inr is) =
          let d : Due = record { time = time; leaf = j; act = i } in
          let rows = lefts_of is.rows d is.fires in
          trapped_found is.rows d is.fires rows.0 rows.1 is.traps.draw is.traps.word trap is.limit is.traps.is
