-- The running sums of a core that needs no piece are the rewards of the run.
use Rattle.std.proofs.Common.{ℕ, ◌+◌, ◌-◌, ◌<◌, ◌≤◌, ◌≡◌, ◌∙◌, ap, sym, refl, subst, List, ◌++◌, length, Option, Some, None, Bool, true, false, arith, nat_lt, cond}
use Rattle.std.proofs.lemmas.Bool.{ltb-false}
use Rattle.san_law.specs.Net.{Net, Rated}
use Rattle.san_law.specs.State.{State}
use Rattle.san_law.specs.Step.{Event}
use Rattle.san_law.specs.Order.{Finished, Order, first_true, need_going, need_of, need_stale, need_unsettled}
use Rattle.san_law.specs.Reward.{Beyond, events_sum, marked_sum, plus, rates_from, reward_sum, span_of, sum_ticks, sum_worth, tick_sum, ticked, worth, worth_by, zero_sum}
use Rattle.san_law.specs.Tally.{going_on, sum_of, tally_worth}
use Rattle.san_law.specs.Core.{Core}
use Rattle.san_law.specs.Standing.{Stands, follows_by}
use Rattle.san_law.specs.Laws.{TallyIsWorth}
use Rattle.san_law.proofs.Flags.{none_is}
use Rattle.san_law.proofs.Spans.{span_sum}
use Rattle.san_law.proofs.Tallies.{marked_end, plus_four, plus_last, rates_are, sum_like, sum_split}

-- a core that needs no piece has all leaves settled and none stale
idle_stale : (horizon : ℕ) (o : Order) (x : Option ℕ) → need_stale horizon o x ≡ Finished → x ≡ None
idle_stale horizon o None e = refl
idle_stale horizon o (Some j) e = cc

idle_unsettled : (horizon : ℕ) (o : Order) (x : Option ℕ) → need_unsettled horizon o x ≡ Finished → first_true 0 o.stale ≡ None
idle_unsettled horizon o None e = idle_stale horizon o (first_true 0 o.stale) e
idle_unsettled horizon o (Some j) e = cc

idle_going : (horizon : ℕ) (o : Order) (x : Option ℕ) → need_going horizon o x ≡ Finished → first_true 0 o.stale ≡ None
idle_going horizon o None e = idle_unsettled horizon o (first_true 0 o.unsettled) e
idle_going horizon o (Some j) e = cc

none_stale : (horizon : ℕ) (o : Order) → need_of horizon o ≡ Finished → first_true 0 o.stale ≡ None
unfolding need_of
none_stale horizon o e = idle_going horizon o o.going e

pub plus_swap : (a b c : Rated) → plus (plus a b) c ≡ plus (plus a c) b
plus_swap a b c = sym (plus_last (plus (plus a b) c)) ∙ (plus_four a b c zero_sum ∙ ap (plus (plus a c)) (plus_last b))

module _ (net : Net) (opening : State) (past : List Event) (c : Core) (s : State) (st : Stands net opening past c s) (fresh : first_true 0 c.order.stale ≡ None) (r : ℕ) (is : r < length net.spans) where
  abbrev es : List Event
  es = past ++ c.events

  present : c.tally.rates ≡ rates_from net 0 net.parts s.marking
  present = rates_are net c.tally.rates s.marking st.holds.sized.rates (λ i h. (st.holds.fresh i h (none_is c.order.stale fresh i)).rates)

  ticks_on : (n : ℕ) → sum_ticks (λ u. tick_sum net r u c.tally.rates) c.order.time n ≡ sum_ticks (ticked net r opening es) c.order.time n
  ticks_on n = sum_like (λ u. tick_sum net r u c.tally.rates) (ticked net r opening es) c.order.time n (λ t h k. ap (tick_sum net r t) (present ∙ ap (rates_from net 0 net.parts) (sym (marked_end net opening s es c.order.time t st.counts.early st.runs h))))

  -- the sum with the ticks that are left
  whole : (span_of net r).to ≤ net.horizon + 1 → going_on net c.tally c.order.time (net.horizon + 1 - c.order.time) r (sum_of c.tally r) ≡ reward_sum net r opening es
  whole h =
      let f = ticked net r opening es in
      let n = net.horizon + 1 - c.order.time in
      let z : net.horizon + 1 ≡ c.order.time + n = omega (arith, st.counts.timely) in
      let w : 0 + c.order.time ≡ c.order.time = omega arith in
      let events = events_sum net r es in
      let joined : plus (sum_ticks f 0 c.order.time) (sum_ticks f c.order.time n) ≡ sum_ticks f 0 (net.horizon + 1) =
      ap (λ a. plus (sum_ticks f 0 c.order.time) (sum_ticks f a n)) (sym w) ∙ (sym (sum_split f 0 c.order.time n) ∙ ap (sum_ticks f 0) (sym z)) in
      ap (λ x. plus x (sum_ticks (λ u. tick_sum net r u c.tally.rates) c.order.time n)) (st.counts.sums r is)
      ∙ (ap (plus (plus (sum_ticks f 0 c.order.time) events)) (ticks_on n)
      ∙ (plus_swap (sum_ticks f 0 c.order.time) events (sum_ticks f c.order.time n)
      ∙ ap (λ x. plus x events) (joined ∙ span_sum (span_of net r) (marked_sum net r opening es) (net.horizon + 1) h)))

  by_beyond : (b : Bool) → nat_lt (net.horizon + 1) (span_of net r).to ≡ b → tally_worth net c.tally c.order.time r ≡ worth net r opening es
  by_beyond true e =
      let a = going_on net c.tally c.order.time (net.horizon + 1 - c.order.time) r (sum_of c.tally r) in
      ap (λ q. cond q Beyond (sum_worth (span_of net r) a)) e ∙ sym (ap (λ q. cond q Beyond (sum_worth (span_of net r) (reward_sum net r opening es))) e)
  by_beyond false e = ap (worth_by net.horizon (span_of net r)) (whole (ltb-false (net.horizon + 1) (span_of net r).to e))

  pub worth_is : tally_worth net c.tally c.order.time r ≡ worth net r opening es
  worth_is = by_beyond (nat_lt (net.horizon + 1) (span_of net r).to) refl

pub tally_is_worth : (net : Net) → TallyIsWorth net
tally_is_worth net opening past c unstopped need h r is =
    let k = subst (follows_by net opening past c) unstopped h in
    worth_is net opening past c k.0 k.1 (none_stale net.horizon c.order need) r is
