-- The running sums of a run that came to its horizon are its rewards.
use Rattle.san_law.proofs.Rewards.{plus_swap}
use Rattle.std.proofs.Common.{ℕ, ◌+◌, ◌-◌, ◌<◌, ◌≤◌, ◌≡◌, ◌∙◌, ap, sym, refl, List, length, Bool, true, false, arith, nat_lt, cond}
use Rattle.std.proofs.lemmas.Bool.{ltb-false}
use Rattle.san_law.specs.Net.{Net}
use Rattle.san_law.specs.State.{State}
use Rattle.san_law.specs.Step.{Event}
use Rattle.san_law.specs.Trajectory.{Runs}
use Rattle.san_law.specs.Reward.{Beyond, events_sum, marked_sum, plus, rates_from, reward_sum, span_of, sum_ticks, sum_worth, tick_sum, ticked, worth, worth_by}
use Rattle.san_law.specs.Tally.{Tally, going_on, sum_of, tally_worth}
use Rattle.san_law.specs.Standing.{Counts}
use Rattle.san_law.proofs.Tallies.{marked_end, sum_like, sum_split}
use Rattle.san_law.proofs.Spans.{span_sum}

module _ (net : Net) (opening s : State) (es : List Event) (time : ℕ) (tally : Tally) (runs : Runs net opening es s) (counts : Counts net opening es time tally) (present : tally.rates ≡ rates_from net 0 net.parts s.marking) (r : ℕ) (is : r < length net.spans) where
  ticks_on : (n : ℕ) → sum_ticks (λ u. tick_sum net r u tally.rates) time n ≡ sum_ticks (ticked net r opening es) time n
  ticks_on n = sum_like (λ u. tick_sum net r u tally.rates) (ticked net r opening es) time n (λ t h k. ap (tick_sum net r t) (present ∙ ap (rates_from net 0 net.parts) (sym (marked_end net opening s es time t counts.early runs h))))

  -- the sum with the ticks that are left
  whole : (span_of net r).to ≤ net.horizon + 1 → going_on net tally time (net.horizon + 1 - time) r (sum_of tally r) ≡ reward_sum net r opening es
  whole h =
      let f = ticked net r opening es in
      let n = net.horizon + 1 - time in
      let z : net.horizon + 1 ≡ time + n = omega (arith, counts.timely) in
      let w : 0 + time ≡ time = omega arith in
      let events = events_sum net r es in
      let joined : plus (sum_ticks f 0 time) (sum_ticks f time n) ≡ sum_ticks f 0 (net.horizon + 1) =
      ap (λ a. plus (sum_ticks f 0 time) (sum_ticks f a n)) (sym w) ∙ (sym (sum_split f 0 time n) ∙ ap (sum_ticks f 0) (sym z)) in
      ap (λ x. plus x (sum_ticks (λ u. tick_sum net r u tally.rates) time n)) (counts.sums r is)
      ∙ (ap (plus (plus (sum_ticks f 0 time) events)) (ticks_on n)
      ∙ (plus_swap (sum_ticks f 0 time) events (sum_ticks f time n)
      ∙ ap (λ x. plus x events) (joined ∙ span_sum (span_of net r) (marked_sum net r opening es) (net.horizon + 1) h)))

  by_beyond : (b : Bool) → nat_lt (net.horizon + 1) (span_of net r).to ≡ b → tally_worth net tally time r ≡ worth net r opening es
  by_beyond true e =
      let a = going_on net tally time (net.horizon + 1 - time) r (sum_of tally r) in
      ap (λ q. cond q Beyond (sum_worth (span_of net r) a)) e ∙ sym (ap (λ q. cond q Beyond (sum_worth (span_of net r) (reward_sum net r opening es))) e)
  by_beyond false e = ap (worth_by net.horizon (span_of net r)) (whole (ltb-false (net.horizon + 1) (span_of net r).to e))

  -- a reward's worth with the present rates going on to the end of the horizon's tick
  pub counted_worth : tally_worth net tally time r ≡ worth net r opening es
  counted_worth = by_beyond (nat_lt (net.horizon + 1) (span_of net r).to) refl
