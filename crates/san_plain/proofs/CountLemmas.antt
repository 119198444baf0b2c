-- What was counted after one more event.
use Rattle.std.proofs.Common.{ℕ, ◌≤◌, ◌≡◌, ◌∙◌, inl, inr, ap, sym, refl, subst, arith, List, [], ◌∷◌, ◌++◌, length, append-nil}
use Rattle.std.proofs.lemmas.List.{length-map, length-replicate}
use Rattle.san_law.proofs.Tallies.{counts_more, plus_first}
use Rattle.san_law.specs.Net.{Impulse, Net, Rated}
use Rattle.san_law.specs.Network.{Limits}
use Rattle.san_law.specs.Reward.{rates_from, zero_sum}
use Rattle.san_law.specs.Standing.{Counts}
use Rattle.san_law.specs.State.{State, opening_state}
use Rattle.san_law.specs.Step.{Event}
use Rattle.san_law.specs.Tally.{tally_after}
use Rattle.san_law.specs.Trajectory.{Runs}
use Rattle.san_net.specs.Network.{Network, net_of, span_in}
use Rattle.san_reward.specs.Running.{IsOf, Running, advanced, opened, with_all_rates, with_impulses}
use Rattle.san_reward.proofs.Impulses.{event_same, impulses_at_once}
use Rattle.san_reward.proofs.Making.{zeros_read}
use Rattle.san_reward.proofs.Sameness.{advance_same, opened_of}

-- a tally after an event, and what else is of the network still
pub record CountsOn (net : Net) (opening : State) (es : List Event) (e : Event) (rates : List (List Rated)) (u : Running) : Type 0 where
  pub is_of : IsOf net u
  pub now : u.time ≡ e.time
  pub set : u.tally.rates ≡ rates
  pub counts : Counts net opening (es ++ e ∷ []) u.time u.tally

module _ (net : Net) (opening s : State) (es : List Event) (e : Event) (t : Running) (rates : List (List Rated)) (is : IsOf net t) (runs : Runs net opening es s) (counts : Counts net opening es t.time t.tally) (present : t.tally.rates ≡ rates_from net 0 net.parts s.marking) (later : t.time ≤ e.time) (within : e.time ≤ net.horizon) (few : length e.impulses ≤ 1024) where
  abbrev v : Running
  v = with_all_rates (advanced t e.time) rates

  v_is : IsOf net v
  v_is = record { spans = is.spans; terms = is.terms; horizon = is.horizon }

  advanced_counts : Counts net opening es e.time (advanced t e.time).tally
  advanced_counts =
      subst (Counts net opening es e.time) (advance_same net t is e.time)
      (subst (λ (xs : List Event). Counts net opening xs e.time (tally_after net t.tally t.time e.time [])) (append-nil es)
      (counts_more net opening s es [] t.tally t.time e.time runs counts tt later within (inr present) (omega arith)))

  v_counts : Counts net opening es e.time v.tally
  v_counts =
      let c = advanced_counts in
      record { long = c.long; sums = c.sums; impulses = c.impulses; early = c.early; timely = c.timely }

  event_counts : Counts net opening (es ++ e ∷ []) e.time (with_impulses v e.impulses).tally
  event_counts =
      subst (Counts net opening (es ++ e ∷ []) e.time) (event_same net v v_is e refl)
      (counts_more net opening s es (e ∷ []) v.tally e.time e.time runs v_counts (refl, tt) (omega arith) within (inl refl) (omega (arith, few)))

  impulses_on : CountsOn net opening es e rates (with_impulses v e.impulses)
  impulses_on =
      let same = impulses_at_once v e.impulses in
      let now : (with_impulses v e.impulses).time ≡ e.time = ap (λ (u : Running). u.time) same in
      record {
        is_of = subst (IsOf net) (sym same) (record { spans = is.spans; terms = is.terms; horizon = is.horizon });
        now = now;
        set = ap (λ (u : Running). u.tally.rates) same;
        counts = subst (λ (x : ℕ). Counts net opening (es ++ e ∷ []) x (with_impulses v e.impulses).tally) (sym now) event_counts;
      }

  pub counts_on : (u : Running) (xs : List Impulse) → xs ≡ e.impulses → u ≡ with_impulses v xs → CountsOn net opening es e rates u
  counts_on u xs same so = subst (CountsOn net opening es e rates) (sym (so ∙ ap (with_impulses v) same)) impulses_on

-- before the first event
pub opened_counts : (n : Network) (draw : ℕ → ℕ → ℕ) (bounds : Limits) (rates : List (List Rated)) → Counts (net_of n draw bounds) (opening_state (net_of n draw bounds)) [] 0 (with_all_rates (opened n bounds.horizon) rates).tally
opened_counts n draw bounds rates = record {
  long = length-replicate (length n.rewards) zero_sum ∙ sym (length-map n.rewards (λ r. span_in r.span));
  sums = λ r h. zeros_read (length n.rewards) r ∙ sym (plus_first zero_sum);
  impulses = omega arith;
  early = tt;
  timely = omega arith;
}

pub opened_is : (n : Network) (draw : ℕ → ℕ → ℕ) (bounds : Limits) (rates : List (List Rated)) → IsOf (net_of n draw bounds) (with_all_rates (opened n bounds.horizon) rates)
opened_is n draw bounds rates = let is = opened_of n draw bounds in record { spans = is.spans; terms = is.terms; horizon = is.horizon }
