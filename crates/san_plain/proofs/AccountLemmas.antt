-- An account after an event.
use Rattle.std.proofs.Common.{ℕ, ◌≡◌, ◌∙◌, ap, sym, List, length, Option, Some}
use Rattle.std.specs.Prelude.{slice_get, unwrap_or}
use Rattle.std.specs.Option.{option_map}
use Rattle.san_base.specs.declared.ending.Event.{Event}
use Rattle.san_base.specs.declared.numbers.LeafId.{LeafId}
use Rattle.san_net.specs.Network.{Network}
use Rattle.san_net.specs.Tables.{leaves_of_acts}
use Rattle.san_report.specs.Lines.{leaf_of}
use Rattle.san_reward.specs.Running.{Running, advanced, rates_in, with_all_rates, with_impulses}
use Rattle.san_plain.specs.inner.Accounts.{RewardAccount, IsAccount, impulses_by, impulses_of}
use Rattle.san_plain.proofs.ImpulseLemmas.{rates_stay, spans_stay, terms_stay}

abbrev account : Network → Running → List ℕ → RewardAccount
account n t m = record { network = n; running = t; marking = m }

leaf_is : (n : Network) (act : ℕ) (leaf : LeafId) → slice_get (leaves_of_acts n.parts) act ≡ Some leaf → leaf_of n act ≡ leaf.0
leaf_is n act leaf is = ap (λ (o : Option LeafId). unwrap_or (option_map (λ (l : LeafId). l.0) o) 0) is

-- an event of a leaf's activity that reaches a marking
module _ (n : Network) (t : Running) (old : List ℕ) (now : RewardAccount) (same : account n t old ≡ now) (so : IsAccount (account n t old)) (event : Event) (m : List ℕ) (leaf : LeafId)
    (is : slice_get (leaves_of_acts n.parts) event.act.0 ≡ Some leaf) (u v w : Running) (xs : List ℕ) (advance : u ≡ advanced t event.time.0) (follow : v ≡ with_all_rates u (rates_in n m))
    (count : w ≡ with_impulses v (impulses_by (slice_get n.parts leaf.0) event.act.0 m)) (kept : xs ≡ m) where
  abbrev rated : Running
  rated = with_all_rates (advanced t event.time.0) (rates_in n m)

  all : w ≡ with_impulses rated (impulses_of n event.act.0 m)
  all =
      count
      ∙ (ap (λ (x : Running). with_impulses x (impulses_by (slice_get n.parts leaf.0) event.act.0 m)) (follow ∙ ap (λ (x : Running). with_all_rates x (rates_in n m)) advance)
      ∙ ap (λ (j : ℕ). with_impulses rated (impulses_by (slice_get n.parts j) event.act.0 m)) (sym (leaf_is n event.act.0 leaf is)))

  pub event_keeps : length m ≡ length now.network.initial → IsAccount (account n w xs)
  event_keeps sized =
      let impulses = impulses_of n event.act.0 m in
      record {
        spans = ap (λ (x : Running). x.spans) all ∙ (spans_stay rated impulses ∙ so.spans);
        terms = ap (λ (x : Running). x.terms) all ∙ (terms_stay rated impulses ∙ so.terms);
        sized = ap length kept ∙ (sized ∙ ap (λ (a : RewardAccount). length a.network.initial) (sym same));
        rates = ap (λ (x : Running). x.tally.rates) all ∙ (rates_stay rated impulses ∙ ap (rates_in n) (sym kept));
      }
