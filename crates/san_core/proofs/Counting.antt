-- What the tally counts of a taken piece is what the law says.
use Rattle.std.proofs.Common.{ℕ, zero, suc, ◌+◌, ◌≤◌, ◌≡◌, ◌∙◌, ap, sym, refl, List, [], ◌∷◌, ◌++◌, length, map, arith}
use Rattle.std.specs.Prelude.{take}
use Rattle.san_law.specs.Net as net
use Rattle.san_law.specs.Net.{Net}
use Rattle.san_law.specs.Admitted.{event_by}
use Rattle.san_law.specs.Core.{Core, tally_at}
use Rattle.san_law.specs.Counting.{counted}
use Rattle.san_law.specs.Tally.{Tally, tally_after}
use Rattle.san_law.proofs.Counting.{counts_one_by_one}
use Rattle.san_leaf.specs.Events.{completions_from, impulses_at}
use Rattle.san_leaf.specs.declared.recorder.Impulse.{Impulse}
use Rattle.san_reward.specs.Running.{IsOf, Running, advanced, with_impulse, with_impulses}
use Rattle.san_reward.proofs.Impulses.{event_same}
use Rattle.san_reward.proofs.Sameness.{advance_same}
use Rattle.san_core.specs.inner.Impulses.{impulses_from}

pub impulses_append : (t : Running) (xs ys : List net.Impulse) → with_impulses t (xs ++ ys) ≡ with_impulses (with_impulses t xs) ys
impulses_append t [] ys = refl
impulses_append t (x ∷ xs) ys = impulses_append (with_impulse t x.reward x.rated) xs ys

-- impulses change the sums alone
pub impulses_kept : (t : Running) (xs : List net.Impulse) → with_impulses t xs ≡ record t { tally = (with_impulses t xs).tally }
impulses_kept t [] = refl
impulses_kept t (x ∷ xs) = impulses_kept (with_impulse t x.reward x.rated) xs

module _ (net : Net) (j : ℕ) (xs : List Impulse) where
  counted_events : (t : Running) → IsOf net t → (i p : ℕ) (acts : List (ℕ × ℕ)) → p ≤ length acts
      → counted net t.time t.tally (map (event_by t.time j) (take p (completions_from i acts xs))) ≡ (with_impulses t (impulses_from i p xs)).tally
  counted_events t is i zero acts l = refl
  counted_events t is i (suc p) [] l = absurd (omega (arith, l))
  counted_events t is i (suc p) (a ∷ acts) l =
      let e = event_by t.time j (record { act = a.0; case = a.1; impulses = impulses_at i xs }) in
      let rest = map (event_by t.time j) (take p (completions_from (i + 1) acts xs)) in
      let u : Running = record t { tally = (with_impulses t (impulses_at i xs)).tally } in
      let same : with_impulses t (impulses_at i xs) ≡ u = impulses_kept t (impulses_at i xs) in
      ap (λ (x : Tally). counted net t.time x rest) (event_same net t is e refl)
      ∙ (counted_events u (record { spans = is.spans; terms = is.terms; horizon = is.horizon }) (i + 1) p acts (omega (arith, l))
      ∙ (ap (λ (r : Running). (with_impulses r (impulses_from (i + 1) p xs)).tally) (sym same)
      ∙ ap (λ (r : Running). r.tally) (sym (impulses_append t (impulses_at i xs) (impulses_from (i + 1) p xs)))))

  pub tally_is : (c : Core) (r : Running) → IsOf net r → r.tally ≡ c.tally → r.time ≡ c.order.time → (time p : ℕ) (acts : List (ℕ × ℕ)) → p ≤ length acts
      → (with_impulses (advanced r time) (impulses_from 0 p xs)).tally ≡ tally_at net c time (map (event_by time j) (take p (completions_from 0 acts xs)))
  tally_is c r is same at time p acts l =
      let es = map (event_by time j) (take p (completions_from 0 acts xs)) in
      sym (counts_one_by_one net c.tally c.order.time time es
      ∙ (ap (λ (x : Tally). counted net time x es)
      (ap (λ (x : Tally). tally_after net x c.order.time time []) (sym same)
      ∙ (ap (λ (m : ℕ). tally_after net r.tally m time []) (sym at)
      ∙ advance_same net r is time))
      ∙ counted_events (advanced r time) (record { spans = is.spans; terms = is.terms; horizon = is.horizon }) 0 p acts l))
