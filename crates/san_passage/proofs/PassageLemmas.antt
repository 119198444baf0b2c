-- A run's passage, and that of the rest of the run after a step.
use Rattle.std.proofs.Common.{ℕ, suc, ◌-◌, ◌≡◌, ◌∙◌, ap, sym, refl, subst, arith, Bool, List, [], ◌∷◌, ◌++◌, length, Option, Some, None, Result, Ok, Err}
use Rattle.san_base.specs.declared.ending.Ending.{Ending}
use Rattle.san_base.specs.declared.ending.Event.{Event}
use Rattle.san_base.specs.declared.limits.Limits.{Limits}
use Rattle.san_law.proofs.Steps.{counted}
use Rattle.san_law.specs.Net.{Net}
use Rattle.san_law.specs.State.{State}
use Rattle.san_law.specs.Step as law
use Rattle.san_net.specs.Network.{Network}
use Rattle.san_net.specs.Laid.{IsNetwork}
use Rattle.san_probe.proofs.ProgressLemmas.{laws, stands_on}
use Rattle.san_probe.specs.inner.Progress.{ProbeStands, net_by}
use Rattle.san_probe.specs.Markings.{IsMarkingOf}
use Rattle.san_seq.specs.FlatRun.{Run, after_step, left_by, marking_of, step_of}
use Rattle.san_net.specs.Runs.{ending_in}
use Rattle.san_seq.specs.Outcomes.{event_or_ending}
use Rattle.san_seq.specs.declared.steps.Stable.{Stable}
use Rattle.san_passage.specs.Passages.{met, met_in, over_by, passage_at, passage_by, passage_from, passage_in, passed}
use Rattle.san_passage.specs.declared.passage.Passage.{Passage}
use Rattle.san_passage.specs.declared.passage.Passage.TheVariants as passage

same_ending : (a b : Ending) → (let r : Result Event Ending = Err a in r) ≡ Err b → a ≡ b
same_ending a b e = cc

module _ (n : Network) (net : Net) (holds : List ℕ → Bool) (s : State) (unmet : met net holds s ≡ None) where
  goes_by : (e : Event) (x : law.Stepped) → (law.step net s).0 ≡ x → event_or_ending n x ≡ Ok e → passage_at n net holds s ≡ passage_by n net holds (left_by n (law.step net s))
  goes_by e (law.Over time why) is answered = absurd cc
  goes_by e (law.Happened ev) is answered =
      let k = counted net s ev is in
      let t = (law.step net s).1 in
      let fuel : net.limit - s.count ≡ suc (net.limit - t.count) = omega (arith, k.below, k.count) in
      ap (λ at. passed n at (law.step net s).0 (passage_in n net holds (net.limit - s.count)) t) unmet
      ∙ (ap (λ (x : law.Stepped). passed n None x (passage_in n net holds (net.limit - s.count)) t) is
      ∙ (ap (λ m. passage_in n net holds m t) fuel
      ∙ sym (ap (λ (x : law.Stepped). passage_by n net holds (left_by n (x, t))) is)))

  ends_by : (e : Ending) (x : law.Stepped) → (law.step net s).0 ≡ x → event_or_ending n x ≡ Err e → Some (over_by e) ≡ passage_at n net holds s
  ends_by e (law.Happened ev) is answered = absurd cc
  ends_by e (law.Over time why) is answered =
      let t = (law.step net s).1 in
      let go = passage_in n net holds (net.limit - s.count) in
      ap (λ (x : Ending). (let o : Option Passage = Some (over_by x) in o)) (sym (same_ending (ending_in n time why) e answered))
      ∙ (sym (ap (λ (x : law.Stepped). passed n None x go t) is)
      ∙ sym (ap (λ at. passed n at (law.step net s).0 go t) unmet))

module _ (n : Network) (seed : ℕ) (limits : Limits) (holds : List ℕ → Bool) (es : List law.Event) (s : State) (r : Run) (now : ℕ) (st : ProbeStands n seed limits es s r now) where
  abbrev net : Net
  net = net_by n seed limits

  -- the marking of a run that goes on
  pub is_marking : (places : ℕ) → places ≡ length n.initial → IsMarkingOf places (marking_of r.run_phase)
  is_marking places sized = subst (λ (x : Run). IsMarkingOf places (marking_of x.run_phase)) (sym st.at_state) (subst (λ k. IsMarkingOf k s.marking) (sym sized) st.marking)

  met_is : met_in holds r ≡ met net holds s
  met_is = ap (met_in holds) st.at_state

  pub turn_on : (at : Option Stable) (q after : Run) (e : Event) → at ≡ met_in holds r → at ≡ None → q ≡ r → (step_of q).0 ≡ Ok e → after ≡ after_step q → passage_from holds after ≡ passage_from holds r
  turn_on at q after e is none same answered left =
      let unmet : met net holds s ≡ None = sym met_is ∙ sym is ∙ none in
      let on = same ∙ st.at_state in
      ap (passage_from holds) left
      ∙ ap (λ (x : Run). passage_from holds (after_step x)) on
      ∙ sym (goes_by n net holds s unmet e (law.step net s).0 refl (ap (λ (x : Run). (step_of x).0) (sym on) ∙ answered))
      ∙ ap (passage_from holds) (sym st.at_state)

  pub turn_over : (at : Option Stable) (q : Run) (e : Ending) → at ≡ met_in holds r → at ≡ None → q ≡ r → (step_of q).0 ≡ Err e → Some (over_by e) ≡ passage_from holds r
  turn_over at q e is none same answered =
      let unmet : met net holds s ≡ None = sym met_is ∙ sym is ∙ none in
      ends_by n net holds s unmet e (law.step net s).0 refl (ap (λ (x : Run). (step_of x).0) (sym (same ∙ st.at_state)) ∙ answered)
      ∙ ap (passage_from holds) (sym st.at_state)

  pub turn_met : (o : Option Stable) (at : Stable) → o ≡ met_in holds r → o ≡ Some at → Some (passage.At at.time at.count) ≡ passage_from holds r
  turn_met o at is some =
      let t = (law.step net s).1 in
      let go = passage_in n net holds (net.limit - s.count) in
      let is_met : met net holds s ≡ Some at = sym met_is ∙ sym is ∙ some in
      sym (ap (λ a. passed n a (law.step net s).0 go t) is_met)
      ∙ ap (passage_from holds) (sym st.at_state)

-- a run that stands so, by another name
pub stands_at : (n : Network) (seed : ℕ) (limits : Limits) (es : List law.Event) (s : State) (r q : Run) (now : ℕ) → q ≡ r → ProbeStands n seed limits es s r now → ProbeStands n seed limits es s q now
stands_at n seed limits es s r q now same st = subst (λ (x : Run). ProbeStands n seed limits es s x now) (sym same) st

-- after an event
pub moved : (n : Network) (seed : ℕ) (limits : Limits) → IsNetwork n → (r q after : Run) (e : Event) → q ≡ r → (step_of q).0 ≡ Ok e → after ≡ after_step q
    → ((es : List law.Event) × (s : State) × (now : ℕ) × ProbeStands n seed limits es s r now) → (es : List law.Event) × (s : State) × (now : ℕ) × ProbeStands n seed limits es s after now
moved n seed limits known r q after e same answered left st =
    let here = stands_at n seed limits st.0 st.1 r q st.2 same st.3 in
    let ev = (laws n seed limits known st.0 st.1 q st.2 here e answered).event in
    (st.0 ++ ev ∷ [], (law.step (net_by n seed limits) st.1).1, e.time.0, stands_at n seed limits (st.0 ++ ev ∷ []) (law.step (net_by n seed limits) st.1).1 (after_step q) after e.time.0 left (stands_on n seed limits known st.0 st.1 q st.2 here e answered))
