-- What a run came to by its last step.
use Rattle.std.proofs.Common.{ℕ, zero, suc, ◌+◌, ◌≤◌, ◌<◌, ◌≡◌, ◌∙◌, ap, sym, refl, subst, arith, List, [], ◌∷◌, ◌++◌, append-nil, length, take, Option, Some}
use Rattle.std.specs.Option.{option_map}
use Rattle.std.proofs.lemmas.List.{take_all}
use Rattle.san_base.specs.declared.ending.Ending.{Ending}
use Rattle.san_law.proofs.Trajectories.{rest_is_trajectory}
use Rattle.san_law.specs.State.{State, opening_state}
use Rattle.san_law.specs.Step as law
use Rattle.san_net.specs.Laid.{IsNetwork}
use Rattle.san_net.specs.declared.part.Reward.{Reward}
use Rattle.san_report.specs.Closings.{worths_by}
use Rattle.san_reward.specs.declared.worth.Worth.{Worth}
use Rattle.san_plain.specs.Measures.{Measured, measured_by, measured_of, worths_from}
use Rattle.san_plain.specs.Reports.{Opened, net_by, worth_at}
use Rattle.san_plain.specs.declared.counted.CountedRun.{CountedRun}
use Rattle.san_plain.specs.inner.Progress.{Ends, IsOpened, RunStands, opened_by}
use Rattle.san_plain.proofs.EndLemmas.{many_spans, worths_are}
use Rattle.san_plain.proofs.OpenedLemmas.{stands}
use Rattle.san_plain.proofs.ReportLemmas.{ends_at}
use Rattle.san_net.specs.Runs.{ending_in}

-- one worth more
worth_next : (xs : List Reward) (i r : ℕ) (w : ℕ → Option Worth) → i < length xs → worths_from (take (suc i) xs) r w ≡ worths_from (take i xs) r w ++ w (r + i) ∷ []
worth_next [] i r w h = absurd (omega (arith, h))
worth_next (x ∷ xs) zero r w h = let z : r ≡ r + 0 = omega arith in ap (λ (k : ℕ). (let ys : List (Option Worth) = w k ∷ [] in ys)) z
worth_next (x ∷ xs) (suc i) r w h =
    let z : suc r + i ≡ r + suc i = omega arith in
    ap (λ (ys : List (Option Worth)). w r ∷ ys) (worth_next xs i (suc r) w (omega (arith, h)) ∙ ap (λ (k : ℕ). worths_from (take i xs) (suc r) w ++ w k ∷ []) z)

pub worth_more : (xs : List Reward) (i : ℕ) (w : ℕ → Option Worth) → i < length xs → worths_from (take i xs) 0 w ++ w i ∷ [] ≡ worths_from (take (i + 1) xs) 0 w
worth_more xs i w h =
    let a : 0 + i ≡ i = omega arith in
    let b : suc i ≡ i + 1 = omega arith in
    ap (λ (k : ℕ). worths_from (take i xs) 0 w ++ w k ∷ []) (sym a) ∙ (sym (worth_next xs i 0 w h) ∙ ap (λ (k : ℕ). worths_from (take k xs) 0 w) b)

pub all_worths : (xs : List Reward) (i : ℕ) (w : ℕ → Option Worth) → length xs ≤ i → worths_from (take i xs) 0 w ≡ worths_from xs 0 w
all_worths xs i w h = ap (λ (ys : List Reward). worths_from ys 0 w) (take_all i xs h)

worths_like : (xs : List Reward) (r : ℕ) (f g : ℕ → Option Worth) → ((q : ℕ) → r ≤ q → q < r + length xs → f q ≡ g q) → worths_from xs r f ≡ worths_from xs r g
worths_like [] r f g h = refl
worths_like (x ∷ xs) r f g h =
    ap (λ (w : Option Worth). w ∷ worths_from xs (suc r) f) (h r (omega arith) (omega arith))
    ∙ ap (λ (ys : List (Option Worth)). g r ∷ ys) (worths_like xs (suc r) f g (λ q l k. h q (omega (arith, l)) (omega (arith, k))))

module _ (o : Opened) (es : List law.Event) (s : State) (c : CountedRun) (st : RunStands o es s c) (e : Ending) (new : CountedRun) (ends : Ends o s e c new) where
  -- by the trajectory
  pub ran : measured_of o ≡ Some (measured_by o.network (net_by o) (record { events = es; time = ends.time; ending = ends.why }))
  ran =
      let net = net_by o in
      ap (option_map (measured_by o.network net)) (rest_is_trajectory net (opening_state net) s es (record { events = []; time = ends.time; ending = ends.why }) st.runs (ends_at net s ends.time ends.why ends.over))
      ∙ ap (λ (xs : List law.Event). (let m : Option Measured = Some (measured_by o.network net (record { events = xs; time = ends.time; ending = ends.why })) in m)) (append-nil es)

  same_worths : worths_from o.network.rewards 0 (worth_at (net_by o) es ends.why) ≡ worths_from o.network.rewards 0 (worths_by c.account.running (ending_in o.network ends.time ends.why))
  same_worths = worths_like o.network.rewards 0 (worth_at (net_by o) es ends.why) (worths_by c.account.running (ending_in o.network ends.time ends.why)) (λ q l h. worths_are o es s c st ends.time ends.why q (omega (arith, h)))

  pub measured_is : measured_of o ≡ Some (record { ending = e; worths = worths_from o.network.rewards 0 (worths_by new.account.running e) })
  measured_is =
      subst (λ (d : CountedRun). measured_of o ≡ Some (record { ending = e; worths = worths_from o.network.rewards 0 (worths_by d.account.running e) })) (sym ends.kept)
      (subst (λ (x : Ending). measured_of o ≡ Some (record { ending = x; worths = worths_from o.network.rewards 0 (worths_by c.account.running x) })) ends.ending_is
      (ran ∙ ap (λ (ws : List (Option Worth)). (let m : Option Measured = Some (record { ending = ending_in o.network ends.time ends.why; worths = ws }) in m)) same_worths))

  pub spans_stay : length new.account.running.spans ≡ length o.network.rewards
  spans_stay = subst (λ (d : CountedRun). length d.account.running.spans ≡ length o.network.rewards) (sym ends.kept) (many_spans o es s c st)

-- before the first event
pub begun : (o : Opened) (c : CountedRun) → IsNetwork o.network → IsOpened c → opened_by c ≡ o → (es : List law.Event) × (s : State) × RunStands o es s c
begun o c known is by =
    subst (λ (p : Opened). (es : List law.Event) × (s : State) × RunStands p es s c) by
    ([], opening_state (net_by (opened_by c)), stands c (subst IsNetwork (sym (ap (λ (p : Opened). p.network) by)) known) is)
