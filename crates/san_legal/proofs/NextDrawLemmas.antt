-- A step looks at no draw but the next of each activity.
use Rattle.std.proofs.Common.{ℕ, zero, suc, ◌+◌, ◌≤◌, ◌<◌, ◌≡◌, ◌∙◌, ◌⊎◌, inl, inr, ap, sym, subst, refl, arith, List, [], ◌∷◌, length, map, Option, Some, None, Result, nat_le, cond, slice_index_or}
use Rattle.std.proofs.lemmas.Bool.{cases_lt}
use Rattle.std.specs.Prelude.{slice_index}
use Rattle.san_base.specs.declared.ending.Trap.{Trap}
use Rattle.san_law.specs.Activity.{ActKind, Activity, Instant, Part, Timed, activity_of, case_stream, completed, delay_stream, done_by, no_activity}
use Rattle.san_law.specs.Clocks.{Clock, clock_then, delayed_by, renewed_act, renewed_acts, renewed_row, row_of_clocks, timed_by}
use Rattle.san_law.specs.Net.{Local, Net, Renewing, Row, Timer, least_timer, without_timer}
use Rattle.san_law.specs.Network.{Limits, Network, part_at}
use Rattle.san_law.specs.Next.{Completes, Next, Stable, TrapsAt, next_instant}
use Rattle.san_law.specs.Renewal.{AllFresh, Due, FaultAt, Renewal, least_from, renewed_at, renewed_from, renewed_then}
use Rattle.san_law.specs.State.{State, gather, local_of, row_of, slots_of}
use Rattle.san_law.specs.Step.{End, Over, Stepped, at_due, at_next, at_rest, complete, count_limit, fire, fired, limit_at, step, unless_over}
use Rattle.san_legal.specs.Draws.{AgreeNext}
use Rattle.san_legal.specs.Locality.{StepLooksAtNext}
use Rattle.san_legal.proofs.RowLemmas.{row_at, set_keeps}
use Rattle.san_legal.proofs.StepLemmas.{MoreIn, complete_same, completed_by, from_more, left, next_again, one, two}

-- ---- a renewal

act_next : (draw other : ℕ → ℕ) (time : ℕ) (seen values : List ℕ) (a : Activity) (kind : ActKind) (x : Option Timer) (n : ℕ) → draw n ≡ other n → renewed_act other time seen values a kind x n ≡ renewed_act draw time seen values a kind x n
act_next draw other time seen values a (Instant p) x n e = refl
act_next draw other time seen values a (Timed delay pair) x n e = ap (λ (u : ℕ). timed_by seen values x n pair (delayed_by time n values pair (delay u values)) (a.enabled values)) (sym e)

acts_next : (draws others : ℕ → ℕ → ℕ) (time : ℕ) (seen values : List ℕ) (k : ℕ) (acts : List Activity) (ts : List (Option Timer)) (ns : List ℕ) → ((i : ℕ) → i < length acts → draws (k + i) (slice_index ns i) ≡ others (k + i) (slice_index ns i))
    → renewed_acts others time seen values k acts ts ns ≡ renewed_acts draws time seen values k acts ts ns
acts_next draws others time seen values k [] ts ns h = refl
acts_next draws others time seen values k (a ∷ acts) [] ns h = refl
acts_next draws others time seen values k (a ∷ acts) (t ∷ ts) [] h = refl
acts_next draws others time seen values k (a ∷ acts) (t ∷ ts) (n ∷ ns) h =
    let here : k + 0 ≡ k = omega arith in
    let first : draws k n ≡ others k n = subst (λ (x : ℕ). draws x n ≡ others x n) here (h 0 (omega arith)) in
    let rest = acts_next draws others time seen values (suc k) acts ts ns (λ i l. (let there : k + suc i ≡ suc k + i = omega arith in subst (λ (x : ℕ). draws x (slice_index ns i) ≡ others x (slice_index ns i)) there (h (suc i) (omega (arith, l))))) in
    ap (λ (x : Result Clock Trap). clock_then k x (renewed_acts others time seen values (suc k) acts ts ns)) (act_next (draws k) (others k) time seen values a a.kind t n first)
    ∙ ap (clock_then k (renewed_act (draws k) time seen values a a.kind t n)) rest

-- where there is no such activity, none completes
none_there : (acts : List Activity) (k : ℕ) → length acts ≤ k → slice_index_or acts k no_activity ≡ no_activity
none_there [] k h = refl
none_there (a ∷ acts) zero h = absurd (omega (arith, h))
none_there (a ∷ acts) (suc k) h = none_there acts k (omega (arith, h))

done_next : (draw other : ℕ → ℕ → ℕ) (part : Part) (k : ℕ) (l : Local) → (k < length part.activities → draw (case_stream part k) (slice_index l.row.cases k) ≡ other (case_stream part k) (slice_index l.row.cases k)) → completed other part k l ≡ completed draw part k l
done_next draw other part k l same = by_place (cases_lt k (length part.activities))
  where
    by_place : (k < length part.activities) ⊎ (length part.activities ≤ k) → completed other part k l ≡ completed draw part k l
    by_place (inl h) = completed_by draw other part k l (same h)
    by_place (inr h) =
        let none : activity_of part k ≡ no_activity = none_there part.activities k h in
        let of = λ (a : Activity) (u : ℕ). done_by l.row k a (a.complete u l.values) in
        ap (λ (a : Activity). of a (other (case_stream part k) (slice_index l.row.cases k))) none ∙ sym (ap (λ (a : Activity). of a (draw (case_stream part k) (slice_index l.row.cases k))) none)

row_next : (draw other : ℕ → ℕ → ℕ) (part : Part) (time : ℕ) (seen : List ℕ) (l : Local) → AgreeNext draw other part l.row → renewed_row other part time seen l ≡ renewed_row draw part time seen l
row_next draw other part time seen l agree =
    ap (row_of_clocks l.row.cases) (acts_next (λ k. draw (delay_stream part k)) (λ k. other (delay_stream part k)) time seen l.values 0 part.activities l.row.timers l.row.delays
    (λ i h. (let here : 0 + i ≡ i = omega arith in subst (λ (k : ℕ). draw (delay_stream part k) (slice_index l.row.delays i) ≡ other (delay_stream part k) (slice_index l.row.delays i)) (sym here) (agree.delays i h))))

module _ (network : Network) (limits : Limits) (draw other : ℕ → ℕ → ℕ) where
  abbrev first : Net
  first = one network limits draw other

  abbrev second : Net
  second = two network limits draw other

  from_next : (s : State) (j : ℕ) (rs : List Row) → ((i : ℕ) → AgreeNext draw other (part_at network (j + i)) (row_at rs i)) → renewed_from second s j rs ≡ renewed_from first s j rs
  from_next s j [] agree = refl
  from_next s j (r ∷ rs) agree =
      let here : j + 0 ≡ j = omega arith in
      let head = row_next draw other (part_at network j) s.time (gather (slots_of first j) s.stable) (record { values = gather (slots_of first j) s.marking; row = r }) (subst (λ (k : ℕ). AgreeNext draw other (part_at network k) r) here (agree 0)) in
      let rest = from_next s (suc j) rs (λ i. (let there : j + suc i ≡ suc j + i = omega arith in subst (λ (k : ℕ). AgreeNext draw other (part_at network k) (row_at rs i)) there (agree (suc i)))) in
      ap (λ (x : Renewing). renewed_then j x (renewed_from second s (suc j) rs)) head ∙ ap (renewed_then j (renewed_at first s j r)) rest

  -- ---- a completion

  completes_next : (u : State) (burst j k : ℕ) → (k < length (part_at network j).activities → draw (case_stream (part_at network j) k) (slice_index (row_of u j).cases k) ≡ other (case_stream (part_at network j) k) (slice_index (row_of u j).cases k))
      → complete second u burst j k (second.done j k (local_of second u j)) ≡ complete first u burst j k (first.done j k (local_of first u j))
  completes_next u burst j k e =
      complete_same network limits draw other u burst j k (second.done j k (local_of second u j))
      ∙ ap (left network limits draw other u burst j k) (done_next draw other (part_at network j) k (local_of first u j) e)

  -- ---- a step

  module _ (s : State) (agree : (j : ℕ) → AgreeNext draw other (part_at network j) (row_of s j)) where
    fire_next : (rows : List Row) → MoreIn s.rows (AllFresh rows) → (d : Due) → fire second (fired second s rows d) d.leaf d.act ≡ fire first (fired first s rows d) d.leaf d.act
    unfolding without_timer
    fire_next rows more d =
        let u = fired first s rows d in
        let stay : (row_of u d.leaf).cases ≡ (row_of s d.leaf).cases = set_keeps (λ (r : Row). r.cases) rows d.leaf (without_timer (row_at rows d.leaf) d.act) refl d.leaf ∙ (more d.leaf).1 in
        let part = part_at network d.leaf in
        let same = λ (h : d.act < length part.activities). (let now : draw (case_stream part d.act) (slice_index (row_of u d.leaf).cases d.act) ≡ other (case_stream part d.act) (slice_index (row_of u d.leaf).cases d.act)
        = subst (λ (cs : List ℕ). draw (case_stream part d.act) (slice_index cs d.act) ≡ other (case_stream part d.act) (slice_index cs d.act)) (sym stay) ((agree d.leaf).cases d.act h) in now) in
        ap (unless_over u (count_limit first u.count)) (completes_next u 0 d.leaf d.act same)

    due_next : (rows : List Row) → MoreIn s.rows (AllFresh rows) → (o : Option Due) → at_due second s rows o ≡ at_due first s rows o
    due_next rows more None = refl
    due_next rows more (Some d) = ap (λ (x : Stepped × State). cond (nat_le d.time first.horizon) x (Over first.horizon End, s)) (fire_next rows more d)

    rest_next : (x : Renewal) → MoreIn s.rows x → at_rest second s x ≡ at_rest first s x
    rest_next (FaultAt j k trap) more = refl
    rest_next (AllFresh rows) more = due_next rows more (least_from 0 (map least_timer rows))

    renewed_next : renewed_from second s 0 s.rows ≡ renewed_from first s 0 s.rows
    renewed_next = from_next s 0 s.rows (λ i. (let here : 0 + i ≡ i = omega arith in subst (λ (k : ℕ). AgreeNext draw other (part_at network k) (row_of s i)) (sym here) (agree i)))

    next_next : (w : Next) → at_next second s w ≡ at_next first s w
    next_next Stable = ap (at_rest second s) renewed_next ∙ rest_next (renewed_from first s 0 s.rows) (from_more network limits draw s 0 s.rows)
    next_next (TrapsAt j k trap) = refl
    next_next (Completes j k) = ap (unless_over s (limit_at first s.burst s.count)) (completes_next s (s.burst + 1) j k ((agree j).cases k))

    step_next : step second s ≡ step first s
    unfolding step
    step_next = ap (at_next second s) (next_again network limits draw other s) ∙ next_next (next_instant first s)

pub step_looks_at_next : (network : Network) → StepLooksAtNext network
step_looks_at_next network limits draw other s agree = step_next network limits draw other s agree
