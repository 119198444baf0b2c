-- A step and a run with other draws.
use Rattle.std.proofs.Common.{ℕ, zero, suc, ◌+◌, ◌<◌, ◌≡◌, ◌∙◌, ap, sym, subst, refl, arith, List, [], ◌∷◌, length, map, Option, Some, None, Result, Ok, Err, Bool, true, false, nat_le, cond, slice_index_or}
use Rattle.std.specs.Prelude.{slice_index}
use Rattle.san_base.specs.declared.ending.Trap.{Trap}
use Rattle.san_law.specs.Activity.{Activity, Effected, Part, activity_of, case_stream, completed, done_by, no_activity, with_case}
use Rattle.san_law.specs.Net.{Done, Faulty, Fresh, Local, Net, Renewing, Row, least_timer, without_timer}
use Rattle.san_law.specs.Network.{Limits, Network, net_of, part_at}
use Rattle.san_law.specs.Next.{Completes, Next, Stable, TrapsAt, found_at, last_first, next_instant, next_of, scan}
use Rattle.san_law.specs.Renewal.{AllFresh, Due, FaultAt, Renewal, and_rest, least_from, renewed_at, renewed_from, renewed_then}
use Rattle.san_law.specs.State.{State, gather, local_of, row_of, slots_of}
use Rattle.san_law.specs.Step.{End, Ending, Event, Happened, Over, Stepped, at_due, at_next, at_rest, complete, count_limit, fire, fired, limit_at, step, unless_over}
use Rattle.san_law.specs.Trajectory.{Runs}
use Rattle.san_legal.specs.Draws.{AgreeOn, AgreeTaken}
use Rattle.san_legal.specs.Locality.{CompletionLooksAtTaken, IsSized, RunLooksAtTaken, StepLooksAtTaken}
use Rattle.san_legal.proofs.RowLemmas.{IsMore, case_more, case_one, more_then, row_at, same_more, set_more, set_there, timer_more}
use Rattle.san_legal.proofs.DrawLemmas.{MoreBy, row_again, row_more}

-- ---- agreement over less

pub agree_less : (draw other : ℕ → ℕ → ℕ) (part : Part) (a b c d : Row) → IsMore a b → IsMore c d → AgreeOn draw other part a d → AgreeOn draw other part b c
agree_less draw other part a b c d h g agree = record {
  delays = λ k n l m. agree.delays k n (omega (arith, h.more_delays k, l)) (omega (arith, g.more_delays k, m));
  cases = λ k n l m. agree.cases k n (omega (arith, h.more_cases k, l)) (omega (arith, g.more_cases k, m));
}

-- ---- a completion

pub same_done : (a b : Done) → (let r : Result Done Trap = Ok a in r) ≡ Ok b → a ≡ b
same_done a b e = cc

pub done_row : (draw : ℕ → ℕ → ℕ) (part : Part) (k : ℕ) (l : Local) (d : Done) → completed draw part k l ≡ Ok d → d.left.row ≡ with_case l.row k
done_row draw part k l d is = by_effect ((activity_of part k).complete (draw (case_stream part k) (slice_index l.row.cases k)) l.values) is
  where
    by_effect : (e : Result Effected Trap) → done_by l.row k (activity_of part k) e ≡ Ok d → d.left.row ≡ with_case l.row k
    by_effect (Err trap) q = absurd cc
    by_effect (Ok e) q = sym (ap (λ (x : Done). x.left.row) (same_done _ d q))

pub completed_by : (draw other : ℕ → ℕ → ℕ) (part : Part) (k : ℕ) (l : Local) → draw (case_stream part k) (slice_index l.row.cases k) ≡ other (case_stream part k) (slice_index l.row.cases k) → completed other part k l ≡ completed draw part k l
completed_by draw other part k l e = ap (λ (u : ℕ). done_by l.row k (activity_of part k) ((activity_of part k).complete u l.values)) (sym e)

completed_again : (draw other : ℕ → ℕ → ℕ) (part : Part) (k : ℕ) (l : Local) (d : Done) → k < length l.row.cases → completed draw part k l ≡ Ok d → AgreeOn draw other part l.row d.left.row → completed other part k l ≡ completed draw part k l
completed_again draw other part k l d h is agree =
    let row : d.left.row ≡ with_case l.row k = done_row draw part k l d is in
    let taken : AgreeOn draw other part l.row (with_case l.row k) = subst (AgreeOn draw other part l.row) row agree in
    completed_by draw other part k l (taken.cases k (slice_index l.row.cases k) (omega arith) (case_one l.row k h))

-- an activity that is not there completes never
act_there : (acts : List Activity) (k u : ℕ) (v : List ℕ) (e : Effected) → (slice_index_or acts k no_activity).complete u v ≡ Ok e → k < length acts
act_there [] k u v e is = absurd cc
act_there (a ∷ acts) zero u v e is = omega arith
act_there (a ∷ acts) (suc k) u v e is = let more = act_there acts k u v e is in omega (arith, more)

pub done_there : (draw : ℕ → ℕ → ℕ) (part : Part) (k : ℕ) (l : Local) (d : Done) → completed draw part k l ≡ Ok d → k < length part.activities
done_there draw part k l d is = by_effect ((activity_of part k).complete (draw (case_stream part k) (slice_index l.row.cases k)) l.values) refl is
  where
    by_effect : (e : Result Effected Trap) → (activity_of part k).complete (draw (case_stream part k) (slice_index l.row.cases k)) l.values ≡ e → done_by l.row k (activity_of part k) e ≡ Ok d → k < length part.activities
    by_effect (Err trap) at q = absurd cc
    by_effect (Ok e) at q = act_there part.activities k (draw (case_stream part k) (slice_index l.row.cases k)) l.values e at

pub completion_looks_at_taken : (part : Part) → CompletionLooksAtTaken part
completion_looks_at_taken part draw other k l d sized is agree =
    let h = done_there draw part k l d is in
    completed_again draw other part k l d (omega (arith, h, sized.cases)) is agree ∙ is

-- ---- a step

module _ (network : Network) (limits : Limits) (draw other : ℕ → ℕ → ℕ) where
  abbrev pub one : Net
  one = net_of draw network limits

  abbrev pub two : Net
  two = net_of other network limits

  -- what stands next needs no draw
  scan_again : (s : State) (j n : ℕ) → scan two s j n ≡ scan one s j n
  scan_again s j zero = refl
  scan_again s j (suc n) = ap (found_at j (next_of one s j)) (scan_again s (suc j) n)

  last_again : (s : State) (o : Option ℕ) → last_first two s o (scan two s 0 (length two.parts)) ≡ last_first one s o (scan one s 0 (length one.parts))
  last_again s None = scan_again s 0 (length one.parts)
  last_again s (Some j) = ap (found_at j (next_of one s j)) (scan_again s 0 (length one.parts))

  pub next_again : (s : State) → next_instant two s ≡ next_instant one s
  unfolding next_instant
  next_again s = last_again s s.last

-- ---- a renewal of all leaves

-- what it leaves
abbrev pub MoreIn : List Row → Renewal → Type 0
MoreIn rows (AllFresh fresh) = (i : ℕ) → IsMore (row_at rows i) (row_at fresh i) × ((row_at fresh i).cases ≡ (row_at rows i).cases)
MoreIn rows (FaultAt j k trap) = Unit {0}

then_more : (r : Row) (rs : List Row) (j : ℕ) (x : Renewing) (rest : Renewal) → MoreBy r x → MoreIn rs rest → MoreIn (r ∷ rs) (renewed_then j x rest)
then_more r rs j (Faulty k trap) rest h m = tt
then_more r rs j (Fresh now) (FaultAt i k trap) h m = tt
then_more r rs j (Fresh now) (AllFresh fresh) h m = each
  where
    each : (i : ℕ) → IsMore (row_at (r ∷ rs) i) (row_at (now ∷ fresh) i) × ((row_at (now ∷ fresh) i).cases ≡ (row_at (r ∷ rs) i).cases)
    each zero = h
    each (suc i) = m i

pub from_more : (network : Network) (limits : Limits) (draw : ℕ → ℕ → ℕ) (s : State) (j : ℕ) (rs : List Row) → MoreIn rs (renewed_from (net_of draw network limits) s j rs)
from_more network limits draw s j [] = λ i. (same_more (row_at [] i), refl)
from_more network limits draw s j (r ∷ rs) =
    let net = net_of draw network limits in
    then_more r rs j (renewed_at net s j r) (renewed_from net s (suc j) rs)
    (row_more draw (part_at network j) s.time (gather (slots_of net j) s.stable) (record { values = gather (slots_of net j) s.marking; row = r }))
    (from_more network limits draw s (suc j) rs)

rows_in : Renewal → List Row
rows_in (AllFresh rows) = rows
rows_in (FaultAt j k trap) = []

pub same_all : (a b : List Row) → AllFresh a ≡ AllFresh b → a ≡ b
unfolding rows_in
same_all a b e = ap rows_in e

module _ (network : Network) (limits : Limits) (draw other : ℕ → ℕ → ℕ) where
  -- the same from a leaf on
  abbrev AgreeRows : ℕ → List Row → List Row → Type 0
  AgreeRows j rs fresh = (i : ℕ) → AgreeOn draw other (part_at network (j + i)) (row_at rs i) (row_at fresh i)

  then_again : (s : State) (j : ℕ) (r : Row) (rs fresh : List Row) (x : Renewing) (rest : Renewal)
      → renewed_at (one network limits draw other) s j r ≡ x → renewed_from (one network limits draw other) s (suc j) rs ≡ rest → renewed_then j x rest ≡ AllFresh fresh → AgreeRows j (r ∷ rs) fresh
      → ((more : List Row) → renewed_from (one network limits draw other) s (suc j) rs ≡ AllFresh more → AgreeRows (suc j) rs more → renewed_from (two network limits draw other) s (suc j) rs ≡ AllFresh more)
      → renewed_from (two network limits draw other) s j (r ∷ rs) ≡ AllFresh fresh
  then_again s j r rs fresh (Faulty k trap) rest is more all agree go = absurd cc
  then_again s j r rs fresh (Fresh now) (FaultAt i k trap) is more all agree go = absurd cc
  then_again s j r rs fresh (Fresh now) (AllFresh news) is more all agree go =
      let a = one network limits draw other in
      let b = two network limits draw other in
      let same : now ∷ news ≡ fresh = same_all (now ∷ news) fresh all in
      let taken : AgreeRows j (r ∷ rs) (now ∷ news) = subst (AgreeRows j (r ∷ rs)) (sym same) agree in
      let here : j + 0 ≡ j = omega arith in
      let head : renewed_at b s j r ≡ Fresh now = row_again draw other (part_at network j) s.time (gather (slots_of a j) s.stable) (record { values = gather (slots_of a j) s.marking; row = r }) now is (subst (λ (k : ℕ). AgreeOn draw other (part_at network k) r now) here (taken 0)) in
      let tail : renewed_from b s (suc j) rs ≡ AllFresh news = go news more (λ i. (let there : j + suc i ≡ suc j + i = omega arith in subst (λ (k : ℕ). AgreeOn draw other (part_at network k) (row_at rs i) (row_at news i)) there (taken (suc i)))) in
      ap (λ (x : Renewing). renewed_then j x (renewed_from b s (suc j) rs)) head ∙ (ap (and_rest now) tail ∙ all)

  from_again : (s : State) (j : ℕ) (rs fresh : List Row) → renewed_from (one network limits draw other) s j rs ≡ AllFresh fresh → AgreeRows j rs fresh → renewed_from (two network limits draw other) s j rs ≡ AllFresh fresh
  from_again s j [] fresh is agree = is
  from_again s j (r ∷ rs) fresh is agree = then_again s j r rs fresh (renewed_at (one network limits draw other) s j r) (renewed_from (one network limits draw other) s (suc j) rs) refl refl is agree (from_again s (suc j) rs)

-- ---- completions

module _ (network : Network) (limits : Limits) (draw other : ℕ → ℕ → ℕ) (u : State) (burst j k : ℕ) where
  abbrev done_one : Result Done Trap
  done_one = completed draw (part_at network j) k (local_of (one network limits draw other) u j)

  abbrev done_two : Result Done Trap
  done_two = completed other (part_at network j) k (local_of (one network limits draw other) u j)

  abbrev pub left : Result Done Trap → Stepped × State
  left p = complete (one network limits draw other) u burst j k p

  pub complete_same : (p : Result Done Trap) → complete (two network limits draw other) u burst j k p ≡ left p
  complete_same (Ok d) = refl
  complete_same (Err trap) = refl

  complete_more : (p : Result Done Trap) (e : Event) → done_one ≡ p → (left p).0 ≡ Happened e → (i : ℕ) → IsMore (row_of u i) (row_of (left p).1 i)
  complete_more (Err trap) e is happens i = absurd cc
  complete_more (Ok d) e is happens i = set_more u.rows j d.left.row (subst (IsMore (row_of u j)) (sym (done_row draw (part_at network j) k (local_of (one network limits draw other) u j) d is)) (case_more (row_of u j) k)) i

  complete_again : (p : Result Done Trap) (e : Event) → done_one ≡ p → (left p).0 ≡ Happened e → length (row_of u j).cases ≡ length (part_at network j).activities
      → AgreeOn draw other (part_at network j) (row_of u j) (row_of (left p).1 j) → complete (two network limits draw other) u burst j k done_two ≡ left done_one
  complete_again (Err trap) e is happens sized agree = absurd cc
  complete_again (Ok d) e is happens sized agree =
      let part = part_at network j in
      let l = local_of (one network limits draw other) u j in
      let h = done_there draw part k l d is in
      let inside : k < length (row_of u j).cases = omega (arith, h, sized) in
      let there : row_of (left (Ok d)).1 j ≡ d.left.row = set_there u.rows j k d.left.row inside in
      complete_same done_two ∙ ap left (completed_again draw other part k l d inside is (subst (AgreeOn draw other part (row_of u j)) there agree))

-- ---- a step

module _ (network : Network) (limits : Limits) (draw other : ℕ → ℕ → ℕ) (s : State) (sized : IsSized network s) where
  abbrev first : Net
  first = one network limits draw other

  abbrev second : Net
  second = two network limits draw other

  -- what the law of a step says of a result, and of the rows before it
  pub record Same (rows : List Row) (x y : Stepped × State) : Type 0 where
    more : (i : ℕ) → IsMore (row_at rows i) (row_of x.1 i)
    again : AgreeTaken network draw other s x.1 → y ≡ x

  unless_again : (u : State) → ((i : ℕ) → IsMore (row_of s i) (row_of u i)) → (burst j k : ℕ) (o : Option Ending) (e : Event)
      → (unless_over u o (complete first u burst j k (done_one network limits draw other u burst j k))).0 ≡ Happened e
      → Same u.rows (unless_over u o (complete first u burst j k (done_one network limits draw other u burst j k))) (unless_over u o (complete second u burst j k (done_two network limits draw other u burst j k)))
  unless_again u from_s burst j k (Some x) e happens = absurd cc
  unless_again u from_s burst j k None e happens =
      let p = done_one network limits draw other u burst j k in
      let t = (complete first u burst j k p).1 in
      record {
        more = complete_more network limits draw other u burst j k p e refl happens;
        again = λ agree. complete_again network limits draw other u burst j k p e refl happens ((from_s j).cases ∙ (sized j).cases)
            (agree_less draw other (part_at network j) (row_of s j) (row_of u j) (row_of t j) (row_of t j) (from_s j) (same_more (row_of t j)) (agree j));
      }

  due_again : (rows : List Row) → ((i : ℕ) → IsMore (row_of s i) (row_at rows i)) → (d : Due) (b : Bool) (e : Event)
      → (cond b (fire first (fired first s rows d) d.leaf d.act) (Over first.horizon End, s)).0 ≡ Happened e
      → Same rows (cond b (fire first (fired first s rows d) d.leaf d.act) (Over first.horizon End, s)) (cond b (fire second (fired second s rows d) d.leaf d.act) (Over second.horizon End, s))
  due_again rows new d false e happens = absurd cc
  due_again rows new d true e happens =
      let u = fired first s rows d in
      let to_u : (i : ℕ) → IsMore (row_at rows i) (row_of u i) = set_more rows d.leaf (without_timer (row_at rows d.leaf) d.act) (timer_more (row_at rows d.leaf) d.act) in
      let rest = unless_again u (λ i. more_then (row_of s i) (row_at rows i) (row_of u i) (new i) (to_u i)) 0 d.leaf d.act (count_limit first u.count) e happens in
      let t = (fire first u d.leaf d.act).1 in
      record { more = λ i. more_then (row_at rows i) (row_of u i) (row_of t i) (to_u i) (rest.more i); again = rest.again }

  timer_again : (rows : List Row) → ((i : ℕ) → IsMore (row_of s i) (row_at rows i)) → (o : Option Due) (e : Event) → (at_due first s rows o).0 ≡ Happened e → Same rows (at_due first s rows o) (at_due second s rows o)
  timer_again rows new None e happens = absurd cc
  timer_again rows new (Some d) e happens = due_again rows new d (nat_le d.time first.horizon) e happens

  rest_again : (x : Renewal) (e : Event) → renewed_from first s 0 s.rows ≡ x → MoreIn s.rows x → (at_rest first s x).0 ≡ Happened e → Same s.rows (at_rest first s x) (at_rest second s (renewed_from second s 0 s.rows))
  rest_again (FaultAt j k trap) e is more happens = absurd cc
  rest_again (AllFresh rows) e is more happens =
      let new : (i : ℕ) → IsMore (row_of s i) (row_at rows i) = λ i. (more i).0 in
      let least = least_from 0 (map least_timer rows) in
      let rest = timer_again rows new least e happens in
      let t = (at_due first s rows least).1 in
      record {
        more = λ i. more_then (row_of s i) (row_at rows i) (row_of t i) (new i) (rest.more i);
        again = λ agree. (
            let rows_agree : AgreeRows network limits draw other 0 s.rows rows = λ i. (
            let here : 0 + i ≡ i = omega arith in
            subst (λ (k : ℕ). AgreeOn draw other (part_at network k) (row_of s i) (row_at rows i)) (sym here)
            (agree_less draw other (part_at network i) (row_of s i) (row_of s i) (row_at rows i) (row_of t i) (same_more (row_of s i)) (rest.more i) (agree i))) in
            ap (at_rest second s) (from_again network limits draw other s 0 s.rows rows is rows_agree) ∙ rest.again agree);
      }

  next_step : (w : Next) (e : Event) → (at_next first s w).0 ≡ Happened e → Same s.rows (at_next first s w) (at_next second s w)
  next_step Stable e happens = rest_again (renewed_from first s 0 s.rows) e refl (from_more network limits draw s 0 s.rows) happens
  next_step (TrapsAt j k trap) e happens = absurd cc
  next_step (Completes j k) e happens = unless_again s (λ i. same_more (row_of s i)) (s.burst + 1) j k (limit_at first s.burst s.count) e happens

  pub step_same : (e : Event) → (step first s).0 ≡ Happened e → Same s.rows (step first s) (step second s)
  unfolding step
  step_same e happens =
      let same = next_step (next_instant first s) e happens in
      record { more = same.more; again = λ agree. ap (at_next second s) (next_again network limits draw other s) ∙ same.again agree }

pub step_looks_at_taken : (network : Network) → StepLooksAtTaken network
step_looks_at_taken network limits draw other s e sized happens agree = (step_same network limits draw other s sized e happens).again agree

pub step_more : (network : Network) (limits : Limits) (draw : ℕ → ℕ → ℕ) (s : State) (e : Event) → IsSized network s → (step (net_of draw network limits) s).0 ≡ Happened e → (i : ℕ) → IsMore (row_of s i) (row_of (step (net_of draw network limits) s).1 i)
step_more network limits draw s e sized happens = (step_same network limits draw draw s sized e happens).more

-- ---- a run

pub more_sized : (network : Network) (s t : State) → IsSized network s → ((i : ℕ) → IsMore (row_of s i) (row_of t i)) → IsSized network t
more_sized network s t sized more j = record { timers = (more j).timers ∙ (sized j).timers; delays = (more j).delays ∙ (sized j).delays; cases = (more j).cases ∙ (sized j).cases }

pub run_more : (network : Network) (limits : Limits) (draw : ℕ → ℕ → ℕ) (s t : State) (es : List Event) → IsSized network s → Runs (net_of draw network limits) s es t → (i : ℕ) → IsMore (row_of s i) (row_of t i)
run_more network limits draw s t [] sized runs i = subst (λ (x : State). IsMore (row_of s i) (row_of x i)) runs (same_more (row_of s i))
run_more network limits draw s t (e ∷ es) sized runs i =
    let u = (step (net_of draw network limits) s).1 in
    let more = step_more network limits draw s e sized runs.0 in
    more_then (row_of s i) (row_of u i) (row_of t i) (more i) (run_more network limits draw u t es (more_sized network s u sized more) runs.1 i)

pub run_looks_at_taken : (network : Network) → RunLooksAtTaken network
run_looks_at_taken network limits draw other s t [] sized runs agree = runs
run_looks_at_taken network limits draw other s t (e ∷ es) sized runs agree =
    let a = net_of draw network limits in
    let b = net_of other network limits in
    let u = (step a s).1 in
    let more = step_more network limits draw s e sized runs.0 in
    let fit = more_sized network s u sized more in
    let rest = run_more network limits draw u t es fit runs.1 in
    let now : AgreeTaken network draw other s u = λ j. agree_less draw other (part_at network j) (row_of s j) (row_of s j) (row_of u j) (row_of t j) (same_more (row_of s j)) (rest j) (agree j) in
    let later : AgreeTaken network draw other u t = λ j. agree_less draw other (part_at network j) (row_of s j) (row_of u j) (row_of t j) (row_of t j) (more j) (same_more (row_of t j)) (agree j) in
    let same : step b s ≡ step a s = step_looks_at_taken network limits draw other s e sized runs.0 now in
    subst (λ (x : Stepped × State). (x.0 ≡ Happened e) × Runs b x.1 es t) (sym same) (runs.0, run_looks_at_taken network limits draw other u t es fit runs.1 later)
