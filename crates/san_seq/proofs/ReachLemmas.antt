-- Events come in order of time, with the impulses of the markings that they reach.
use Rattle.std.proofs.Common.{ℕ, zero, suc, ◌+◌, ◌≤◌, ◌≡◌, ◌∙◌, ap, sym, refl, subst, arith, List, [], ◌∷◌, length, map, Option, Some, None, Result, Ok, Err, Bool, true, false, nat_le, cond, slice_set, slice_index, slice_index_or}
use Rattle.std.proofs.lemmas.Bool.{leb-true}
use Rattle.std.proofs.lemmas.List.{length-map}
use Rattle.san_base.specs.declared.ending.Event.{Event}
use Rattle.san_base.specs.declared.ending.Ending.{Ending}
use Rattle.san_base.specs.declared.ending.Trap.{Trap}
use Rattle.san_law.proofs.Least.{before_late, least_is_before}
use Rattle.san_law.proofs.Places.{gather_scatter, scatter_length}
use Rattle.san_law.proofs.Timers.{dropped_late, least_like}
use Rattle.san_law.specs.Activity.{Effected, Part, activity_of, case_stream, completed, done_by}
use Rattle.san_law.specs.inner.Least.{Before}
use Rattle.san_law.specs.Lawful.{IsLaid, IsLate, IsLawful}
use Rattle.san_law.specs.Net.{Done, Faulty, Fresh, Local, Net, Renewing, Row, least_timer, without_timer}
use Rattle.san_law.specs.Network.{Limits, part_at}
use Rattle.san_law.specs.Next.{Completes, Next, Stable, TrapsAt, next_instant}
use Rattle.san_law.specs.Renewal.{AllFresh, Due, FaultAt, Renewal, and_rest, least_from, renewed_at, renewed_from, renewed_then}
use Rattle.san_law.specs.State.{State, gather, local_of, opening_state, scatter, slots_of}
use Rattle.san_law.specs.Step as law
use Rattle.san_law.specs.Step.{End, Event as LawEvent, Happened, Over, Stepped, at_due, at_next, at_rest, complete, count_limit, event_of, fire, fired, limit_at, step, unless_over, with_local}
use Rattle.san_law.specs.Trajectory.{Runs}
use Rattle.san_net.specs.Network.{Network, net_of, network_in}
use Rattle.san_net.proofs.LaidLemmas.{laid, lawful}
use Rattle.san_seq.specs.FlatRun.{RunPhase, On, Run, left_by, net_in, stepped}
use Rattle.san_seq.specs.Reaching.{EventsAreInTime, EventsAreTheLaws, IsInTime, impulses_at}
use Rattle.san_seq.specs.inner.Rows.{row_at}
use Rattle.san_net.specs.Runs.{event_in}
use Rattle.san_seq.specs.Outcomes.{event_or_ending}

-- a step's event is the law's
laws_by : (n : Network) (net : Net) (s : State) (e : Event) (x : Stepped) → (step net s).0 ≡ x → event_or_ending n x ≡ Ok e
    → (ev : LawEvent) × ((step net s).0 ≡ Happened ev) × (event_in n ev ≡ e) × (left_by n (step net s) ≡ On (step net s).1)
laws_by n net s e (Over time ending) is answered = absurd cc
laws_by n net s e (Happened ev) is answered = (ev, is, same (event_in n ev) e answered, ap (λ (x : Stepped). left_by n (x, (step net s).1)) is)
  where
    same : (a b : Event) → (let r : Result Event Ending = Ok a in r) ≡ Ok b → a ≡ b
    same a b q = cc

pub events_are_laws : (r : Run) → EventsAreTheLaws r
events_are_laws r s e on answered =
    let answered_on : (stepped r.network (net_in r) (On s)).0 ≡ Ok e = sym (ap (λ (g : RunPhase). (stepped r.network (net_in r) g).0) on) ∙ answered in
    let got = laws_by r.network (net_in r) s e (step (net_in r) s).0 refl answered_on in
    record { event = got.0; happens = got.1; answered = got.2; left = ap (λ (g : RunPhase). (stepped r.network (net_in r) g).1) on ∙ got.3 }

-- one row anew
any_row : (P : Row → Type 0) (rows : List Row) (j : ℕ) (new : Row) → ((i : ℕ) → P (row_at rows i)) → P new → (i : ℕ) → P (row_at (slice_set rows j new) i)
any_row P [] j new all p i = all i
any_row P (r ∷ rs) zero new all p zero = p
any_row P (r ∷ rs) zero new all p (suc i) = all (suc i)
any_row P (r ∷ rs) (suc j) new all p zero = all zero
any_row P (r ∷ rs) (suc j) new all p (suc i) = any_row P rs j new (λ k. all (suc k)) p i

-- no timer is due before a time
abbrev AreLate : ℕ → List Row → Type 0
AreLate t rows = (i : ℕ) → IsLate t (row_at rows i)

-- renewed rows
abbrev Renewed : ℕ → Renewal → Type 0
Renewed t (AllFresh rows) = AreLate t rows
Renewed t (FaultAt j k trap) = Unit {0}

rest_late : (t : ℕ) (r : Row) (x : Renewal) → IsLate t r → Renewed t x → Renewed t (and_rest r x)
rest_late t r (AllFresh rows) h all = each
  where
    each : AreLate t (r ∷ rows)
    each zero = h
    each (suc i) = all i
rest_late t r (FaultAt j k trap) h all = tt

then_late : (t i : ℕ) (x : Renewing) (rest : Renewal) → ((r : Row) → x ≡ Fresh r → IsLate t r) → Renewed t rest → Renewed t (renewed_then i x rest)
then_late t i (Fresh r) rest h all = rest_late t r rest (h r refl) all
then_late t i (Faulty k trap) rest h all = tt

renewed_late : (net : Net) → IsLawful net → (s : State) (i : ℕ) (rows : List Row) → AreLate s.time rows → Renewed s.time (renewed_from net s i rows)
renewed_late net ok s i [] all = all
renewed_late net ok s i (r ∷ rs) all =
    then_late s.time i (renewed_at net s i r) (renewed_from net s (suc i) rs)
    (λ now e. ok.renewed_late i s.time (gather (slots_of net i) s.stable) (record { values = gather (slots_of net i) s.marking; row = r }) now e (all zero))
    (renewed_late net ok s (suc i) rs (λ k. all (suc k)))

row_least : (rs : List Row) (i : ℕ) → slice_index_or (map least_timer rs) i None ≡ least_timer (row_at rs i)
unfolding least_timer
row_least [] i = refl
row_least (r ∷ rs) zero = refl
row_least (r ∷ rs) (suc i) = row_least rs i

-- what holds of every state of a run
record Kept (net : Net) (m : ℕ) (s : State) : Type 0 where
  late : AreLate s.time s.rows
  time : s.time ≤ net.horizon
  sized : length s.marking ≡ m

module _ (n : Network) (draw : ℕ → ℕ → ℕ) (limits : Limits) (ok : IsLawful (net_of n draw limits)) (lies : IsLaid (net_of n draw limits) (length n.initial)) where
  abbrev net : Net
  net = net_of n draw limits

  -- a step with an event, from a time on
  record Went (t : ℕ) (x : Stepped × State) (e : LawEvent) : Type 0 where
    later : t ≤ e.time
    within : e.time ≤ net.horizon
    present : x.1.time ≡ e.time
    impulses : e.impulses ≡ impulses_at n e.leaf e.act (gather (slots_of net e.leaf) x.1.marking)
    kept : Kept net (length n.initial) x.1

  -- a completion's impulses are those of the values that it leaves
  impulses_done : (k : ℕ) (part : Part) (l : Local) (d : Done) → completed draw part k l ≡ Ok d → d.impulses ≡ (activity_of part k).impulses d.left.values
  impulses_done k part l d is = by_effect ((activity_of part k).complete (draw (case_stream part k) (slice_index l.row.cases k)) l.values) is
    where
      same_done : (x y : Done) → (let r : Result Done Trap = Ok x in r) ≡ Ok y → x ≡ y
      same_done x y e = cc

      by_effect : (e : Result Effected Trap) → done_by l.row k (activity_of part k) e ≡ Ok d → d.impulses ≡ (activity_of part k).impulses d.left.values
      by_effect (Err trap) q = absurd cc
      by_effect (Ok e) q =
          let same = same_done _ d q in
          sym (ap (λ (x : Done). x.impulses) same) ∙ ap (λ (x : Done). (activity_of part k).impulses x.left.values) same

  done_goes : (s : State) (burst j k : ℕ) (d : Done) (t : ℕ) → t ≤ s.time → Kept net (length n.initial) s → net.done j k (local_of net s j) ≡ Ok d
      → Went t (Happened (event_of s.time j k d), with_local net s burst j d.left) (event_of s.time j k d)
  done_goes s burst j k d t h is done =
      let l = local_of net s j in
      let values : gather (slots_of net j) (scatter (slots_of net j) d.left.values s.marking) ≡ d.left.values =
      gather_scatter (slots_of net j) d.left.values s.marking (subst (Rattle.san_law.specs.Lawful.AllBelow (slots_of net j)) (sym is.sized) (lies.below j)) (lies.distinct j)
      (ok.keeps j k l d done ∙ length-map (slots_of net j) (λ (q : ℕ). slice_index s.marking q)) in
      let least : least_timer d.left.row ≡ least_timer (row_at s.rows j) = least_like (row_at s.rows j) d.left.row (ok.timers j k l d done) in
      record {
        later = h;
        within = is.time;
        present = refl;
        impulses = impulses_done k (part_at (network_in n) j) l d done ∙ ap (impulses_at n j k) (sym values);
        kept = record {
          late = any_row (IsLate s.time) s.rows j d.left.row is.late (λ x e. is.late j x (sym least ∙ e));
          time = is.time;
          sized = scatter_length (slots_of net j) d.left.values s.marking ∙ is.sized;
        };
      }

  same_event : (a b : LawEvent) → Happened a ≡ Happened b → a ≡ b
  same_event a b e = cc

  complete_goes : (s : State) (burst j k : ℕ) (r : Result Done Trap) (t : ℕ) (e : LawEvent) → t ≤ s.time → Kept net (length n.initial) s → net.done j k (local_of net s j) ≡ r
      → (complete net s burst j k r).0 ≡ Happened e → Went t (complete net s burst j k r) e
  complete_goes s burst j k (Err trap) t e h is done answered = absurd cc
  complete_goes s burst j k (Ok d) t e h is done answered =
      subst (Went t (complete net s burst j k (Ok d))) (same_event (event_of s.time j k d) e answered) (done_goes s burst j k d t h is done)

  unless_goes : (s : State) (o : Option law.Ending) (x : Stepped × State) (t : ℕ) (e : LawEvent) → (x.0 ≡ Happened e → Went t x e) → (unless_over s o x).0 ≡ Happened e → Went t (unless_over s o x) e
  unless_goes s (Some o) x t e go answered = absurd cc
  unless_goes s None x t e go answered = go answered

  -- the rows after the first timer's firing
  fired_late : (rows : List Row) (d : Due) → least_from 0 (map least_timer rows) ≡ Some d → AreLate d.time (slice_set rows d.leaf (without_timer (row_at rows d.leaf) d.act))
  fired_late rows d is =
      let first = least_is_before (map least_timer rows) d is in
      any_row (IsLate d.time) rows d.leaf (without_timer (row_at rows d.leaf) d.act)
      (λ i x e. before_late d i x (subst (Before d i) (row_least rows i ∙ e) (first.1 i)))
      (dropped_late (row_at rows d.leaf) d.time d.act (sym (row_least rows d.leaf) ∙ first.0))

  first_late : (t : ℕ) (rows : List Row) (d : Due) → AreLate t rows → least_from 0 (map least_timer rows) ≡ Some d → t ≤ d.time
  first_late t rows d all is =
      let first = least_is_before (map least_timer rows) d is in
      all d.leaf (d.time, d.act) (sym (row_least rows d.leaf) ∙ first.0)

  due_goes : (s : State) (rows : List Row) (o : Option Due) (e : LawEvent) → Kept net (length n.initial) s → AreLate s.time rows → least_from 0 (map least_timer rows) ≡ o
      → (at_due net s rows o).0 ≡ Happened e → Went s.time (at_due net s rows o) e
  due_goes s rows None e is late least answered = absurd cc
  due_goes s rows (Some d) e is late least answered = by_test (nat_le d.time net.horizon) refl answered
    where
      by_test : (b : Bool) → nat_le d.time net.horizon ≡ b → (cond b (fire net (fired net s rows d) d.leaf d.act) (Over net.horizon End, s)).0 ≡ Happened e → Went s.time (cond b (fire net (fired net s rows d) d.leaf d.act) (Over net.horizon End, s)) e
      by_test false q answered_off = absurd cc
      by_test true q answered_on =
          let u = fired net s rows d in
          let after : Kept net (length n.initial) u = record { late = fired_late rows d least; time = leb-true d.time net.horizon q; sized = is.sized } in
          unless_goes u (count_limit net u.count) (complete net u 0 d.leaf d.act (net.done d.leaf d.act (local_of net u d.leaf))) s.time e
          (complete_goes u 0 d.leaf d.act (net.done d.leaf d.act (local_of net u d.leaf)) s.time e (first_late s.time rows d late least) after refl)
          answered_on

  rest_goes : (s : State) (x : Renewal) (e : LawEvent) → Kept net (length n.initial) s → Renewed s.time x → (at_rest net s x).0 ≡ Happened e → Went s.time (at_rest net s x) e
  rest_goes s (FaultAt j k trap) e is all answered = absurd cc
  rest_goes s (AllFresh rows) e is all answered = due_goes s rows (least_from 0 (map least_timer rows)) e is all refl answered

  next_goes : (s : State) (x : Next) (e : LawEvent) → Kept net (length n.initial) s → (at_next net s x).0 ≡ Happened e → Went s.time (at_next net s x) e
  next_goes s Stable e is answered = rest_goes s (renewed_from net s 0 s.rows) e is (renewed_late net ok s 0 s.rows is.late) answered
  next_goes s (TrapsAt j k trap) e is answered = absurd cc
  next_goes s (Completes j k) e is answered =
      unless_goes s (limit_at net s.burst s.count) (complete net s (s.burst + 1) j k (net.done j k (local_of net s j))) s.time e
      (complete_goes s (s.burst + 1) j k (net.done j k (local_of net s j)) s.time e (omega arith) is refl)
      answered

  step_goes : (s : State) (e : LawEvent) → Kept net (length n.initial) s → (step net s).0 ≡ Happened e → Went s.time (step net s) e
  unfolding step
  step_goes s e is answered = next_goes s (next_instant net s) e is answered

  kept_on : (es : List LawEvent) (s t : State) → Kept net (length n.initial) s → Runs net s es t → Kept net (length n.initial) t
  kept_on [] s t is runs = subst (Kept net (length n.initial)) runs is
  kept_on (e ∷ es) s t is runs = kept_on es (step net s).1 t (step_goes s e is runs.0).kept runs.1

  opening_kept : Kept net (length n.initial) (opening_state net)
  opening_kept = record { late = λ i x e. omega arith; time = omega arith; sized = refl }

  reached : (es : List LawEvent) (s : State) (e : LawEvent) → Runs net (opening_state net) es s → (step net s).0 ≡ Happened e → IsInTime n net s e
  reached es s e runs answered =
      let went = step_goes s e (kept_on es (opening_state net) s opening_kept runs) answered in
      record { later = went.later; within = went.within; present = went.present; impulses = went.impulses }

pub events_in_time : (n : Network) → EventsAreInTime n
events_in_time n is draw limits es s e runs answered = reached n draw limits (lawful n is draw limits) (laid n is draw limits) es s e runs answered
