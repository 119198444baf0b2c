-- Each step in which something happens is below the limit, and counts one.
use Rattle.std.proofs.Common.{ℕ, ◌+◌, ◌*◌, ◌<◌, ◌≤◌, ◌≡◌, ap, sym, refl, subst, List, [], ◌∷◌, ◌++◌, length, map, Option, Some, None, Bool, true, false, arith, nat_le, nat_lt, cond, append_assoc}
use Rattle.std.proofs.lemmas.Bool.{ltb-true}
use Rattle.std.proofs.lemmas.List.{length-append}
use Rattle.std.specs.Prelude.{Result, Ok, Err}
use Rattle.san_base.specs.declared.ending.Trap.{Trap}
use Rattle.san_law.specs.Net.{Done, Local, Net, Row, least_timer}
use Rattle.san_law.specs.State.{State, local_of}
use Rattle.san_law.specs.Next.{Completes, Next, Stable, TrapsAt, next_instant}
use Rattle.san_law.specs.Renewal.{AllFresh, Due, FaultAt, Renewal, least_from, renewed_from}
use Rattle.san_law.specs.Step.{End, Ending, Event, Events, Happened, Over, Stepped, Unstable, at_due, at_next, at_rest, complete, count_limit, event_of, fire, fired, limit_at, step, unless_over}
use Rattle.san_law.specs.Trajectory.{Runs}
use Rattle.san_law.specs.Tally.{impulses_in}
use Rattle.san_law.specs.Core.{Core}
use Rattle.san_law.specs.Lawful.{IsLawful}
use Rattle.san_law.specs.Standing.{Counts, follows_by}
use Rattle.san_law.specs.Laws.{RunsWithin, TallyIsFew}

pub count_room : (net : Net) (count : ℕ) → count_limit net count ≡ None → count < net.limit
count_room net count e = by_test (nat_lt count net.limit) refl e
  where
    by_test : (b : Bool) → nat_lt count net.limit ≡ b → cond b None (Some Events) ≡ None → count < net.limit
    by_test true t e = ltb-true count net.limit t
    by_test false t e = cc

pub limit_room : (net : Net) (burst count : ℕ) → limit_at net burst count ≡ None → count < net.limit
limit_room net burst count e = by_test (nat_lt burst net.burst) e
  where
    by_test : (b : Bool) → cond b (count_limit net count) (Some Unstable) ≡ None → count < net.limit
    by_test true e = count_room net count e
    by_test false e = cc

-- what holds of a step with an event
pub record Counted (net : Net) (s : State) (x : Stepped × State) (e : Event) : Type 0 where
  pub below : s.count < net.limit
  pub count : x.1.count ≡ s.count + 1
  pub few : IsLawful net → length e.impulses ≤ 1024

few_of : (net : Net) (time j k : ℕ) (l : Local) (d : Done) (e : Event) → net.done j k l ≡ Ok d → Happened (event_of time j k d) ≡ Happened e → IsLawful net → length e.impulses ≤ 1024
few_of net time j k l d e done is law = let q : event_of time j k d ≡ e = cc in subst (λ (x : Event). length x.impulses ≤ 1024) q (law.few j k l d done)

completed_counts : (net : Net) (s u : State) (burst j k : ℕ) (l : Local) (p : Result Done Trap) (e : Event) → net.done j k l ≡ p → s.count < net.limit → u.count ≡ s.count → (complete net u burst j k p).0 ≡ Happened e → Counted net s (complete net u burst j k p) e
completed_counts net s u burst j k l (Err trap) e done h same is = cc
completed_counts net s u burst j k l (Ok d) e done h same is = record { below = h; count = ap (λ n. n + 1) same; few = few_of net u.time j k l d e done is }

unless_counts : (net : Net) (s u : State) (burst j k : ℕ) (l : Local) (o : Option Ending) (p : Result Done Trap) (e : Event) → net.done j k l ≡ p → (o ≡ None → s.count < net.limit) → u.count ≡ s.count → (unless_over u o (complete net u burst j k p)).0 ≡ Happened e → Counted net s (unless_over u o (complete net u burst j k p)) e
unless_counts net s u burst j k l (Some x) p e done h same is = cc
unless_counts net s u burst j k l None p e done h same is = completed_counts net s u burst j k l p e done (h refl) same is

due_counts : (net : Net) (s : State) (rows : List Row) (d : Due) (b : Bool) (e : Event) → let x = cond b (fire net (fired net s rows d) d.leaf d.act) (Over net.horizon End, s) in x.0 ≡ Happened e → Counted net s x e
due_counts net s rows d true e is = let u = fired net s rows d in let l = local_of net u d.leaf in unless_counts net s u 0 d.leaf d.act l (count_limit net s.count) (net.done d.leaf d.act l) e refl (count_room net s.count) refl is
due_counts net s rows d false e is = cc

timer_counts : (net : Net) (s : State) (rows : List Row) (o : Option Due) (e : Event) → (at_due net s rows o).0 ≡ Happened e → Counted net s (at_due net s rows o) e
timer_counts net s rows None e is = cc
timer_counts net s rows (Some d) e is = due_counts net s rows d (nat_le d.time net.horizon) e is

rest_counts : (net : Net) (s : State) (x : Renewal) (e : Event) → (at_rest net s x).0 ≡ Happened e → Counted net s (at_rest net s x) e
rest_counts net s (FaultAt j k trap) e is = cc
rest_counts net s (AllFresh rows) e is = timer_counts net s rows (least_from 0 (map least_timer rows)) e is

next_counts : (net : Net) (s : State) (w : Next) (e : Event) → (at_next net s w).0 ≡ Happened e → Counted net s (at_next net s w) e
next_counts net s Stable e is = rest_counts net s (renewed_from net s 0 s.rows) e is
next_counts net s (TrapsAt j k trap) e is = cc
next_counts net s (Completes j k) e is = let l = local_of net s j in unless_counts net s s (s.burst + 1) j k l (limit_at net s.burst s.count) (net.done j k l) e refl (limit_room net s.burst s.count) refl is

pub counted : (net : Net) (s : State) (e : Event) → (step net s).0 ≡ Happened e → Counted net s (step net s) e
unfolding step
counted net s e is = next_counts net s (next_instant net s) e is

-- no run has more events than the limit leaves
pub runs_within : (net : Net) → RunsWithin net
runs_within net s t [] runs = (omega arith, let e : t.count ≡ s.count = ap (λ (x : State). x.count) (sym runs) in omega (arith, e))
runs_within net s t (e ∷ es) runs =
    let k = counted net s e runs.0 in
    let h = runs_within net (step net s).1 t es runs.1 in
    (omega (arith, k.below, k.count, h.0), omega (arith, k.count, h.1))

-- at most 1,024 impulses for each event
pub runs_few : (net : Net) → IsLawful net → (s t : State) (es : List Event) → Runs net s es t → impulses_in es ≤ 1024 * length es
runs_few net law s t [] runs = omega arith
runs_few net law s t (e ∷ es) runs =
    let k = (counted net s e runs.0).few law in
    let h = runs_few net law (step net s).1 t es runs.1 in
    omega (arith, k, h)

-- what follows the first events of a run is a run from where they lead
runs_rest : (net : Net) (s t u : State) (xs es : List Event) → Runs net s (xs ++ es) u → Runs net s xs t → Runs net t es u
runs_rest net s t u [] es whole first = subst (λ (v : State). Runs net v es u) first whole
runs_rest net s t u (x ∷ xs) es whole first = runs_rest net (step net s).1 t u xs es whole.1 first.1

-- and so of the events that a run goes on with
pub rest_few : (net : Net) → IsLawful net → (s t u : State) (past xs es : List Event) → Runs net s (past ++ xs) t → Runs net s (past ++ (xs ++ es)) u → impulses_in es ≤ 1024 * length es
rest_few net law s t u past xs es first whole =
    let joined : Runs net s ((past ++ xs) ++ es) u = subst (λ (zs : List Event). Runs net s zs u) (sym (append_assoc past xs es)) whole in
    runs_few net law t u es (runs_rest net s t u (past ++ xs) es joined first)

-- a run goes on
pub count_later : (net : Net) (s t u : State) (past xs es : List Event) → Runs net s (past ++ xs) t → Runs net s (past ++ (xs ++ es)) u → u.count ≡ t.count + length es
count_later net s t u past xs es a b =
    let m = (runs_within net s t (past ++ xs) a).1 in
    let n = (runs_within net s u (past ++ (xs ++ es)) b).1 in
    omega (arith, m, n, length-append past xs, length-append past (xs ++ es), length-append xs es)

few_by : (net : Net) (opening s : State) (past : List Event) (c : Core) → Runs net opening (past ++ c.events) s → c.count ≡ s.count → Counts net opening (past ++ c.events) c.order.time c.tally → c.tally.impulses + 1024 * opening.count ≤ 1024 * c.count
few_by net opening s past c runs count counts =
    let n = (runs_within net opening s (past ++ c.events) runs).1 in
    omega (arith, n, count, counts.impulses)

tally_by : (net : Net) (opening : State) (past : List Event) (c : Core) (o : Option Ending) → follows_by net opening past c o → c.tally.impulses + 1024 * opening.count ≤ 1024 * c.count
tally_by net opening past c None (s, st) = few_by net opening s past c st.runs st.holds.count st.counts
tally_by net opening past c (Some e) (s, st) = few_by net opening s past c st.runs st.count st.counts

pub tally_is_few : (net : Net) → TallyIsFew net
tally_is_few net opening past c h = tally_by net opening past c c.stop h
