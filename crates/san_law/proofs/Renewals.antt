-- A leaf's renewal, once and again.
use Rattle.std.proofs.Common.{ℕ, suc, ◌+◌, ◌≡◌, ◌∙◌, ap, sym, refl, subst, List, [], ◌∷◌, length, Option, Some, None, Bool, true, false, not, nat_eq, ◌&&◌, slice_index, ◌≤◌, cond, arith}
use Rattle.std.specs.Prelude.{Result, Ok, Err}
use Rattle.san_base.specs.declared.ending.Trap.{Trap}
use Rattle.std.proofs.lemmas.Bool.{eq-eqb, and_parts, and_from}
use Rattle.san_base.proofs.Bools.{or_none, and_false}
use Rattle.san_law.specs.Net.{Done, Faulty, Fresh, Impulse, Local, Renewing, Row, Timer, is_bare, no_timers}
use Rattle.san_law.specs.Lawful.{IsLate}
use Rattle.san_law.specs.Activity.{ActKind, Activity, Answer, Effected, Instant, No, Pair, Part, Timed, Traps, Yes, activity_of, case_stream, completed, delay_stream, done_by}
use Rattle.san_law.specs.Clocks.{AllClocks, BadClock, Clock, Clocks, QuietIsSteady, SteadyIsQuiet, activated, again_by, answers, clock_and, clock_then, delayed_by, has_pair, held_by, kept_by, paired_by, renewed_act, renewed_acts, renewed_row, row_of_clocks, same_list, some_pair, steady, steady_act, timed_by}
use Rattle.san_law.specs.Network.{LeavesAreLawful, Network, part_at}
use Rattle.san_law.proofs.Timers.{AllLate, LateOne, late_timers, timers_late}

-- no activity with a pair has a timer
abbrev free_act : ActKind → Option Timer → Bool
free_act kind None = true
free_act kind (Some t) = not (has_pair kind)

abbrev free_acts : List Activity → List (Option Timer) → Bool
free_acts [] ts = true
free_acts (a ∷ acts) [] = true
free_acts (a ∷ acts) (t ∷ ts) = free_act a.kind t && free_acts acts ts

-- then what was seen doesn't matter
timed_free : (a b v : List ℕ) (delay : ℕ → List ℕ → Result ℕ Trap) (x : Option Timer) (n : ℕ) (pair : Option Pair) (go : Result Clock Trap) (ans : Answer) → free_act (Timed delay pair) x ≡ true → timed_by a v x n pair go ans ≡ timed_by b v x n pair go ans
timed_free a b v delay x n pair go (Traps trap) f = refl
timed_free a b v delay x n pair go No f = refl
timed_free a b v delay None n pair go Yes f = refl
timed_free a b v delay (Some t) n None go Yes f = refl
timed_free a b v delay (Some t) n (Some p) go Yes f = cc

act_free : (draw : ℕ → ℕ) (t : ℕ) (a b v : List ℕ) (act : Activity) (kind : ActKind) (x : Option Timer) (n : ℕ) → free_act kind x ≡ true → renewed_act draw t a v act kind x n ≡ renewed_act draw t b v act kind x n
act_free draw t a b v act (Instant q) x n f = refl
act_free draw t a b v act (Timed delay pair) x n f = timed_free a b v delay x n pair (activated draw t v delay pair n) (act.enabled v) f

acts_free : (draws : ℕ → ℕ → ℕ) (t : ℕ) (a b v : List ℕ) (k : ℕ) (acts : List Activity) (ts : List (Option Timer)) (ns : List ℕ) → free_acts acts ts ≡ true → renewed_acts draws t a v k acts ts ns ≡ renewed_acts draws t b v k acts ts ns
acts_free draws t a b v k [] ts ns f = refl
acts_free draws t a b v k (x ∷ acts) [] ns f = refl
acts_free draws t a b v k (x ∷ acts) (c ∷ ts) [] f = refl
acts_free draws t a b v k (x ∷ acts) (c ∷ ts) (n ∷ ns) f =
    let p = and_parts (free_act x.kind c) (free_acts acts ts) f in
    ap (λ o. clock_then k o (renewed_acts draws t a v (suc k) acts ts ns)) (act_free (draws k) t a b v x x.kind c n p.0)
    ∙ ap (clock_then k (renewed_act (draws k) t b v x x.kind c n)) (acts_free draws t a b v (suc k) acts ts ns p.1)

-- no pair, no timer with one
free_one : (kind : ActKind) (x : Option Timer) → has_pair kind ≡ false → free_act kind x ≡ true
free_one kind None e = refl
free_one kind (Some t) e = ap not e

free_all : (acts : List Activity) (ts : List (Option Timer)) → some_pair acts ≡ false → free_acts acts ts ≡ true
free_all [] ts e = refl
free_all (a ∷ acts) [] e = refl
free_all (a ∷ acts) (t ∷ ts) e = let p = or_none (has_pair a.kind) (some_pair acts) e in and_from (free_act a.kind t) (free_acts acts ts) (free_one a.kind t p.0) (free_all acts ts p.1)

free_bare : (acts : List Activity) (ts : List (Option Timer)) → no_timers ts ≡ true → free_acts acts ts ≡ true
free_bare [] ts e = refl
free_bare (a ∷ acts) [] e = refl
free_bare (a ∷ acts) (None ∷ ts) e = free_bare acts ts e
free_bare (a ∷ acts) (Some t ∷ ts) e = cc

row_free : (draw : ℕ → ℕ → ℕ) (part : Part) (t : ℕ) (a b : List ℕ) (l : Local) → free_acts part.activities l.row.timers ≡ true → renewed_row draw part t a l ≡ renewed_row draw part t b l
row_free draw part t a b l f = ap (row_of_clocks l.row.cases) (acts_free (λ k. draw (delay_stream part k)) t a b l.values 0 part.activities l.row.timers l.row.delays f)

-- what was renewed stays
same_self : (v : List ℕ) → same_list v v ≡ true
same_self [] = refl
same_self (x ∷ v) = and_from (nat_eq x x) (same_list v v) (eq-eqb x x refl) (same_self v)

kept_same : (v : List ℕ) (t : Timer) (n : ℕ) (pair : Option Pair) (go : Result Clock Trap) → kept_by v v t n pair go ≡ Ok (Some t, n)
kept_same v t n None go = refl
kept_same v t n (Some p) go =
    let e : (t.held && not (same_list v v)) ≡ false = ap (λ b. t.held && not b) (same_self v) ∙ and_false t.held in
    ap (λ b. cond b (again_by (p.reactivation v) (Some t, n) go) (Ok (Some t, n))) e

-- renewed at another time, a clock stays
abbrev StaysTimed : (ℕ → ℕ) → ℕ → List ℕ → (ℕ → List ℕ → Result ℕ Trap) → Option Pair → Answer → Result Clock Trap → Type 0
StaysTimed draw u v delay pair ans (Err trap) = Unit {0}
StaysTimed draw u v delay pair ans (Ok y) = timed_by v v y.0 y.1 pair (activated draw u v delay pair y.1) ans ≡ Ok y

abbrev StaysAct : (ℕ → ℕ) → ℕ → List ℕ → Activity → ActKind → Result Clock Trap → Type 0
StaysAct draw u v a kind (Err trap) = Unit {0}
StaysAct draw u v a kind (Ok y) = renewed_act draw u v v a kind y.0 y.1 ≡ Ok y

stays_held : (draw : ℕ → ℕ) (u : ℕ) (v : List ℕ) (delay : ℕ → List ℕ → Result ℕ Trap) (pair : Option Pair) (due n : ℕ) (h : Answer) → StaysTimed draw u v delay pair Yes (held_by due n h)
stays_held draw u v delay pair due n (Traps trap) = tt
stays_held draw u v delay pair due n No = kept_same v (record { due = due; held = false }) (n + 1) pair (activated draw u v delay pair (n + 1))
stays_held draw u v delay pair due n Yes = kept_same v (record { due = due; held = true }) (n + 1) pair (activated draw u v delay pair (n + 1))

stays_paired : (draw : ℕ → ℕ) (u : ℕ) (v : List ℕ) (delay : ℕ → List ℕ → Result ℕ Trap) (pair : Option Pair) (due n : ℕ) (q : Option Pair) → StaysTimed draw u v delay pair Yes (paired_by due n v q)
stays_paired draw u v delay pair due n None = kept_same v (record { due = due; held = false }) (n + 1) pair (activated draw u v delay pair (n + 1))
stays_paired draw u v delay pair due n (Some p) = stays_held draw u v delay pair due n (p.activation v)

stays_delayed : (draw : ℕ → ℕ) (t u : ℕ) (v : List ℕ) (delay : ℕ → List ℕ → Result ℕ Trap) (pair : Option Pair) (n : ℕ) (o : Result ℕ Trap) → StaysTimed draw u v delay pair Yes (delayed_by t n v pair o)
stays_delayed draw t u v delay pair n (Err trap) = tt
stays_delayed draw t u v delay pair n (Ok d) = stays_paired draw u v delay pair (t + d) n pair

stays_again : (draw : ℕ → ℕ) (u : ℕ) (v : List ℕ) (delay : ℕ → List ℕ → Result ℕ Trap) (pair : Option Pair) (t : Timer) (n : ℕ) (go : Result Clock Trap) (h : Answer) → StaysTimed draw u v delay pair Yes go → StaysTimed draw u v delay pair Yes (again_by h (Some t, n) go)
stays_again draw u v delay pair t n go (Traps trap) g = tt
stays_again draw u v delay pair t n go No g = kept_same v t n pair (activated draw u v delay pair n)
stays_again draw u v delay pair t n go Yes g = g

stays_kept : (draw : ℕ → ℕ) (u : ℕ) (a v : List ℕ) (delay : ℕ → List ℕ → Result ℕ Trap) (pair : Option Pair) (t : Timer) (n : ℕ) (go : Result Clock Trap) (q : Option Pair) → StaysTimed draw u v delay pair Yes go → StaysTimed draw u v delay pair Yes (kept_by a v t n q go)
stays_kept draw u a v delay pair t n go None g = kept_same v t n pair (activated draw u v delay pair n)
stays_kept draw u a v delay pair t n go (Some p) g = by_test (t.held && not (same_list a v))
  where
    by_test : (b : Bool) → StaysTimed draw u v delay pair Yes (cond b (again_by (p.reactivation v) (Some t, n) go) (Ok (Some t, n)))
    by_test true = stays_again draw u v delay pair t n go (p.reactivation v) g
    by_test false = kept_same v t n pair (activated draw u v delay pair n)

stays_timed : (draw : ℕ → ℕ) (t u : ℕ) (a v : List ℕ) (delay : ℕ → List ℕ → Result ℕ Trap) (pair : Option Pair) (x : Option Timer) (n : ℕ) (ans : Answer) → StaysTimed draw u v delay pair ans (timed_by a v x n pair (activated draw t v delay pair n) ans)
stays_timed draw t u a v delay pair x n (Traps trap) = tt
stays_timed draw t u a v delay pair x n No = refl
stays_timed draw t u a v delay pair None n Yes = stays_delayed draw t u v delay pair n (delay (draw n) v)
stays_timed draw t u a v delay pair (Some c) n Yes = stays_kept draw u a v delay pair c n (activated draw t v delay pair n) pair (stays_delayed draw t u v delay pair n (delay (draw n) v))

as_act : (draw : ℕ → ℕ) (u : ℕ) (v : List ℕ) (a : Activity) (delay : ℕ → List ℕ → Result ℕ Trap) (pair : Option Pair) (o : Result Clock Trap) → StaysTimed draw u v delay pair (a.enabled v) o → StaysAct draw u v a (Timed delay pair) o
as_act draw u v a delay pair (Err trap) h = tt
as_act draw u v a delay pair (Ok y) h = h

stays_act : (draw : ℕ → ℕ) (t u : ℕ) (b v : List ℕ) (a : Activity) (kind : ActKind) (x : Option Timer) (n : ℕ) → StaysAct draw u v a kind (renewed_act draw t b v a kind x n)
stays_act draw t u b v a (Instant q) x n = refl
stays_act draw t u b v a (Timed delay pair) x n = as_act draw u v a delay pair (timed_by b v x n pair (activated draw t v delay pair n) (a.enabled v)) (stays_timed draw t u b v delay pair x n (a.enabled v))

abbrev StaysAll : (ℕ → ℕ → ℕ) → ℕ → List ℕ → ℕ → List Activity → Clocks → Type 0
StaysAll draws u v k acts (BadClock i trap) = Unit {0}
StaysAll draws u v k acts (AllClocks ts ns) = renewed_acts draws u v v k acts ts ns ≡ AllClocks ts ns

stays_then : (draws : ℕ → ℕ → ℕ) (u : ℕ) (v : List ℕ) (k : ℕ) (a : Activity) (acts : List Activity) (o : Result Clock Trap) (rest : Clocks) → StaysAct (draws k) u v a a.kind o → StaysAll draws u v (suc k) acts rest → StaysAll draws u v k (a ∷ acts) (clock_then k o rest)
stays_then draws u v k a acts (Err trap) rest h g = tt
stays_then draws u v k a acts (Ok y) (BadClock i trap) h g = tt
stays_then draws u v k a acts (Ok y) (AllClocks ts ns) h g = ap (λ o. clock_then k o (renewed_acts draws u v v (suc k) acts ts ns)) h ∙ ap (clock_and y) g

stays_all : (draws : ℕ → ℕ → ℕ) (t u : ℕ) (b v : List ℕ) (k : ℕ) (acts : List Activity) (ts : List (Option Timer)) (ns : List ℕ) → StaysAll draws u v k acts (renewed_acts draws t b v k acts ts ns)
stays_all draws t u b v k [] ts ns = refl
stays_all draws t u b v k (a ∷ acts) [] ns = refl
stays_all draws t u b v k (a ∷ acts) (c ∷ ts) [] = refl
stays_all draws t u b v k (a ∷ acts) (c ∷ ts) (n ∷ ns) = stays_then draws u v k a acts (renewed_act (draws k) t b v a a.kind c n) (renewed_acts draws t b v (suc k) acts ts ns)
    (stays_act (draws k) t u b v a a.kind c n) (stays_all draws t u b v (suc k) acts ts ns)

abbrev StaysRow : (ℕ → ℕ → ℕ) → Part → ℕ → List ℕ → Renewing → Type 0
StaysRow draw part u v (Faulty k trap) = Unit {0}
StaysRow draw part u v (Fresh r) = renewed_row draw part u v (record { values = v; row = r }) ≡ Fresh r

stays_row : (draw : ℕ → ℕ → ℕ) (part : Part) (u : ℕ) (v cases : List ℕ) (x : Clocks) → StaysAll (λ k. draw (delay_stream part k)) u v 0 part.activities x → StaysRow draw part u v (row_of_clocks cases x)
stays_row draw part u v cases (BadClock k trap) h = tt
stays_row draw part u v cases (AllClocks ts ns) h = ap (row_of_clocks cases) h

pub again : (draw : ℕ → ℕ → ℕ) (part : Part) (t u : ℕ) (a : List ℕ) (l : Local) (r : Row) → renewed_row draw part t a l ≡ Fresh r → renewed_row draw part u l.values (record { values = l.values; row = r }) ≡ Fresh r
again draw part t u a l r e = subst (StaysRow draw part u l.values) e (stays_row draw part u l.values l.row.cases (renewed_acts (λ k. draw (delay_stream part k)) t a l.values 0 part.activities l.row.timers l.row.delays) (stays_all (λ k. draw (delay_stream part k)) t u a l.values 0 part.activities l.row.timers l.row.delays))

-- a steady row is quiet, and a quiet one is steady
steady_timed : (v : List ℕ) (x : Option Timer) (n : ℕ) (pair : Option Pair) (go : Result Clock Trap) (ans : Answer) → answers ans x ≡ true → timed_by v v x n pair go ans ≡ Ok (x, n)
steady_timed v x n pair go (Traps trap) e = cc
steady_timed v None n pair go No e = refl
steady_timed v (Some t) n pair go No e = cc
steady_timed v None n pair go Yes e = cc
steady_timed v (Some t) n pair go Yes e = kept_same v t n pair go

steady_one : (draw : ℕ → ℕ) (t : ℕ) (v : List ℕ) (a : Activity) (kind : ActKind) (x : Option Timer) (n : ℕ) → steady_act v a kind x ≡ true → renewed_act draw t v v a kind x n ≡ Ok (x, n)
steady_one draw t v a (Instant q) x n e = refl
steady_one draw t v a (Timed delay pair) x n e = steady_timed v x n pair (activated draw t v delay pair n) (a.enabled v) e

steady_all : (draws : ℕ → ℕ → ℕ) (t : ℕ) (v : List ℕ) (k : ℕ) (acts : List Activity) (ts : List (Option Timer)) (ns : List ℕ) → steady v acts ts ns ≡ true → renewed_acts draws t v v k acts ts ns ≡ AllClocks ts ns
steady_all draws t v k [] ts ns e = refl
steady_all draws t v k (a ∷ acts) [] ns e = refl
steady_all draws t v k (a ∷ acts) (c ∷ ts) [] e = refl
steady_all draws t v k (a ∷ acts) (c ∷ ts) (n ∷ ns) e =
    let p = and_parts (steady_act v a a.kind c) (steady v acts ts ns) e in
    ap (λ o. clock_then k o (renewed_acts draws t v v (suc k) acts ts ns)) (steady_one (draws k) t v a a.kind c n p.0) ∙ ap (clock_and (c, n)) (steady_all draws t v (suc k) acts ts ns p.1)

pub steady_is_quiet : (part : Part) → SteadyIsQuiet part
steady_is_quiet part draw values r e t = ap (row_of_clocks r.cases) (steady_all (λ k. draw (delay_stream part k)) t values 0 part.activities r.timers r.delays e)

abbrev timer_in : Result Clock Trap → Option Timer
timer_in (Err trap) = None
timer_in (Ok y) = y.0

none_apart : (t : Timer) → Some t ≡ None → ⊥
none_apart t e = cc

held_some : (due n m : ℕ) (h : Answer) → held_by due n h ≡ Ok (None, m) → ⊥
held_some due n m (Traps trap) e = cc
held_some due n m No e = let f = ap timer_in e in none_apart _ f
held_some due n m Yes e = let f = ap timer_in e in none_apart _ f

paired_some : (due n m : ℕ) (v : List ℕ) (pair : Option Pair) → paired_by due n v pair ≡ Ok (None, m) → ⊥
paired_some due n m v None e = let f = ap timer_in e in none_apart _ f
paired_some due n m v (Some p) e = held_some due n m (p.activation v) e

delayed_some : (time n m : ℕ) (v : List ℕ) (pair : Option Pair) (o : Result ℕ Trap) → delayed_by time n v pair o ≡ Ok (None, m) → ⊥
delayed_some time n m v pair (Err trap) e = cc
delayed_some time n m v pair (Ok d) e = paired_some (time + d) n m v pair e

quiet_timed : (draw : ℕ → ℕ) (t : ℕ) (a v : List ℕ) (delay : ℕ → List ℕ → Result ℕ Trap) (x : Option Timer) (n : ℕ) (pair : Option Pair) (ans : Answer) → timed_by a v x n pair (activated draw t v delay pair n) ans ≡ Ok (x, n) → answers ans x ≡ true
quiet_timed draw t a v delay x n pair (Traps trap) e = cc
quiet_timed draw t a v delay None n pair No e = refl
quiet_timed draw t a v delay (Some c) n pair No e = absurd (none_apart c (sym (ap timer_in e)))
quiet_timed draw t a v delay None n pair Yes e = absurd (delayed_some t n n v pair (delay (draw n) v) e)
quiet_timed draw t a v delay (Some c) n pair Yes e = refl

quiet_one : (draw : ℕ → ℕ) (t : ℕ) (b v : List ℕ) (a : Activity) (kind : ActKind) (x : Option Timer) (n : ℕ) → renewed_act draw t b v a kind x n ≡ Ok (x, n) → steady_act v a kind x ≡ true
quiet_one draw t b v a (Instant q) x n e = refl
quiet_one draw t b v a (Timed delay pair) x n e = quiet_timed draw t b v delay x n pair (a.enabled v) e

abbrev first_timer : Clocks → Option Timer
first_timer (AllClocks (x ∷ xs) ns) = x
first_timer (AllClocks [] ns) = None
first_timer (BadClock k trap) = None

abbrev first_number : Clocks → ℕ
first_number (AllClocks ts (n ∷ ns)) = n
first_number (AllClocks ts []) = 0
first_number (BadClock k trap) = 0

abbrev later : Clocks → Clocks
later (AllClocks (x ∷ xs) (n ∷ ns)) = AllClocks xs ns
later (AllClocks [] ns) = AllClocks [] []
later (AllClocks (x ∷ xs) []) = AllClocks [] []
later (BadClock k trap) = AllClocks [] []

pub record Both (o : Result Clock Trap) (rest : Clocks) (c : Option Timer) (n : ℕ) (ts : List (Option Timer)) (ns : List ℕ) : Type 0 where
  pub one : o ≡ Ok (c, n)
  pub all : rest ≡ AllClocks ts ns

both : (k : ℕ) (o : Result Clock Trap) (rest : Clocks) (c : Option Timer) (n : ℕ) (ts : List (Option Timer)) (ns : List ℕ) → clock_then k o rest ≡ AllClocks (c ∷ ts) (n ∷ ns) → Both o rest c n ts ns
both k (Err trap) rest c n ts ns e = cc
both k (Ok y) (BadClock i trap) c n ts ns e = cc
both k (Ok y) (AllClocks us ms) c n ts ns e = record { one = ap (λ (z : Option Timer). Ok (z, y.1)) (ap first_timer e) ∙ ap (λ m. Ok (c, m)) (ap first_number e); all = ap later e }

quiet_all : (draws : ℕ → ℕ → ℕ) (t : ℕ) (b v : List ℕ) (k : ℕ) (acts : List Activity) (ts : List (Option Timer)) (ns : List ℕ) → renewed_acts draws t b v k acts ts ns ≡ AllClocks ts ns → steady v acts ts ns ≡ true
quiet_all draws t b v k [] ts ns e = refl
quiet_all draws t b v k (a ∷ acts) [] ns e = refl
quiet_all draws t b v k (a ∷ acts) (c ∷ ts) [] e = refl
quiet_all draws t b v k (a ∷ acts) (c ∷ ts) (n ∷ ns) e =
    let p = both k (renewed_act (draws k) t b v a a.kind c n) (renewed_acts draws t b v (suc k) acts ts ns) c n ts ns e in
    and_from (steady_act v a a.kind c) (steady v acts ts ns) (quiet_one (draws k) t b v a a.kind c n p.one) (quiet_all draws t b v (suc k) acts ts ns p.all)

clocks_of : (cases : List ℕ) (x : Clocks) (r : Row) → row_of_clocks cases x ≡ Fresh r → x ≡ AllClocks r.timers r.delays
clocks_of cases (BadClock k trap) r e = cc
clocks_of cases (AllClocks ts ns) r e = subst IsOf e refl
  where
    IsOf : Renewing → Type 0
    IsOf (Faulty k trap) = Unit {0}
    IsOf (Fresh q) = AllClocks ts ns ≡ AllClocks q.timers q.delays

pub quiet_is_steady : (part : Part) → QuietIsSteady part
quiet_is_steady part draw values seen r t e = quiet_all (λ k. draw (delay_stream part k)) t seen values 0 part.activities r.timers r.delays (clocks_of r.cases (renewed_acts (λ k. draw (delay_stream part k)) t seen values 0 part.activities r.timers r.delays) r e)

abbrev LateClock : ℕ → Result Clock Trap → Type 0
LateClock t (Err trap) = Unit {0}
LateClock t (Ok y) = LateOne t y.0

abbrev LateClocks : ℕ → Clocks → Type 0
LateClocks t (BadClock k trap) = Unit {0}
LateClocks t (AllClocks ts ns) = AllLate t ts

late_held : (t due n : ℕ) (h : Answer) → t ≤ due → LateClock t (held_by due n h)
late_held t due n (Traps trap) l = tt
late_held t due n No l = l
late_held t due n Yes l = l

late_paired : (t due n : ℕ) (v : List ℕ) (pair : Option Pair) → t ≤ due → LateClock t (paired_by due n v pair)
late_paired t due n v None l = l
late_paired t due n v (Some p) l = late_held t due n (p.activation v) l

late_delayed : (t n : ℕ) (v : List ℕ) (pair : Option Pair) (o : Result ℕ Trap) → LateClock t (delayed_by t n v pair o)
late_delayed t n v pair (Err trap) = tt
late_delayed t n v pair (Ok d) = late_paired t (t + d) n v pair (omega arith)

late_again : (t : ℕ) (h : Answer) (y : Clock) (go : Result Clock Trap) → LateOne t y.0 → LateClock t go → LateClock t (again_by h y go)
late_again t (Traps trap) y go a b = tt
late_again t No y go a b = a
late_again t Yes y go a b = b

late_kept : (t : ℕ) (a v : List ℕ) (c : Timer) (n : ℕ) (pair : Option Pair) (go : Result Clock Trap) → t ≤ c.due → LateClock t go → LateClock t (kept_by a v c n pair go)
late_kept t a v c n None go l g = l
late_kept t a v c n (Some p) go l g = by_test (c.held && not (same_list a v))
  where
    by_test : (b : Bool) → LateClock t (cond b (again_by (p.reactivation v) (Some c, n) go) (Ok (Some c, n)))
    by_test true = late_again t (p.reactivation v) (Some c, n) go l g
    by_test false = l

late_timed : (t : ℕ) (a v : List ℕ) (x : Option Timer) (n : ℕ) (pair : Option Pair) (go : Result Clock Trap) (ans : Answer) → LateOne t x → LateClock t go → LateClock t (timed_by a v x n pair go ans)
late_timed t a v x n pair go (Traps trap) l g = tt
late_timed t a v x n pair go No l g = tt
late_timed t a v None n pair go Yes l g = g
late_timed t a v (Some c) n pair go Yes l g = late_kept t a v c n pair go l g

late_act : (draw : ℕ → ℕ) (t : ℕ) (a v : List ℕ) (act : Activity) (kind : ActKind) (x : Option Timer) (n : ℕ) → LateOne t x → LateClock t (renewed_act draw t a v act kind x n)
late_act draw t a v act (Instant q) x n l = l
late_act draw t a v act (Timed delay pair) x n l = late_timed t a v x n pair (activated draw t v delay pair n) (act.enabled v) l (late_delayed t n v pair (delay (draw n) v))

late_then : (t k : ℕ) (o : Result Clock Trap) (rest : Clocks) → LateClock t o → LateClocks t rest → LateClocks t (clock_then k o rest)
late_then t k (Err trap) rest a b = tt
late_then t k (Ok y) (BadClock i trap) a b = tt
late_then t k (Ok y) (AllClocks ts ns) a b = (a, b)

late_acts : (draws : ℕ → ℕ → ℕ) (t : ℕ) (a v : List ℕ) (k : ℕ) (acts : List Activity) (ts : List (Option Timer)) (ns : List ℕ) → AllLate t ts → LateClocks t (renewed_acts draws t a v k acts ts ns)
late_acts draws t a v k [] ts ns l = l
late_acts draws t a v k (x ∷ acts) [] ns l = l
late_acts draws t a v k (x ∷ acts) (c ∷ ts) [] l = l
late_acts draws t a v k (x ∷ acts) (c ∷ ts) (n ∷ ns) l = late_then t k (renewed_act (draws k) t a v x x.kind c n) (renewed_acts draws t a v (suc k) acts ts ns) (late_act (draws k) t a v x x.kind c n l.0) (late_acts draws t a v (suc k) acts ts ns l.1)

late_row : (t : ℕ) (cases : List ℕ) (r : Row) (x : Clocks) → row_of_clocks cases x ≡ Fresh r → LateClocks t x → AllLate t r.timers
late_row t cases r x e l = subst (LateClocks t) (clocks_of cases x r e) l

renewed_late : (draw : ℕ → ℕ → ℕ) (part : Part) (t : ℕ) (a : List ℕ) (l : Local) (r : Row) → renewed_row draw part t a l ≡ Fresh r → IsLate t l.row → IsLate t r
renewed_late draw part t a l r e h =
    let draws : ℕ → ℕ → ℕ = λ k. draw (delay_stream part k) in
    timers_late t r (late_row t l.row.cases r (renewed_acts draws t a l.values 0 part.activities l.row.timers l.row.delays) e (late_acts draws t a l.values 0 part.activities l.row.timers l.row.delays (late_timers t l.row h)))

-- a completion changes no timer
pub record DoneKeeps (r : Row) (a : Activity) (d : Done) (e : Effected) : Type 0 where
  pub values : d.left.values ≡ e.values
  pub sets : d.sets ≡ e.sets
  pub timers : d.left.row.timers ≡ r.timers
  pub impulses : d.impulses ≡ a.impulses e.values

abbrev AllKept : Row → Activity → Result Effected Trap → Result Done Trap → Type 0
AllKept r a o (Err trap) = Unit {0}
AllKept r a o (Ok d) = (e : Effected) × (o ≡ Ok e) × DoneKeeps r a d e

done_keeps : (r : Row) (k : ℕ) (a : Activity) (o : Result Effected Trap) → AllKept r a o (done_by r k a o)
done_keeps r k a (Err trap) = tt
done_keeps r k a (Ok e) = (e, refl, record { values = refl; sets = refl; timers = refl; impulses = refl })

pub bare_timers : (r : Row) → is_bare r ≡ true → no_timers r.timers ≡ true
unfolding is_bare
bare_timers r e = e

pub leaves_are_lawful : (network : Network) → LeavesAreLawful network
leaves_are_lawful network made draw limits = record {
  keeps = λ j k l d e. let h = of_done j k l d e in ap length h.2.values ∙ (made j k).keeps _ l.values h.0 h.1;
  sets = λ j k l d e p o. let h = of_done j k l d e in ap (λ vs. slice_index vs p) h.2.values ∙ (made j k).sets _ l.values h.0 h.1 p (ap (λ f. f p) (sym h.2.sets) ∙ o);
  timers = λ j k l d e. (of_done j k l d e).2.timers;
  few = λ j k l d e. let h = of_done j k l d e in subst (λ (xs : List Impulse). length xs ≤ 1024) (sym h.2.impulses) ((made j k).few h.0.values);
  bare = λ j t a b l f. row_free draw (part_at network j) t a b l (free_bare (part_at network j).activities l.row.timers (bare_timers l.row f));
  unpaired = λ j t a b l e. row_free draw (part_at network j) t a b l (free_all (part_at network j).activities l.row.timers e);
  renewed_late = λ j t a l r e h. renewed_late draw (part_at network j) t a l r e h;
  again = λ j t u a l r e. again draw (part_at network j) t u a l r e;
}
  where
    outcome : (j k : ℕ) (l : Local) → Result Effected Trap
    outcome j k l = (activity_of (part_at network j) k).complete (draw (case_stream (part_at network j) k) (slice_index l.row.cases k)) l.values

    of_done : (j k : ℕ) (l : Local) (d : Done) → completed draw (part_at network j) k l ≡ Ok d → AllKept l.row (activity_of (part_at network j) k) (outcome j k l) (Ok d)
    of_done j k l d e = subst (AllKept l.row (activity_of (part_at network j) k) (outcome j k l)) e (done_keeps l.row k (activity_of (part_at network j) k) (outcome j k l))
