-- A leaf's row in a run: a timer and two numbers of draws for each activity, timers at timed activities alone.
use Rattle.std.proofs.Common.{ℕ, zero, suc, ◌+◌, ◌≤◌, ◌≡◌, ◌∙◌, ◌&&◌, ap, refl, subst, All, List, [], ◌∷◌, length, Option, Some, None, Bool, true, false, not, arith, cond}
use Rattle.std.specs.Prelude.{Result, Ok, Err, slice_get, slice_index, slice_set}
use Rattle.std.proofs.lemmas.List.{length-set}
use Rattle.san_base.specs.declared.ending.Trap.{Trap}
use Rattle.san_law.specs.Activity as leaf
use Rattle.san_law.specs.Activity.{Answer, No, Pair, Traps, Yes, with_case}
use Rattle.san_law.specs.Clocks.{AllClocks, BadClock, Clock, Clocks, again_by, clock_then, delayed_by, held_by, kept_by, paired_by, renewed_act, renewed_acts, renewed_row, row_of_clocks, same_list, timed_by}
use Rattle.san_law.specs.Net.{Faulty, Fresh, Local, Renewing, Row, Timer, no_row, without_timer}
use Rattle.san_law.specs.State.{blank_row, repeated}
use Rattle.san_expr.specs.Delay.{delay_of}
use Rattle.san_expr.specs.declared.dist.Dist.{Dist}
use Rattle.san_expr.specs.declared.expr.Expr.{Expr}
use Rattle.san_leaf.specs.Fits.{IsTimed}
use Rattle.san_net.specs.Instants.{Named}
use Rattle.san_net.specs.Leaf.{activities_from, activity_in, kind_in, leaf_of, pair_in}
use Rattle.san_net.specs.declared.activity.ActKind.{ActKind}
use Rattle.san_net.specs.declared.activity.ActKind.TheVariants as kind
use Rattle.san_net.specs.declared.atomic.ImpulseTerm.{ImpulseTerm}
use Rattle.san_net.specs.declared.part.Part.{Part}
use Rattle.san_core.proofs.Suiting.{of_none}
use Rattle.san_reward.proofs.Making.{with_first}

-- a timer stands at a timed activity
abbrev pub TimerFits : ActKind → Option Timer → Type 0
TimerFits k None = Unit {0}
TimerFits k (Some t) = IsTimed k

-- a timer and a number of delay draws up to d for each activity
abbrev pub AllFit : ℕ → List Named → List (Option Timer) → List ℕ → Type 0
AllFit d [] [] [] = Unit {0}
AllFit d [] [] (n ∷ ns) = ⊥
AllFit d [] (t ∷ ts) ns = ⊥
AllFit d (a ∷ acts) [] ns = ⊥
AllFit d (a ∷ acts) (t ∷ ts) [] = ⊥
AllFit d (a ∷ acts) (t ∷ ts) (n ∷ ns) = TimerFits a.1.kind t × (n ≤ d) × AllFit d acts ts ns

-- and a number of case draws up to c
pub record RowFits (d c : ℕ) (acts : List Named) (r : Row) : Type 0 where
  pub clocks : AllFit d acts r.timers r.delays
  pub cases : length r.cases ≡ length acts
  pub counted : All (λ n. n ≤ c) r.cases

all_later : (d e : ℕ) (acts : List Named) (ts : List (Option Timer)) (ns : List ℕ) → d ≤ e → AllFit d acts ts ns → AllFit e acts ts ns
all_later d e [] [] [] l h = tt
all_later d e [] [] (n ∷ ns) l h = absurd h
all_later d e [] (t ∷ ts) ns l h = absurd h
all_later d e (a ∷ acts) [] ns l h = absurd h
all_later d e (a ∷ acts) (t ∷ ts) [] l h = absurd h
all_later d e (a ∷ acts) (t ∷ ts) (n ∷ ns) l h = (h.0, omega (arith, h.1, l), all_later d e acts ts ns l h.2)

pub row_later : (d e b c : ℕ) (acts : List Named) (r : Row) → d ≤ e → b ≤ c → RowFits d b acts r → RowFits e c acts r
row_later d e b c acts r l m h = record {
  clocks = all_later d e acts r.timers r.delays l h.clocks;
  cases = h.cases;
  counted = λ k n lt. let x = h.counted k n lt in omega (arith, x, m);
}

-- a renewal
abbrev NumberFits : ℕ → Result Clock Trap → Type 0
NumberFits d (Err trap) = Unit {0}
NumberFits d (Ok x) = x.1 ≤ d

held_number : (d due n : ℕ) (a : Answer) → n ≤ d → NumberFits (suc d) (held_by due n a)
held_number d due n (Traps trap) l = tt
held_number d due n No l = omega (arith, l)
held_number d due n Yes l = omega (arith, l)

paired_number : (d due n : ℕ) (v : List ℕ) (p : Option Pair) → n ≤ d → NumberFits (suc d) (paired_by due n v p)
paired_number d due n v None l = omega (arith, l)
paired_number d due n v (Some p) l = held_number d due n (p.activation v) l

delayed_number : (d time n : ℕ) (v : List ℕ) (p : Option Pair) (r : Result ℕ Trap) → n ≤ d → NumberFits (suc d) (delayed_by time n v p r)
delayed_number d time n v p (Err trap) l = tt
delayed_number d time n v p (Ok delay) l = paired_number d (time + delay) n v p l

again_number : (d : ℕ) (a : Answer) (x : Clock) (go : Result Clock Trap) → x.1 ≤ d → NumberFits (suc d) go → NumberFits (suc d) (again_by a x go)
again_number d (Traps trap) x go l h = tt
again_number d No x go l h = omega (arith, l)
again_number d Yes x go l h = h

kept_number : (d : ℕ) (seen v : List ℕ) (t : Timer) (n : ℕ) (p : Option Pair) (go : Result Clock Trap) → n ≤ d → NumberFits (suc d) go → NumberFits (suc d) (kept_by seen v t n p go)
kept_number d seen v t n None go l h = omega (arith, l)
kept_number d seen v t n (Some p) go l h = by_test (t.held && not (same_list seen v))
  where
    by_test : (b : Bool) → NumberFits (suc d) (cond b (again_by (p.reactivation v) (Some t, n) go) (Ok (Some t, n)))
    by_test true = again_number d (p.reactivation v) (Some t, n) go l h
    by_test false = omega (arith, l)

timed_number : (d : ℕ) (seen v : List ℕ) (x : Option Timer) (n : ℕ) (p : Option Pair) (go : Result Clock Trap) (a : Answer) → n ≤ d → NumberFits (suc d) go → NumberFits (suc d) (timed_by seen v x n p go a)
timed_number d seen v x n p go (Traps trap) l h = tt
timed_number d seen v x n p go No l h = omega (arith, l)
timed_number d seen v None n p go Yes l h = h
timed_number d seen v (Some t) n p go Yes l h = kept_number d seen v t n p go l h

abbrev ClockFits : ActKind → ℕ → Result Clock Trap → Type 0
ClockFits k d (Err trap) = Unit {0}
ClockFits k d (Ok x) = TimerFits k x.0 × (x.1 ≤ d)

any_timer : (delay : Dist) (pair : Option (Expr × Expr)) (t : Option Timer) → TimerFits (kind.Timed delay pair) t
any_timer delay pair None = tt
any_timer delay pair (Some t) = tt

timed_fits : (delay : Dist) (pair : Option (Expr × Expr)) (d : ℕ) (r : Result Clock Trap) → NumberFits d r → ClockFits (kind.Timed delay pair) d r
timed_fits delay pair d (Err trap) h = tt
timed_fits delay pair d (Ok x) h = (any_timer delay pair x.0, h)

act_fits : (draw : ℕ → ℕ) (time d : ℕ) (seen v : List ℕ) (a : leaf.Activity) (k : ActKind) (t : Option Timer) (n : ℕ) → TimerFits k t → n ≤ d → ClockFits k (suc d) (renewed_act draw time seen v a (kind_in k) t n)
act_fits draw time d seen v a (kind.Instant priority) t n h l = (h, omega (arith, l))
act_fits draw time d seen v a (kind.Timed delay pair) t n h l =
    let r : Result ℕ Trap = (delay_of delay (draw n) v).answer in
    timed_fits delay pair (suc d) (renewed_act draw time seen v a (kind_in (kind.Timed delay pair)) t n) (timed_number d seen v t n (pair_in pair) (delayed_by time n v (pair_in pair) r) (a.enabled v) l (delayed_number d time n v (pair_in pair) r l))

abbrev ClocksFit : ℕ → List Named → Clocks → Type 0
ClocksFit d acts (BadClock k trap) = Unit {0}
ClocksFit d acts (AllClocks ts ns) = AllFit d acts ts ns

then_fits : (d k : ℕ) (a : Named) (acts : List Named) (r : Result Clock Trap) (rest : Clocks) → ClockFits a.1.kind d r → ClocksFit d acts rest → ClocksFit d (a ∷ acts) (clock_then k r rest)
then_fits d k a acts (Err trap) rest h all = tt
then_fits d k a acts (Ok x) (BadClock i trap) h all = tt
then_fits d k a acts (Ok x) (AllClocks ts ns) h all = (h.0, h.1, all)

acts_fit : (draws : ℕ → ℕ → ℕ) (time d : ℕ) (seen v : List ℕ) (terms : List ImpulseTerm) (k : ℕ) (acts : List Named) (ts : List (Option Timer)) (ns : List ℕ) → AllFit d acts ts ns → ClocksFit (suc d) acts (renewed_acts draws time seen v k (activities_from terms k acts) ts ns)
acts_fit draws time d seen v terms k [] [] [] h = tt
acts_fit draws time d seen v terms k [] [] (n ∷ ns) h = absurd h
acts_fit draws time d seen v terms k [] (t ∷ ts) ns h = absurd h
acts_fit draws time d seen v terms k (a ∷ acts) [] ns h = absurd h
acts_fit draws time d seen v terms k (a ∷ acts) (t ∷ ts) [] h = absurd h
acts_fit draws time d seen v terms k (a ∷ acts) (t ∷ ts) (n ∷ ns) h =
    then_fits (suc d) k a acts (renewed_act (draws k) time seen v (activity_in terms k a.1) (kind_in a.1.kind) t n) (renewed_acts draws time seen v (suc k) (activities_from terms (suc k) acts) ts ns)
    (act_fits (draws k) time d seen v (activity_in terms k a.1) a.1.kind t n h.0 h.1) (acts_fit draws time d seen v terms (suc k) acts ts ns h.2)

abbrev row_left : Renewing → Row
row_left (Fresh r) = r
row_left (Faulty k trap) = no_row

fresh_fits : (d c : ℕ) (acts : List Named) (cases : List ℕ) (x : Clocks) (r : Row) → row_of_clocks cases x ≡ Fresh r → ClocksFit d acts x → length cases ≡ length acts → All (λ n. n ≤ c) cases → RowFits d c acts r
fresh_fits d c acts cases (BadClock k trap) r is h long all = absurd cc
fresh_fits d c acts cases (AllClocks ts ns) r is h long all = subst (RowFits d c acts) (ap row_left is) (record { clocks = h; cases = long; counted = all })

pub renewed_fits : (draw : ℕ → ℕ → ℕ) (p : Part) (time d c : ℕ) (seen : List ℕ) (l : Local) (r : Row) → renewed_row draw (leaf_of p) time seen l ≡ Fresh r → RowFits d c p.atomic.acts l.row → RowFits (suc d) c p.atomic.acts r
renewed_fits draw p time d c seen l r is h =
    let draws : ℕ → ℕ → ℕ = λ k. draw (leaf.delay_stream (leaf_of p) k) in
    fresh_fits (suc d) c p.atomic.acts l.row.cases (renewed_acts draws time seen l.values 0 (activities_from p.atomic.impulses 0 p.atomic.acts) l.row.timers l.row.delays) r is
    (acts_fit draws time d seen l.values p.atomic.impulses 0 p.atomic.acts l.row.timers l.row.delays h.clocks) h.cases h.counted

-- a completion
cases_set : (c : ℕ) (ns : List ℕ) (k : ℕ) → All (λ n. n ≤ c) ns → All (λ n. n ≤ suc c) (slice_set ns k (slice_index ns k + 1))
cases_set c [] k h = of_none (λ n. n ≤ suc c)
cases_set c (n ∷ ns) zero h = with_first (λ n. n ≤ suc c) (n + 1) ns (let x = h 0 n (omega arith) in omega (arith, x)) (λ i m l. let x = h (suc i) m (omega (arith, l)) in omega (arith, x))
cases_set c (n ∷ ns) (suc k) h = with_first (λ n. n ≤ suc c) n (slice_set ns k (slice_index ns k + 1)) (let x = h 0 n (omega arith) in omega (arith, x)) (cases_set c ns k (λ i m l. h (suc i) m (omega (arith, l))))

pub counted_fits : (d c k : ℕ) (acts : List Named) (r : Row) → RowFits d c acts r → RowFits d (suc c) acts (with_case r k)
counted_fits d c k acts r h = record {
  clocks = h.clocks;
  cases = length-set r.cases k (slice_index r.cases k + 1) ∙ h.cases;
  counted = cases_set c r.cases k h.counted;
}

-- a timer that goes
dropped_all : (d k : ℕ) (acts : List Named) (ts : List (Option Timer)) (ns : List ℕ) → AllFit d acts ts ns → AllFit d acts (slice_set ts k None) ns
dropped_all d k [] [] ns h = h
dropped_all d k [] (t ∷ ts) ns h = absurd h
dropped_all d k (a ∷ acts) [] ns h = absurd h
dropped_all d k (a ∷ acts) (t ∷ ts) [] h = absurd h
dropped_all d zero (a ∷ acts) (t ∷ ts) (n ∷ ns) h = (tt, h.1, h.2)
dropped_all d (suc k) (a ∷ acts) (t ∷ ts) (n ∷ ns) h = (h.0, h.1, dropped_all d k acts ts ns h.2)

pub dropped_fits : (d c k : ℕ) (acts : List Named) (r : Row) → RowFits d c acts r → RowFits d c acts (without_timer r k)
unfolding without_timer
dropped_fits d c k acts r h = record { clocks = dropped_all d k acts r.timers r.delays h.clocks; cases = h.cases; counted = h.counted }

-- the first
blank_all : (acts : List Named) → AllFit 0 acts (repeated (length acts) None) (repeated (length acts) 0)
blank_all [] = tt
blank_all (a ∷ acts) = (tt, omega arith, blank_all acts)

repeated_long : (n : ℕ) → length (repeated {A = ℕ} n 0) ≡ n
repeated_long zero = refl
repeated_long (suc n) = ap suc (repeated_long n)

repeated_few : (n : ℕ) → All (λ (k : ℕ). k ≤ 0) (repeated {A = ℕ} n 0)
repeated_few zero = of_none (λ (k : ℕ). k ≤ 0)
repeated_few (suc n) = with_first (λ (k : ℕ). k ≤ 0) 0 (repeated {A = ℕ} n 0) (omega arith) (repeated_few n)

pub blank_fits : (acts : List Named) → RowFits 0 0 acts (blank_row (length acts))
blank_fits acts = record { clocks = blank_all acts; cases = repeated_long (length acts); counted = repeated_few (length acts) }

-- what fits, list by list
timers_long : (d : ℕ) (acts : List Named) (ts : List (Option Timer)) (ns : List ℕ) → AllFit d acts ts ns → (length ts ≡ length acts) × (length ns ≡ length acts)
timers_long d [] [] [] h = (refl, refl)
timers_long d [] [] (n ∷ ns) h = absurd h
timers_long d [] (t ∷ ts) ns h = absurd h
timers_long d (a ∷ acts) [] ns h = absurd h
timers_long d (a ∷ acts) (t ∷ ts) [] h = absurd h
timers_long d (a ∷ acts) (t ∷ ts) (n ∷ ns) h = let x = timers_long d acts ts ns h.2 in (ap suc x.0, ap suc x.1)

delays_few : (d : ℕ) (acts : List Named) (ts : List (Option Timer)) (ns : List ℕ) → AllFit d acts ts ns → All (λ n. n ≤ d) ns
delays_few d [] [] [] h = of_none (λ n. n ≤ d)
delays_few d [] [] (n ∷ ns) h = absurd h
delays_few d [] (t ∷ ts) ns h = absurd h
delays_few d (a ∷ acts) [] ns h = absurd h
delays_few d (a ∷ acts) (t ∷ ts) [] h = absurd h
delays_few d (a ∷ acts) (t ∷ ts) (n ∷ ns) h = with_first (λ n. n ≤ d) n ns h.1 (delays_few d acts ts ns h.2)

timer_timed : (k : ActKind) (x : Option Timer) (t : Timer) → x ≡ Some t → TimerFits k x → IsTimed k
timer_timed k None t is h = absurd cc
timer_timed k (Some u) t is h = h

abbrev some_or : Option (Option Timer) → Option Timer
some_or None = None
some_or (Some x) = x

abbrev named_or : Named → Option Named → Named
named_or a None = a
named_or a (Some b) = b

timed_at : (d : ℕ) (acts : List Named) (ts : List (Option Timer)) (ns : List ℕ) → AllFit d acts ts ns → (k : ℕ) (t : Timer) → slice_get ts k ≡ Some (Some t) → (a : Named) × (slice_get acts k ≡ Some a) × IsTimed a.1.kind
timed_at d [] [] [] h k t is = absurd cc
timed_at d [] [] (n ∷ ns) h k t is = absurd h
timed_at d [] (u ∷ ts) ns h k t is = absurd h
timed_at d (a ∷ acts) [] ns h k t is = absurd cc
timed_at d (a ∷ acts) (u ∷ ts) [] h k t is = absurd h
timed_at d (a ∷ acts) (u ∷ ts) (n ∷ ns) h zero t is = (a, refl, timer_timed a.1.kind u t (ap some_or is) h.0)
timed_at d (a ∷ acts) (u ∷ ts) (n ∷ ns) h (suc k) t is = timed_at d acts ts ns h.2 k t is

pub record Listed (d c : ℕ) (acts : List Named) (r : Row) : Type 0 where
  pub timers : length r.timers ≡ length acts
  pub delays : length r.delays ≡ length acts
  pub cases : length r.cases ≡ length acts
  pub few : All (λ n. n ≤ d) r.delays
  pub counted : All (λ n. n ≤ c) r.cases
  pub timed : (k : ℕ) (t : Timer) → slice_get r.timers k ≡ Some (Some t) → (a : Named) × (slice_get acts k ≡ Some a) × IsTimed a.1.kind

pub listed : (d c : ℕ) (acts : List Named) (r : Row) → RowFits d c acts r → Listed d c acts r
listed d c acts r h = record {
  timers = (timers_long d acts r.timers r.delays h.clocks).0;
  delays = (timers_long d acts r.timers r.delays h.clocks).1;
  cases = h.cases;
  few = delays_few d acts r.timers r.delays h.clocks;
  counted = h.counted;
  timed = timed_at d acts r.timers r.delays h.clocks;
}
