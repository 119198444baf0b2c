-- A leaf's timers, and the least of them.
use Rattle.std.proofs.Common.{ℕ, zero, suc, ◌≤◌, ◌≡◌, ◌∙◌, ap, sym, refl, subst, List, [], ◌∷◌, Option, Some, None, Bool, true, false, nat_lt, slice_set, cond, arith}
use Rattle.std.proofs.lemmas.Bool.{ltb-true, ltb-false}
use Rattle.san_law.specs.Net.{Row, Timer, is_bare, least_timer, least_timer_from, no_timers, sooner_act, without_timer}
use Rattle.san_law.specs.Lawful.{IsLate}

-- no timer is due before a time
abbrev pub LateOne : ℕ → Option Timer → Type 0
LateOne t None = Unit {0}
LateOne t (Some c) = t ≤ c.due

abbrev pub AllLate : ℕ → List (Option Timer) → Type 0
AllLate t [] = Unit {0}
AllLate t (x ∷ ts) = LateOne t x × AllLate t ts

-- all timers are as late as the least
abbrev LateLeast : ℕ → Option (ℕ × ℕ) → Type 0
LateLeast t None = Unit {0}
LateLeast t (Some x) = t ≤ x.0

pub late_from : (t : ℕ) (o : Option (ℕ × ℕ)) → ((x : ℕ × ℕ) → o ≡ Some x → t ≤ x.0) → LateLeast t o
late_from t None h = tt
late_from t (Some x) h = h x refl

pub late_to : (t : ℕ) (o : Option (ℕ × ℕ)) → LateLeast t o → (x : ℕ × ℕ) → o ≡ Some x → t ≤ x.0
late_to t o l x e = subst (LateLeast t) e l

sooner_late : (t k due : ℕ) (rest : Option (ℕ × ℕ)) → LateLeast t (sooner_act (due, k) rest) → (t ≤ due) × LateLeast t rest
sooner_late t k due None l = (l, tt)
sooner_late t k due (Some e) l = by_test (nat_lt e.0 due) refl l
  where
    by_test : (b : Bool) → nat_lt e.0 due ≡ b → LateLeast t (cond b (Some e) (Some (due, k))) → (t ≤ due) × (t ≤ e.0)
    by_test true q l = let h = ltb-true e.0 due q in (omega (arith, h, l), l)
    by_test false q l = let h = ltb-false e.0 due q in (l, omega (arith, h, l))

late_sooner : (t k due : ℕ) (rest : Option (ℕ × ℕ)) → t ≤ due → LateLeast t rest → LateLeast t (sooner_act (due, k) rest)
late_sooner t k due None a b = a
late_sooner t k due (Some e) a b = by_test (nat_lt e.0 due)
  where
    by_test : (c : Bool) → LateLeast t (cond c (Some e) (Some (due, k)))
    by_test true = b
    by_test false = a

pub all_late : (t k : ℕ) (ts : List (Option Timer)) → LateLeast t (least_timer_from k ts) → AllLate t ts
all_late t k [] l = tt
all_late t k (None ∷ ts) l = (tt, all_late t (suc k) ts l)
all_late t k (Some c ∷ ts) l = let h = sooner_late t k c.due (least_timer_from (suc k) ts) l in (h.0, all_late t (suc k) ts h.1)

pub least_late : (t k : ℕ) (ts : List (Option Timer)) → AllLate t ts → LateLeast t (least_timer_from k ts)
least_late t k [] l = tt
least_late t k (None ∷ ts) l = least_late t (suc k) ts l.1
least_late t k (Some c ∷ ts) l = late_sooner t k c.due (least_timer_from (suc k) ts) l.0 (least_late t (suc k) ts l.1)

set_late : (t i : ℕ) (ts : List (Option Timer)) → AllLate t ts → AllLate t (slice_set ts i None)
set_late t i [] l = l
set_late t zero (x ∷ ts) l = (tt, l.1)
set_late t (suc i) (x ∷ ts) l = (l.0, set_late t i ts l.1)

pub late_timers : (t : ℕ) (r : Row) → IsLate t r → AllLate t r.timers
unfolding least_timer
late_timers t r h = all_late t 0 r.timers (late_from t (least_timer_from 0 r.timers) h)

pub timers_late : (t : ℕ) (r : Row) → AllLate t r.timers → IsLate t r
unfolding least_timer
timers_late t r h x e = late_to t (least_timer_from 0 r.timers) (least_late t 0 r.timers h) x e

-- without the least timer none is due before it
pub dropped_late : (r : Row) (t k : ℕ) → least_timer r ≡ Some (t, k) → IsLate t (without_timer r k)
unfolding without_timer
dropped_late r t k e = timers_late t (without_timer r k) (set_late t k r.timers (late_timers t r (late_to t (least_timer r) here)))
  where
    here : LateLeast t (least_timer r)
    here = subst (LateLeast t) (sym e) (omega arith)

-- what comes of the timers alone
pub bare_like : (r q : Row) → q.timers ≡ r.timers → is_bare r ≡ true → is_bare q ≡ true
unfolding is_bare
bare_like r q e h = ap no_timers e ∙ h

pub least_like : (r q : Row) → q.timers ≡ r.timers → least_timer q ≡ least_timer r
unfolding least_timer
least_like r q e = ap (least_timer_from 0) e
