-- One activity's renewal: kept, and with draws.
use Rattle.std.proofs.Common.{ℕ, ◌+◌, ◌^◌, ◌≤◌, ◌<◌, ◌≡◌, ◌⊎◌, ◌∙◌, inl, inr, ap, sym, subst, refl, arith, List, Option, Some, None, Result, Ok, Err, Bool, true, false, not, nat_lt, ◌&&◌, cond}
use Rattle.std.proofs.lemmas.Bool.{le-ltb, lt-ltb}
use Rattle.san_base.specs.declared.ending.Trap.{Trap}
use Rattle.san_law.specs.Net.{Timer}
use Rattle.san_law.specs.Renewal.{Due}
use Rattle.san_law.specs.Activity.{ActKind, Activity, Answer, Instant, No, Pair, Timed, Traps, Yes}
use Rattle.san_law.specs.Clocks.{Clock, activated, again_by, delayed_by, held_by, kept_by, paired_by, renewed_act, same_list, timed_by}
use Rattle.san_legal.specs.Free.{AreDelays, HasDelays}
use Rattle.san_legal.specs.Kept.{HasOne, IsOne, KeptTimer, MayBeDue}
use Rattle.san_legal.specs.KeptSteps.{set_by, timer_in}

-- ---- words

pub least_word : 0 < 2 ^ 64
least_word = omega arith

not_taken : (n : ℕ) → nat_lt n n ≡ false
not_taken n = le-ltb n n (omega arith)

taken : (n : ℕ) → nat_lt n (n + 1) ≡ true
taken n = lt-ltb n (n + 1) (omega arith)

same_trap : (e f : Trap) → (let r : Result ℕ Trap = Err e in r) ≡ Err f → e ≡ f
same_trap e f h = cc

not_both : (e : Trap) (d : ℕ) → (let r : Result ℕ Trap = Err e in r) ≡ Ok d → ⊥
not_both e d h = cc

timer_is : (t : Timer) (due : ℕ) (h : Bool) → t.due ≡ due → t.held ≡ h → (let y : Timer = record { due = due; held = h } in y) ≡ t
timer_is t due h e f = sym (ap (λ (x : ℕ). (let y : Timer = record { due = x; held = t.held } in y)) e ∙ ap (λ (x : Bool). (let y : Timer = record { due = due; held = x } in y)) f)

-- ---- what an activation notes, whatever the due time

abbrev Shape : Option Pair → List ℕ → ℕ → Type 0
Shape pair values n = ((h : Bool) × ((due : ℕ) → paired_by due n values pair ≡ Ok (Some (record { due = due; held = h }), n + 1))) ⊎ ((trap : Trap) × ((due : ℕ) → paired_by due n values pair ≡ Err trap))

shape_by : (n : ℕ) (values : List ℕ) (p : Pair) (w : Answer) → p.activation values ≡ w → Shape (Some p) values n
shape_by n values p (Traps trap) e = inr (trap, λ due. ap (held_by due n) e)
shape_by n values p No e = inl (false, λ due. ap (held_by due n) e)
shape_by n values p Yes e = inl (true, λ due. ap (held_by due n) e)

shape : (pair : Option Pair) (values : List ℕ) (n : ℕ) → Shape pair values n
shape None values n = inl (false, λ due. refl)
shape (Some p) values n = shape_by n values p (p.activation values) refl

-- a timer that is kept has a due time
pub one_of : (b : Due) (j i : ℕ) (kind : ActKind) (x : Option KeptTimer) → HasOne b j i kind x → (t : Option Timer) × IsOne b j i kind x t
one_of b j i kind None h = (None, tt)
one_of b j i kind (Some x) h = (Some (record { due = h.0; held = x.held }), (refl, h.1))

-- ---- alike

-- both trap, or take as many draws, and the timer is as it is kept
abbrev pub Alike : Due → ℕ → ℕ → ActKind → ℕ → List ℕ → Option KeptTimer → ℕ → Result Clock Trap → Result Clock Trap → Type 0
Alike b j i kind time values x n (Err e) (Err f) = e ≡ f
Alike b j i kind time values x n (Err e) (Ok d) = ⊥
Alike b j i kind time values x n (Ok c) (Err f) = ⊥
Alike b j i kind time values x n (Ok c) (Ok d) = (c.1 ≡ d.1) × IsOne b j i kind (set_by time values x (nat_lt n c.1) c.0) d.0

-- a draw and a timer before a renewal, with which it comes to a timer
pub record Before (b : Due) (j i : ℕ) (kind : ActKind) (x : Option KeptTimer) (n : ℕ) (go : (ℕ → ℕ) → Option Timer → Result Clock Trap) (y : Option Timer) (m : ℕ) : Type 0 where
  pub draw : ℕ
  pub word : draw < 2 ^ 64
  pub timer : Option Timer
  pub one : IsOne b j i kind x timer
  pub is : (draws : ℕ → ℕ) → draws n ≡ draw → go draws timer ≡ Ok (y, m)

-- there are such for each timer as it is kept
abbrev pub Back : Due → ℕ → ℕ → ActKind → ℕ → List ℕ → Option KeptTimer → ℕ → ((ℕ → ℕ) → Option Timer → Result Clock Trap) → Result Clock Trap → Type 0
Back b j i kind time values x n go (Err e) = Unit {0}
Back b j i kind time values x n go (Ok c) = (y : Option Timer) → IsOne b j i kind (set_by time values x (nat_lt n c.1) c.0) y → Before b j i kind x n go y c.1

-- so of an activation
record GoBefore (time : ℕ) (values : List ℕ) (delay : ℕ → List ℕ → Result ℕ Trap) (pair : Option Pair) (n : ℕ) (y : Option Timer) (m : ℕ) : Type 0 where
  draw : ℕ
  word : draw < 2 ^ 64
  is : (draws : ℕ → ℕ) → draws n ≡ draw → activated draws time values delay pair n ≡ Ok (y, m)

abbrev GoBack : Due → ℕ → ℕ → ActKind → ℕ → List ℕ → (ℕ → List ℕ → Result ℕ Trap) → Option Pair → Option KeptTimer → ℕ → Result Clock Trap → Type 0
GoBack b j i kind time values delay pair x n (Err e) = Unit {0}
GoBack b j i kind time values delay pair x n (Ok c) = (y : Option Timer) → IsOne b j i kind (set_by time values x (nat_lt n c.1) c.0) y → GoBefore time values delay pair n y c.1

module _ (b : Due) (j i time : ℕ) (from : b.time ≤ time) (seen values : List ℕ) where
  -- a timer that stays
  stay : (x : Option KeptTimer) → set_by time values x false (timer_in x) ≡ x
  stay None = refl
  stay (Some x) = refl

  same_one : (kind : ActKind) (x : Option KeptTimer) (n : ℕ) (t : Option Timer) → IsOne b j i kind x t → IsOne b j i kind (set_by time values x (nat_lt n n) (timer_in x)) t
  same_one kind x n t h =
      subst (λ (c : Bool). IsOne b j i kind (set_by time values x c (timer_in x)) t) (sym (not_taken n))
      (subst (λ (y : Option KeptTimer). IsOne b j i kind y t) (sym (stay x)) h)

  same_back : (kind : ActKind) (x : Option KeptTimer) (n : ℕ) (t : Option Timer) → IsOne b j i kind (set_by time values x (nat_lt n n) (timer_in x)) t → IsOne b j i kind x t
  same_back kind x n t h =
      subst (λ (y : Option KeptTimer). IsOne b j i kind y t) (stay x)
      (subst (λ (c : Bool). IsOne b j i kind (set_by time values x c (timer_in x)) t) (not_taken n) h)

  -- a timer that is set now
  now_one : (kind : ActKind) (x : Option KeptTimer) (n : ℕ) (t s : Timer) → s.held ≡ t.held → MayBeDue b j i kind (record { since = time; values = values; held = t.held }) s.due → IsOne b j i kind (set_by time values x (nat_lt n (n + 1)) (Some t)) (Some s)
  now_one kind x n t s h may = subst (λ (c : Bool). IsOne b j i kind (set_by time values x c (Some t)) (Some s)) (sym (taken n)) (h, may)

  now_back : (kind : ActKind) (x : Option KeptTimer) (n : ℕ) (t : Timer) (y : Option Timer) → IsOne b j i kind (set_by time values x (nat_lt n (n + 1)) (Some t)) y → IsOne b j i kind (Some (record { since = time; values = values; held = t.held })) y
  now_back kind x n t y h = subst (λ (c : Bool). IsOne b j i kind (set_by time values x c (Some t)) y) (taken n) h

  module _ (delay : ℕ → List ℕ → Result ℕ Trap) (free : AreDelays delay) where
    due_now : (pair : Option Pair) (u ticks : ℕ) (h : Bool) → u < 2 ^ 64 → delay u values ≡ Ok ticks → MayBeDue b j i (Timed delay pair) (record { since = time; values = values; held = h }) (time + ticks)
    due_now pair u ticks h word e = let one = free.some u ticks values word e in record { ticks = ticks; given = (u, word, e); is = refl; later = inl (omega (arith, from, one)) }

    paired_alike : (pair : Option Pair) (x : Option KeptTimer) (n ticks u d : ℕ) → u < 2 ^ 64 → delay u values ≡ Ok d → Alike b j i (Timed delay pair) time values x n (paired_by (time + ticks) n values pair) (paired_by (time + d) n values pair)
    paired_alike pair x n ticks u d word e = by_shape (shape pair values n)
      where
        by_shape : Shape pair values n → Alike b j i (Timed delay pair) time values x n (paired_by (time + ticks) n values pair) (paired_by (time + d) n values pair)
        by_shape (inl s) =
            let t : Timer = record { due = time + ticks; held = s.0 } in
            let z : Timer = record { due = time + d; held = s.0 } in
            subst (λ (r : Result Clock Trap). Alike b j i (Timed delay pair) time values x n r (paired_by (time + d) n values pair)) (sym (s.1 (time + ticks)))
            (subst (λ (r : Result Clock Trap). Alike b j i (Timed delay pair) time values x n (Ok (Some t, n + 1)) r) (sym (s.1 (time + d)))
            (refl, now_one (Timed delay pair) x n t z refl (due_now pair u d s.0 word e)))
        by_shape (inr s) =
            subst (λ (r : Result Clock Trap). Alike b j i (Timed delay pair) time values x n r (paired_by (time + d) n values pair)) (sym (s.1 (time + ticks)))
            (subst (λ (r : Result Clock Trap). Alike b j i (Timed delay pair) time values x n (Err s.0) r) (sym (s.1 (time + d))) refl)

    delayed_alike : (pair : Option Pair) (x : Option KeptTimer) (n v u : ℕ) → v < 2 ^ 64 → u < 2 ^ 64 → (p q : Result ℕ Trap) → delay v values ≡ p → delay u values ≡ q
        → Alike b j i (Timed delay pair) time values x n (delayed_by time n values pair p) (delayed_by time n values pair q)
    delayed_alike pair x n v u wv wu (Err e) (Err f) ep eq = same_trap e f (sym (free.traps v u values e wv wu ep) ∙ eq)
    delayed_alike pair x n v u wv wu (Err e) (Ok d) ep eq = absurd (not_both e d (sym (free.traps v u values e wv wu ep) ∙ eq))
    delayed_alike pair x n v u wv wu (Ok c) (Err f) ep eq = absurd (not_both f c (sym (free.traps u v values f wu wv eq) ∙ ep))
    delayed_alike pair x n v u wv wu (Ok c) (Ok d) ep eq = paired_alike pair x n c u d wu eq

    go_back : (pair : Option Pair) (x : Option KeptTimer) (n : ℕ) (p : Result ℕ Trap) → GoBack b j i (Timed delay pair) time values delay pair x n (delayed_by time n values pair p)
    go_back pair x n (Err e) = tt
    go_back pair x n (Ok d) = by_shape (shape pair values n)
      where
        set : (s : (h : Bool) × ((due : ℕ) → paired_by due n values pair ≡ Ok (Some (record { due = due; held = h }), n + 1))) (y : Option Timer) → IsOne b j i (Timed delay pair) (Some (record { since = time; values = values; held = s.0 })) y → GoBefore time values delay pair n y (n + 1)
        set s None h = absurd h
        set s (Some t) h = record {
          draw = h.1.given.0;
          word = h.1.given.1;
          is = λ draws e. ap (λ (u : ℕ). delayed_by time n values pair (delay u values)) e
              ∙ (ap (delayed_by time n values pair) h.1.given.2
              ∙ (s.1 (time + h.1.ticks)
              ∙ ap (λ (z : Timer). (let r : Result Clock Trap = Ok (Some z, n + 1) in r)) (timer_is t (time + h.1.ticks) s.0 h.1.is h.0)));
        }

        by_shape : Shape pair values n → GoBack b j i (Timed delay pair) time values delay pair x n (paired_by (time + d) n values pair)
        by_shape (inl s) = subst (GoBack b j i (Timed delay pair) time values delay pair x n) (sym (s.1 (time + d))) (λ y h. set s y (now_back (Timed delay pair) x n (record { due = time + d; held = s.0 }) y h))
        by_shape (inr s) = subst (GoBack b j i (Timed delay pair) time values delay pair x n) (sym (s.1 (time + d))) tt

  -- ---- alike, whatever the activation does

  module _ (kind : ActKind) (n : ℕ) (go other : Result Clock Trap) where
    abbrev was : KeptTimer → Timer
    was x = record { due = x.since; held = x.held }

    stay_alike : (x : KeptTimer) (t : Timer) → IsOne b j i kind (Some x) (Some t) → Alike b j i kind time values (Some x) n (Ok (Some (was x), n)) (Ok (Some t, n))
    stay_alike x t one = (refl, same_one kind (Some x) n (Some t) one)

    again_alike : (x : KeptTimer) (t : Timer) (w : Answer) → IsOne b j i kind (Some x) (Some t) → Alike b j i kind time values (Some x) n go other
        → Alike b j i kind time values (Some x) n (again_by w (Some (was x), n) go) (again_by w (Some t, n) other)
    again_alike x t (Traps trap) one h = refl
    again_alike x t No one h = stay_alike x t one
    again_alike x t Yes one h = h

    cond_alike : (x : KeptTimer) (t : Timer) (c : Bool) (w : Answer) → IsOne b j i kind (Some x) (Some t) → Alike b j i kind time values (Some x) n go other
        → Alike b j i kind time values (Some x) n (cond c (again_by w (Some (was x), n) go) (Ok (Some (was x), n))) (cond c (again_by w (Some t, n) other) (Ok (Some t, n)))
    cond_alike x t true w one h = again_alike x t w one h
    cond_alike x t false w one h = stay_alike x t one

    kept_alike : (x : KeptTimer) (t : Timer) (pair : Option Pair) → IsOne b j i kind (Some x) (Some t) → Alike b j i kind time values (Some x) n go other
        → Alike b j i kind time values (Some x) n (kept_by seen values (was x) n pair go) (kept_by seen values t n pair other)
    kept_alike x t None one h = stay_alike x t one
    kept_alike x t (Some p) one h =
        subst (λ (c : Bool). Alike b j i kind time values (Some x) n (cond (x.held && not (same_list seen values)) (again_by (p.reactivation values) (Some (was x), n) go) (Ok (Some (was x), n))) (cond (c && not (same_list seen values)) (again_by (p.reactivation values) (Some t, n) other) (Ok (Some t, n)))) (sym one.0)
        (cond_alike x t (x.held && not (same_list seen values)) (p.reactivation values) one h)

    timed_alike : (x : Option KeptTimer) (t : Option Timer) (pair : Option Pair) (w : Answer) → IsOne b j i kind x t → Alike b j i kind time values x n go other
        → Alike b j i kind time values x n (timed_by seen values (timer_in x) n pair go w) (timed_by seen values t n pair other w)
    timed_alike x t pair (Traps trap) one h = refl
    timed_alike x t pair No one h = (refl, tt)
    timed_alike None None pair Yes one h = h
    timed_alike None (Some t) pair Yes one h = absurd one
    timed_alike (Some x) None pair Yes one h = absurd one
    timed_alike (Some x) (Some t) pair Yes one h = kept_alike x t pair one h

  pub act_alike : (draw : ℕ → ℕ) (a : Activity) (kind : ActKind) (x : Option KeptTimer) (t : Option Timer) (n : ℕ) → HasDelays kind → draw n < 2 ^ 64 → IsOne b j i kind x t
      → Alike b j i kind time values x n (renewed_act (λ k. 0) time seen values a kind (timer_in x) n) (renewed_act draw time seen values a kind t n)
  act_alike draw a (Instant priority) x t n free word one = (refl, same_one (Instant priority) x n t one)
  act_alike draw a (Timed delay pair) x t n free word one =
      timed_alike (Timed delay pair) n (activated (λ k. 0) time values delay pair n) (activated draw time values delay pair n) x t pair (a.enabled values) one
      (delayed_alike delay free pair x n 0 (draw n) least_word word (delay 0 values) (delay (draw n) values) refl refl)

  -- ---- back

  module _ (delay : ℕ → List ℕ → Result ℕ Trap) (pair : Option Pair) (n : ℕ) where
    abbrev timed_go : Answer → (ℕ → ℕ) → Option Timer → Result Clock Trap
    timed_go w draws t = timed_by seen values t n pair (activated draws time values delay pair n) w

    abbrev BackTo : Option KeptTimer → Answer → Result Clock Trap → Type 0
    BackTo x w r = Back b j i (Timed delay pair) time values x n (timed_go w) r

    -- a timer that stays
    stay_back : (x : KeptTimer) → ((t : Timer) → t.held ≡ x.held → (draws : ℕ → ℕ) → timed_go Yes draws (Some t) ≡ Ok (Some t, n)) → BackTo (Some x) Yes (Ok (Some (record { due = x.since; held = x.held }), n))
    stay_back x stays y h = by_timer y (same_back (Timed delay pair) (Some x) n y h)
      where
        by_timer : (y : Option Timer) → IsOne b j i (Timed delay pair) (Some x) y → Before b j i (Timed delay pair) (Some x) n (timed_go Yes) y n
        by_timer None one = absurd one
        by_timer (Some t) one = record { draw = 0; word = least_word; timer = Some t; one = one; is = λ draws e. stays t one.0 draws }

    -- a timer that is activated
    new_back : (x : Option KeptTimer) (t : Option Timer) → IsOne b j i (Timed delay pair) x t → ((draws : ℕ → ℕ) → timed_go Yes draws t ≡ activated draws time values delay pair n) → (r : Result Clock Trap) → GoBack b j i (Timed delay pair) time values delay pair x n r → BackTo x Yes r
    new_back x t one same (Err e) h = tt
    new_back x t one same (Ok c) h = λ y is. (let g = h y is in record { draw = g.draw; word = g.word; timer = t; one = one; is = λ draws e. same draws ∙ g.is draws e })

  -- reactivation
  module _ (delay : ℕ → List ℕ → Result ℕ Trap) (p : Pair) (n : ℕ) (go : Result Clock Trap) (x : KeptTimer) (has : HasOne b j i (Timed delay (Some p)) (Some x)) (back : GoBack b j i (Timed delay (Some p)) time values delay (Some p) (Some x) n go) where
    abbrev changed : Bool
    changed = not (same_list seen values)

    kept_is : (t : Timer) (draws : ℕ → ℕ) (c : Bool) (w : Answer) → t.held ≡ x.held → (x.held && changed) ≡ c → p.reactivation values ≡ w
        → timed_go delay (Some p) n Yes draws (Some t) ≡ cond c (again_by w (Some t, n) (activated draws time values delay (Some p) n)) (Ok (Some t, n))
    kept_is t draws c w h e f =
        let act = activated draws time values delay (Some p) n in
        ap (λ (g : Bool). cond (g && changed) (again_by (p.reactivation values) (Some t, n) act) (Ok (Some t, n))) h
        ∙ (ap (λ (g : Bool). cond g (again_by (p.reactivation values) (Some t, n) act) (Ok (Some t, n))) e
        ∙ ap (λ (v : Answer). cond c (again_by v (Some t, n) act) (Ok (Some t, n))) f)

    cond_back : (c : Bool) (w : Answer) → (x.held && changed) ≡ c → p.reactivation values ≡ w
        → BackTo delay (Some p) n (Some x) Yes (cond c (again_by w (Some (record { due = x.since; held = x.held }), n) go) (Ok (Some (record { due = x.since; held = x.held }), n)))
    cond_back false w e f = stay_back delay (Some p) n x (λ t h draws. kept_is t draws false w h e f)
    cond_back true (Traps trap) e f = tt
    cond_back true No e f = stay_back delay (Some p) n x (λ t h draws. kept_is t draws true No h e f)
    cond_back true Yes e f =
        let any : Timer = record { due = has.0; held = x.held } in
        new_back delay (Some p) n (Some x) (Some any) (refl, has.1) (λ draws. kept_is any draws true Yes refl e f) go back

  timed_back : (delay : ℕ → List ℕ → Result ℕ Trap) (pair : Option Pair) (n : ℕ) (go : Result Clock Trap) (x : Option KeptTimer) (w : Answer) → HasOne b j i (Timed delay pair) x → GoBack b j i (Timed delay pair) time values delay pair x n go
      → BackTo delay pair n x w (timed_by seen values (timer_in x) n pair go w)
  timed_back delay pair n go x (Traps trap) has back = tt
  timed_back delay pair n go x No has back = by_timer
    where
      by_timer : (y : Option Timer) → IsOne b j i (Timed delay pair) None y → Before b j i (Timed delay pair) x n (timed_go delay pair n No) y n
      by_timer None one = let any = one_of b j i (Timed delay pair) x has in record { draw = 0; word = least_word; timer = any.0; one = any.1; is = λ draws e. refl }
      by_timer (Some t) one = absurd one
  timed_back delay pair n go None Yes has back = new_back delay pair n None None tt (λ draws. refl) go back
  timed_back delay None n go (Some x) Yes has back = stay_back delay None n x (λ t h draws. refl)
  timed_back delay (Some p) n go (Some x) Yes has back = cond_back delay p n go x has back (x.held && not (same_list seen values)) (p.reactivation values) refl refl

  abbrev pub act_go : Activity → ActKind → ℕ → (ℕ → ℕ) → Option Timer → Result Clock Trap
  act_go a kind n draws t = renewed_act draws time seen values a kind t n

  pub act_back : (a : Activity) (kind : ActKind) (x : Option KeptTimer) (n : ℕ) → HasDelays kind → HasOne b j i kind x → Back b j i kind time values x n (act_go a kind n) (renewed_act (λ k. 0) time seen values a kind (timer_in x) n)
  act_back a (Instant priority) x n free has = λ y h. record { draw = 0; word = least_word; timer = y; one = same_back (Instant priority) x n y h; is = λ draws e. refl }
  act_back a (Timed delay pair) x n free has = timed_back delay pair n (activated (λ k. 0) time values delay pair n) x (a.enabled values) has (go_back delay free pair x n (delay 0 values))
