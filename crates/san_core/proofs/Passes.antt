-- What the limits let through is what the law admits of a piece.
use Rattle.std.proofs.Common.{ℕ, zero, suc, ◌+◌, ◌-◌, ◌<◌, ◌≤◌, ◌≡◌, ◌∙◌, ◌⊎◌, inl, inr, ap, sym, refl, List, [], ◌∷◌, length, map, Option, Some, None, Bool, true, false, arith, nat_lt, cond}
use Rattle.std.specs.Prelude.{take}
use Rattle.san_law.specs.Net.{Net}
use Rattle.std.proofs.lemmas.Bool.{ltb-true}
use Rattle.san_law.specs.Step.{Ending, Unstable, events_left, limit_at, limit_by, count_limit}
use Rattle.san_law.specs.Core.{burst_after}
use Rattle.san_law.specs.Block.{Completion, Fault}
use Rattle.san_law.specs.Admitted.{Admitted, admitted, admitted_fire, admitted_rest, closing, event_by, event_then, unless_ended}
use Rattle.san_law.specs.Piece.{Fire, Kind, Refresh, Settle}
use Rattle.san_core.specs.inner.Admits.{admits, admits_rest, admits_settled, closes, ends_by, further, passes, passes_by, unless_over}

one_less : (n i : ℕ) → i < n → n - i ≡ suc (n - (i + 1))
one_less n i h = omega (arith, h)

after_one : (a b : ℕ) → a + b + 1 ≡ a + (b + 1)
after_one a b = omega arith

suc_one : (a b : ℕ) → a + suc b ≡ a + 1 + b
suc_one a b = omega arith

pub goes_on : (most limit burst count n i : ℕ) → i < n → limit_by most limit (burst + i) (count + i) ≡ None
    → further i (passes most limit (burst + i) (count + i) (n - i)) ≡ further (i + 1) (passes most limit (burst + (i + 1)) (count + (i + 1)) (n - (i + 1)))
goes_on most limit burst count n i h none =
    let rest = passes most limit (burst + (i + 1)) (count + (i + 1)) (n - (i + 1)) in
    ap (λ (m : ℕ). further i (passes most limit (burst + i) (count + i) m)) (one_less n i h)
    ∙ (ap (λ (o : Option Ending). further i (passes_by o (passes most limit (burst + i + 1) (count + i + 1) (n - (i + 1))))) none
    ∙ (ap (λ (b : ℕ). further i (passes_by None (passes most limit b (count + i + 1) (n - (i + 1))))) (after_one burst i)
    ∙ (ap (λ (k : ℕ). further i (passes_by None (passes most limit (burst + (i + 1)) k (n - (i + 1))))) (after_one count i)
    ∙ ap (λ (k : ℕ). (k, rest.1)) (suc_one i rest.0))))

pub goes_on_at : (most limit burst count n i b k : ℕ) → i < n → b ≡ burst + i → k ≡ count + i → limit_by most limit b k ≡ None
    → further i (passes most limit (burst + i) (count + i) (n - i)) ≡ further (i + 1) (passes most limit (burst + (i + 1)) (count + (i + 1)) (n - (i + 1)))
goes_on_at most limit burst count n i b k h bs ks none = goes_on most limit burst count n i h (ap (λ (x : ℕ). limit_by most limit x (count + i)) (sym bs) ∙ (ap (limit_by most limit b) (sym ks) ∙ none))

-- the limits' ending of a fault is the law's
closes_is : (net : Net) (j burst count : ℕ) (fault : Option Fault) → closing net j burst count fault ≡ closes net.burst net.limit j burst count fault
closes_is net j burst count None = refl
closes_is net j burst count (Some f) = refl

-- what is admitted, by how many pass
abbrev told_by : ℕ → ℕ → List Completion → ℕ × Option Ending → Admitted
told_by time j cs p = (map (event_by time j) (take p.0 cs), p.1)

abbrev closed : Net → ℕ → ℕ → ℕ → Option Fault → ℕ × Option Ending → ℕ × Option Ending
closed net j burst count fault p = (p.0, ends_by p.1 (closing net j (burst + p.0) (count + p.0) fault))

by_limit : (net : Net) (time j burst count : ℕ) (fault : Option Fault) (c : Completion) (cs : List Completion) (o : Option Ending) (p : ℕ × Option Ending)
    → unless_ended o (event_then (event_by time j c) (told_by time j cs (closed net j (burst + 1) (count + 1) fault p))) ≡ told_by time j (c ∷ cs) (closed net j burst count fault (passes_by o p))
by_limit net time j burst count fault c cs (Some e) p = refl
by_limit net time j burst count fault c cs None p =
    ap (λ (o : Option Ending). (event_by time j c ∷ map (event_by time j) (take p.0 cs), ends_by p.1 o))
    (ap (λ (b : ℕ). closing net j b (count + 1 + p.0) fault) (sym (suc_one burst p.0)) ∙ ap (λ (k : ℕ). closing net j (burst + suc p.0) k fault) (sym (suc_one count p.0)))

none_more : (a : ℕ) → a ≡ a + 0
none_more a = omega arith

admitted_passes : (net : Net) (time j burst count : ℕ) (fault : Option Fault) (cs : List Completion)
    → admitted net time j burst count fault cs ≡ told_by time j cs (closed net j burst count fault (passes net.burst net.limit burst count (length cs)))
admitted_passes net time j burst count fault [] =
    ap (λ (b : ℕ). ([], closing net j b count fault)) (none_more burst) ∙ ap (λ (k : ℕ). ([], closing net j (burst + 0) k fault)) (none_more count)
admitted_passes net time j burst count fault (c ∷ cs) =
    ap (λ (t : Admitted). unless_ended (limit_at net burst count) (event_then (event_by time j c) t)) (admitted_passes net time j (burst + 1) (count + 1) fault cs)
    ∙ by_limit net time j burst count fault c cs (limit_at net burst count) (passes net.burst net.limit (burst + 1) (count + 1) (length cs))

settled_is : (net : Net) (time j burst count : ℕ) (fault : Option Fault) (cs : List Completion)
    → admitted net time j burst count fault cs ≡ told_by time j cs (admits_settled net.burst net.limit j burst count fault (length cs))
settled_is net time j burst count fault cs =
    let p = passes net.burst net.limit burst count (length cs) in
    admitted_passes net time j burst count fault cs ∙ ap (λ (o : Option Ending). (map (event_by time j) (take p.0 cs), ends_by p.1 o)) (closes_is net j (burst + p.0) (count + p.0) fault)

rest_is : (net : Net) (time j count : ℕ) (fault : Option Fault) (cs : List Completion)
    → admitted_rest net time j count fault cs ≡ told_by time j cs (admits_rest net.burst net.limit j count fault (length cs))
rest_is net time j count fault [] = refl
rest_is net time j count fault (c ∷ cs) = ap (event_then (event_by time j c)) (settled_is net time j 0 (count + 1) fault cs)

unless_is : (time j : ℕ) (cs : List Completion) (o : Option Ending) (p : ℕ × Option Ending) → unless_ended o (told_by time j cs p) ≡ told_by time j cs (unless_over o p)
unless_is time j cs (Some e) p = refl
unless_is time j cs None p = refl

fired_is : (net : Net) (time j count : ℕ) (fault : Option Fault) (cs : List Completion)
    → admitted_fire net time j count fault cs ≡ told_by time j cs (unless_over (events_left net.limit count) (admits_rest net.burst net.limit j count fault (length cs)))
fired_is net time j count fault cs =
    ap (unless_ended (count_limit net count)) (rest_is net time j count fault cs)
    ∙ unless_is time j cs (count_limit net count) (admits_rest net.burst net.limit j count fault (length cs))

-- by the kind of a piece
abbrev pub admitted_by : Net → ℕ → ℕ → ℕ → ℕ → Kind → Option Fault → List Completion → Admitted
admitted_by net time j burst count Settle fault cs = admitted net time j burst count fault cs
admitted_by net time j burst count (Fire k) fault cs = admitted_fire net time j count fault cs
admitted_by net time j burst count Refresh fault cs = admitted net time j burst count fault cs

pub admitted_is : (net : Net) (time j burst count : ℕ) (kind : Kind) (fault : Option Fault) (cs : List Completion)
    → admitted_by net time j burst count kind fault cs ≡ (map (event_by time j) (take (admits net.burst net.limit j burst count kind fault (length cs)).0 cs), (admits net.burst net.limit j burst count kind fault (length cs)).1)
admitted_is net time j burst count Settle fault cs = settled_is net time j burst count fault cs
admitted_is net time j burst count (Fire k) fault cs = fired_is net time j count fault cs
admitted_is net time j burst count Refresh fault cs = settled_is net time j burst count fault cs

-- all pass where nothing stops them, and never more than there are; the burst stays within the limit or as it was
pub record Bounded (most was n : ℕ) (p : ℕ × Option Ending) : Type 0 where
  pub within : p.0 ≤ n
  pub all : p.1 ≡ None → p.0 ≡ n
  pub burst : (was + p.0 ≤ was) ⊎ (was + p.0 ≤ most)

none_some : (e : Ending) → Some e ≡ None → ⊥
none_some e is = cc

limit_room : (most limit burst count : ℕ) → limit_by most limit burst count ≡ None → burst < most
limit_room most limit burst count e = by_test (nat_lt burst most) refl e
  where
    by_test : (b : Bool) → nat_lt burst most ≡ b → cond b (events_left limit count) (Some Unstable) ≡ None → burst < most
    by_test true t e = ltb-true burst most t
    by_test false t e = cc

one_passes : (most burst n : ℕ) (o : Option Ending) (p : ℕ × Option Ending) → (o ≡ None → burst < most) → Bounded most (burst + 1) n p → Bounded most burst (suc n) (passes_by o p)
one_passes most burst n (Some e) p room h = record { within = omega arith; all = λ is. absurd (none_some e is); burst = inl (omega arith) }
one_passes most burst n None p room h = record {
  within = omega (arith, h.within);
  all = λ is. ap suc (h.all is);
  burst = inr (by_burst h.burst);
}
  where
    by_burst : (burst + 1 + p.0 ≤ burst + 1) ⊎ (burst + 1 + p.0 ≤ most) → burst + suc p.0 ≤ most
    by_burst (inl l) = omega (arith, l, room refl)
    by_burst (inr l) = omega (arith, l)

passes_bounded : (most limit burst count n : ℕ) → Bounded most burst n (passes most limit burst count n)
passes_bounded most limit burst count zero = record { within = omega arith; all = λ e. refl; burst = inl (omega arith) }
passes_bounded most limit burst count (suc n) = one_passes most burst n (limit_by most limit burst count) (passes most limit (burst + 1) (count + 1) n) (limit_room most limit burst count) (passes_bounded most limit (burst + 1) (count + 1) n)

-- a limit that came, or else the fault, where all passed
ends_none : (a b : Option Ending) → ends_by a b ≡ None → a ≡ None
ends_none (Some e) b is = is
ends_none None b is = refl

settled_bounded : (most limit j burst count : ℕ) (fault : Option Fault) (n : ℕ) → Bounded most burst n (admits_settled most limit j burst count fault n)
settled_bounded most limit j burst count fault n =
    let p = passes most limit burst count n in
    let h = passes_bounded most limit burst count n in
    record { within = h.within; all = λ e. h.all (ends_none p.1 (closes most limit j (burst + p.0) (count + p.0) fault) e); burst = h.burst }

-- what passes of a piece, and the burst after it
pub record Passed (most was n : ℕ) (kind : Kind) (p : ℕ × Option Ending) : Type 0 where
  pub within : p.0 ≤ n
  pub all : p.1 ≡ None → p.0 ≡ n
  pub burst : (burst_after kind was p.0 ≤ was) ⊎ (burst_after kind was p.0 ≤ most)

rest_passed : (most limit j burst count k : ℕ) (fault : Option Fault) (n : ℕ) → Passed most burst n (Fire k) (admits_rest most limit j count fault n)
rest_passed most limit j burst count k fault zero = record { within = omega arith; all = λ e. refl; burst = inl (omega arith) }
rest_passed most limit j burst count k fault (suc n) =
    let p = admits_settled most limit j 0 (count + 1) fault n in
    let h = settled_bounded most limit j 0 (count + 1) fault n in
    record { within = omega (arith, h.within); all = λ e. ap suc (h.all e); burst = by_burst p.0 h.burst }
  where
    by_burst : (p : ℕ) → (0 + p ≤ 0) ⊎ (0 + p ≤ most) → (burst_after (Fire k) burst (suc p) ≤ burst) ⊎ (burst_after (Fire k) burst (suc p) ≤ most)
    by_burst p (inl l) = inl (omega (arith, l))
    by_burst p (inr l) = inr (omega (arith, l))

unless_passed : (most burst k n : ℕ) (o : Option Ending) (p : ℕ × Option Ending) → Passed most burst n (Fire k) p → Passed most burst n (Fire k) (unless_over o p)
unless_passed most burst k n (Some e) p h = record { within = omega arith; all = λ is. absurd (none_some e is); burst = inl (omega arith) }
unless_passed most burst k n None p h = h

pub admits_passed : (most limit j burst count : ℕ) (kind : Kind) (fault : Option Fault) (n : ℕ) → Passed most burst n kind (admits most limit j burst count kind fault n)
admits_passed most limit j burst count Settle fault n = let h = settled_bounded most limit j burst count fault n in record { within = h.within; all = h.all; burst = h.burst }
admits_passed most limit j burst count (Fire k) fault n = unless_passed most burst k n (events_left limit count) (admits_rest most limit j count fault n) (rest_passed most limit j burst count k fault n)
admits_passed most limit j burst count Refresh fault n = let h = settled_bounded most limit j burst count fault n in record { within = h.within; all = h.all; burst = h.burst }
