-- The sums of rewards, as time goes on.
use Rattle.std.proofs.Common.{ℕ, zero, suc, ◌+◌, ◌-◌, ◌*◌, ◌<◌, ◌≤◌, ◌≡◌, ◌∙◌, ◌⊎◌, inl, inr, ap, sym, refl, subst, List, [], ◌∷◌, ◌++◌, length, map, Option, Some, None, arith, nat_le, slice_index_or, cond, append_assoc}
use Rattle.std.specs.Prelude.{ℤ, ◌+ℤ◌}
use Rattle.std.proofs.Math.IntN.{+ℤ_assoc, +ℤ_comm, +ℤ_idl, +ℤ_idr}
use Rattle.std.proofs.lemmas.Bool.{le-leb, lt-leb}
use Rattle.std.proofs.lemmas.List.{ext_get_or, length-append}
use Rattle.san_law.specs.Net.{Net, Rated, Slot}
use Rattle.san_law.specs.State.{State, gather, place_of}
use Rattle.san_law.specs.Step.{Ending, Event, limit_at, step}
use Rattle.san_law.specs.Trajectory.{Runs}
use Rattle.san_law.specs.Block.{Completion, Fault}
use Rattle.san_law.specs.Admitted.{Admitted, event_by, event_then, admitted, unless_ended}
use Rattle.san_law.specs.Reward.{event_sum, events_sum, marked, plus, rates_from, sum_before, sum_ticks, tick_sum, ticked, zero_sum}
use Rattle.san_law.specs.Tally.{Tally, going_on, impulses_in, sum_of, sums_from, tally_after}
use Rattle.san_law.specs.Standing.{AllTo, Counts}

pub plus_assoc : (a b c : Rated) → plus (plus a b) c ≡ plus a (plus b c)
plus_assoc None b c = refl
plus_assoc (Some a) None c = refl
plus_assoc (Some a) (Some b) None = refl
plus_assoc (Some a) (Some b) (Some c) = ap (λ x. Some x) (+ℤ_assoc a b c)

pub plus_first : (a : Rated) → plus zero_sum a ≡ a
plus_first None = refl
plus_first (Some a) = ap (λ x. Some x) (+ℤ_idl a)

pub plus_last : (a : Rated) → plus a zero_sum ≡ a
plus_last None = refl
plus_last (Some a) = ap (λ x. Some x) (+ℤ_idr a)

-- two sums grow apart
four_numbers : (a b c d : ℤ) → ((a +ℤ b) +ℤ c) +ℤ d ≡ (a +ℤ c) +ℤ (b +ℤ d)
four_numbers a b c d =
    ap (λ x. x +ℤ d) (+ℤ_assoc a b c ∙ (ap (λ x. a +ℤ x) (+ℤ_comm b c) ∙ sym (+ℤ_assoc a c b)))
    ∙ +ℤ_assoc (a +ℤ c) b d

pub plus_four : (a b c d : Rated) → plus (plus (plus a b) c) d ≡ plus (plus a c) (plus b d)
plus_four None b c d = refl
plus_four (Some a) None None d = refl
plus_four (Some a) None (Some c) d = refl
plus_four (Some a) (Some b) None d = refl
plus_four (Some a) (Some b) (Some c) None = refl
plus_four (Some a) (Some b) (Some c) (Some d) = ap (λ x. Some x) (four_numbers a b c d)

pub sum_split : (f : ℕ → Rated) (a m n : ℕ) → sum_ticks f a (m + n) ≡ plus (sum_ticks f a m) (sum_ticks f (a + m) n)
sum_split f a zero n =
    let e : 0 + n ≡ n = omega arith in
    let z : a ≡ a + 0 = omega arith in
    ap (sum_ticks f a) e ∙ (ap (λ b. sum_ticks f b n) z ∙ sym (plus_first (sum_ticks f (a + 0) n)))
sum_split f a (suc m) n =
    let e : suc m + n ≡ suc (m + n) = omega arith in
    let z : suc a + m ≡ a + suc m = omega arith in
    ap (sum_ticks f a) e
    ∙ (ap (plus (f a)) (sum_split f (suc a) m n ∙ ap (λ b. plus (sum_ticks f (suc a) m) (sum_ticks f b n)) z)
    ∙ sym (plus_assoc (f a) (sum_ticks f (suc a) m) (sum_ticks f (a + suc m) n)))

pub sum_like : (f g : ℕ → Rated) (a n : ℕ) → ((t : ℕ) → a ≤ t → t < a + n → f t ≡ g t) → sum_ticks f a n ≡ sum_ticks g a n
sum_like f g a zero h = refl
sum_like f g a (suc n) h =
    ap (λ x. plus x (sum_ticks f (suc a) n)) (h a (omega arith) (omega arith))
    ∙ ap (plus (g a)) (sum_like f g (suc a) n (λ t l k. h t (omega (arith, l)) (omega (arith, k))))

pub sum_none : (f : ℕ → Rated) (a n : ℕ) → ((t : ℕ) → a ≤ t → t < a + n → f t ≡ zero_sum) → sum_ticks f a n ≡ zero_sum
sum_none f a zero h = refl
sum_none f a (suc n) h =
    ap (λ x. plus x (sum_ticks f (suc a) n)) (h a (omega arith) (omega arith))
    ∙ (plus_first (sum_ticks f (suc a) n) ∙ sum_none f (suc a) n (λ t l k. h t (omega (arith, l)) (omega (arith, k))))

-- events at one time
abbrev pub AllAt : ℕ → List Event → Type 0
AllAt time [] = Unit {0}
AllAt time (e ∷ es) = (e.time ≡ time) × AllAt time es

pub marked_append : (net : Net) (s : State) (xs es : List Event) (b t : ℕ) → AllAt b es → t < b → marked net s (xs ++ es) t ≡ marked net s xs t
marked_append net s [] [] b t all h = refl
marked_append net s [] (e ∷ es) b t all h = ap (λ q. cond q (marked net (step net s).1 es t) s.marking) (lt-leb e.time t (omega (arith, h, all.0)))
marked_append net s (x ∷ xs) es b t all h = ap (λ m. cond (nat_le x.time t) m s.marking) (marked_append net (step net s).1 xs es b t all h)

pub marked_end : (net : Net) (s u : State) (xs : List Event) (a t : ℕ) → AllTo a xs → Runs net s xs u → a ≤ t → marked net s xs t ≡ u.marking
marked_end net s u [] a t all runs h = ap (λ (v : State). v.marking) runs
marked_end net s u (x ∷ xs) a t all runs h =
    ap (λ q. cond q (marked net (step net s).1 xs t) s.marking) (le-leb x.time t (omega (arith, h, all.0)))
    ∙ marked_end net (step net s).1 u xs a t all.1 runs.1 h

rates_long : (net : Net) (a : ℕ) (ps : List (List Slot)) (m : List ℕ) → length (rates_from net a ps m) ≡ length ps
rates_long net a [] m = refl
rates_long net a (p ∷ ps) m = ap suc (rates_long net (suc a) ps m)

rates_at : (net : Net) (a i : ℕ) (ps : List (List Slot)) (m : List ℕ) → i < length ps → slice_index_or (rates_from net a ps m) i [] ≡ net.rates (a + i) (gather (map place_of (slice_index_or ps i [])) m)
rates_at net a i [] m h = absurd (omega (arith, h))
rates_at net a zero (p ∷ ps) m h = let z : a ≡ a + 0 = omega arith in ap (λ k. net.rates k (gather (map place_of p) m)) z
rates_at net a (suc i) (p ∷ ps) m h =
    let z : suc a + i ≡ a + suc i = omega arith in
    rates_at net (suc a) i ps m (omega (arith, h)) ∙ ap (λ k. net.rates k (gather (map place_of (slice_index_or ps i [])) m)) z

pub rates_are : (net : Net) (rates : List (List Rated)) (m : List ℕ) → length rates ≡ length net.parts → ((i : ℕ) → i < length net.parts → slice_index_or rates i [] ≡ net.rates i (gather (map place_of (slice_index_or net.parts i [])) m)) → rates ≡ rates_from net 0 net.parts m
rates_are net rates m long h = ext_get_or [] rates (rates_from net 0 net.parts m) (long ∙ sym (rates_long net 0 net.parts m)) (λ i l.
    let k : i < length net.parts = omega (arith, l, long) in
    let z : i ≡ 0 + i = omega arith in
    h i k ∙ (ap (λ n. net.rates n (gather (map place_of (slice_index_or net.parts i [])) m)) z ∙ sym (rates_at net 0 i net.parts m k)))

-- all events of a piece are at its time
unless_at : (time : ℕ) (o : Option Ending) (x : Admitted) → AllAt time x.0 → AllAt time (unless_ended o x).0
unless_at time None x h = h
unless_at time (Some e) x h = tt

pub admitted_at_time : (net : Net) (time j burst count : ℕ) (fault : Option Fault) (cs : List Completion) → AllAt time (admitted net time j burst count fault cs).0
admitted_at_time net time j burst count fault [] = tt
admitted_at_time net time j burst count fault (a ∷ cs) = unless_at time (limit_at net burst count) (event_then (event_by time j a) (admitted net time j (burst + 1) (count + 1) fault cs)) (refl, admitted_at_time net time j (burst + 1) (count + 1) fault cs)

to_append : (a b : ℕ) (xs es : List Event) → a ≤ b → AllTo a xs → AllAt b es → AllTo b (xs ++ es)
to_append a b [] [] h to at = tt
to_append a b [] (e ∷ es) h to at = (omega (arith, at.0), to_append a b [] es h tt at.1)
to_append a b (x ∷ xs) es h to at = (omega (arith, h, to.0), to_append a b xs es h to.1 at)

events_append : (net : Net) (r : ℕ) (xs es : List Event) → events_sum net r (xs ++ es) ≡ plus (events_sum net r xs) (events_sum net r es)
events_append net r [] es = sym (plus_first (events_sum net r es))
events_append net r (x ∷ xs) es = ap (plus (event_sum net r x)) (events_append net r xs es) ∙ sym (plus_assoc (event_sum net r x) (events_sum net r xs) (events_sum net r es))

-- a sum as the time goes on from a to b, with events at b
sum_more : (net : Net) (r : ℕ) (opening s : State) (xs es : List Event) (rates : List (List Rated)) (sum : Rated) (a b : ℕ) → Runs net opening xs s → AllTo a xs → AllAt b es → sum ≡ sum_before net r opening xs a → a ≤ b
    → (a ≡ b) ⊎ (rates ≡ rates_from net 0 net.parts s.marking)
    → plus (plus sum (sum_ticks (λ t. tick_sum net r t rates) a (b - a))) (events_sum net r es) ≡ sum_before net r opening (xs ++ es) b
sum_more net r opening s xs es rates sum a b runs early at is h same =
    let f = ticked net r opening xs in
    let g = ticked net r opening (xs ++ es) in
    let d = sum_ticks (λ t. tick_sum net r t rates) a (b - a) in
    let e = events_sum net r es in
    let old : (t : ℕ) → t < b → f t ≡ g t = λ t l. ap (λ m. tick_sum net r t (rates_from net 0 net.parts m)) (sym (marked_append net opening xs es b t at l)) in
    let one : sum_ticks f 0 a ≡ sum_ticks g 0 a = sum_like f g 0 a (λ t k l. old t (omega (arith, l, h))) in
    let two : d ≡ sum_ticks g a (b - a) = sum_like (λ t. tick_sum net r t rates) g a (b - a) (λ t k l. now same t k (omega (arith, l, h)) ∙ old t (omega (arith, l, h))) in
    let z : b ≡ a + (b - a) = omega (arith, h) in
    let w : a ≡ 0 + a = omega arith in
    let ticks : plus (sum_ticks f 0 a) d ≡ sum_ticks g 0 b =
    ap (λ x. plus x d) one ∙ (ap (plus (sum_ticks g 0 a)) (two ∙ ap (λ k. sum_ticks g k (b - a)) w) ∙ (sym (sum_split g 0 a (b - a)) ∙ ap (sum_ticks g 0) (sym z))) in
    ap (λ x. plus (plus x d) e) is
    ∙ (plus_four (sum_ticks f 0 a) (events_sum net r xs) d e
    ∙ (ap (λ x. plus x (plus (events_sum net r xs) e)) ticks ∙ ap (plus (sum_ticks g 0 b)) (sym (events_append net r xs es))))
  where
    now : (a ≡ b) ⊎ (rates ≡ rates_from net 0 net.parts s.marking) → (t : ℕ) → a ≤ t → t < b → tick_sum net r t rates ≡ ticked net r opening xs t
    now (inl e) t k l = absurd (omega (arith, e, k, l))
    now (inr e) t k l = ap (tick_sum net r t) (e ∙ ap (rates_from net 0 net.parts) (sym (marked_end net opening s xs a t early runs k)))

-- sums by number
pub sums_long : (f : ℕ → Rated → Rated) (a : ℕ) (ss : List Rated) → length (sums_from f a ss) ≡ length ss
sums_long f a [] = refl
sums_long f a (s ∷ ss) = ap suc (sums_long f (suc a) ss)

pub sums_at : (f : ℕ → Rated → Rated) (a m i : ℕ) (ss : List Rated) → i < length ss → m ≡ a + i → slice_index_or (sums_from f a ss) i zero_sum ≡ f m (slice_index_or ss i zero_sum)
sums_at f a m i [] h e = absurd (omega (arith, h))
sums_at f a m zero (s ∷ ss) h e = let k : a ≡ m = omega (arith, e) in ap (λ r. f r s) k
sums_at f a m (suc i) (s ∷ ss) h e = sums_at f (suc a) m i ss (omega (arith, h)) (omega (arith, e))

-- a tally goes on from a to b, and counts the events at b
pub counts_more : (net : Net) (opening s : State) (xs es : List Event) (t : Tally) (a b : ℕ) → Runs net opening xs s → Counts net opening xs a t → AllAt b es → a ≤ b → b ≤ net.horizon
    → (a ≡ b) ⊎ (t.rates ≡ rates_from net 0 net.parts s.marking) → impulses_in es ≤ 1024 * length es
    → Counts net opening (xs ++ es) b (tally_after net t a b es)
counts_more net opening s xs es t a b runs counts at h timely same few =
    let f : ℕ → Rated → Rated = λ r sum. plus (going_on net t a (b - a) r sum) (events_sum net r es) in record {
      long = sums_long f 0 t.sums ∙ counts.long;
      sums = λ r l. sums_at f 0 r r t.sums (omega (arith, l, counts.long)) (omega arith) ∙ sum_more net r opening s xs es t.rates (sum_of t r) a b runs counts.early at (counts.sums r l) h same;
      impulses = omega (arith, counts.impulses, few, length-append xs es);
      early = to_append a b xs es h counts.early at;
      timely = timely;
    }

pub counts_later : (net : Net) (opening s : State) (past xs es : List Event) (t : Tally) (a b : ℕ) → Runs net opening (past ++ xs) s → Counts net opening (past ++ xs) a t → AllAt b es → a ≤ b → b ≤ net.horizon
    → (a ≡ b) ⊎ (t.rates ≡ rates_from net 0 net.parts s.marking) → impulses_in es ≤ 1024 * length es
    → Counts net opening (past ++ (xs ++ es)) b (tally_after net t a b es)
counts_later net opening s past xs es t a b runs counts at h timely same few =
    subst (λ (ys : List Event). Counts net opening ys b (tally_after net t a b es)) (append_assoc past xs es) (counts_more net opening s (past ++ xs) es t a b runs counts at h timely same few)
