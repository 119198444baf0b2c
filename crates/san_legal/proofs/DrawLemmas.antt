-- A renewal with other draws.
use Rattle.std.proofs.Common.{ℕ, zero, suc, ◌+◌, ◌≤◌, ◌<◌, ◌≡◌, ◌∙◌, ap, sym, subst, refl, arith, List, [], ◌∷◌, length, Option, Some, None, Result, Ok, Err, Bool, true, false, not, ◌&&◌, cond}
use Rattle.std.specs.Prelude.{slice_index}
use Rattle.san_base.specs.declared.ending.Trap.{Trap}
use Rattle.san_law.specs.Net.{Faulty, Fresh, Local, Renewing, Row, Timer}
use Rattle.san_law.specs.Activity.{ActKind, Activity, Answer, Instant, No, Pair, Part, Timed, Traps, Yes, delay_stream}
use Rattle.san_law.specs.Clocks.{AllClocks, BadClock, Clock, Clocks, activated, again_by, clock_then, delayed_by, held_by, paired_by, renewed_act, renewed_acts, renewed_row, row_of_clocks, same_list, timed_by}
use Rattle.san_legal.specs.Draws.{AgreeOn}
use Rattle.san_legal.specs.Locality.{RenewalLooksAtTaken}
use Rattle.san_legal.proofs.RowLemmas.{IsMore}

-- ---- one activity

-- an activation takes one draw
abbrev pub Takes : ℕ → Result Clock Trap → Type 0
Takes n (Ok c) = c.1 ≡ n + 1
Takes n (Err t) = Unit {0}

takes_held : (due n : ℕ) (a : Answer) → Takes n (held_by due n a)
takes_held due n (Traps t) = tt
takes_held due n No = refl
takes_held due n Yes = refl

takes_pair : (due n : ℕ) (values : List ℕ) (p : Option Pair) → Takes n (paired_by due n values p)
takes_pair due n values None = refl
takes_pair due n values (Some p) = takes_held due n (p.activation values)

pub takes_delay : (time n : ℕ) (values : List ℕ) (p : Option Pair) (d : Result ℕ Trap) → Takes n (delayed_by time n values p d)
takes_delay time n values p (Err t) = tt
takes_delay time n values p (Ok d) = takes_pair (time + d) n values p

-- a renewal takes at most one
abbrev Rises : ℕ → Result Clock Trap → Type 0
Rises n (Ok c) = n ≤ c.1
Rises n (Err t) = Unit {0}

rises_by : (n : ℕ) (r : Result Clock Trap) → Takes n r → Rises n r
rises_by n (Ok c) h = omega (arith, h)
rises_by n (Err t) h = tt

again_rises : (n : ℕ) (a : Answer) (t : Option Timer) (go : Result Clock Trap) → Rises n go → Rises n (again_by a (t, n) go)
again_rises n (Traps trap) t go h = tt
again_rises n No t go h = omega arith
again_rises n Yes t go h = h

kept_rises : (b : Bool) (n : ℕ) (a : Answer) (t : Option Timer) (go : Result Clock Trap) → Rises n go → Rises n (cond b (again_by a (t, n) go) (Ok (t, n)))
kept_rises true n a t go h = again_rises n a t go h
kept_rises false n a t go h = omega arith

timed_rises : (seen values : List ℕ) (x : Option Timer) (n : ℕ) (pair : Option Pair) (go : Result Clock Trap) (a : Answer) → Rises n go → Rises n (timed_by seen values x n pair go a)
timed_rises seen values x n pair go (Traps t) h = tt
timed_rises seen values x n pair go No h = omega arith
timed_rises seen values None n pair go Yes h = h
timed_rises seen values (Some t) n None go Yes h = omega arith
timed_rises seen values (Some t) n (Some p) go Yes h = kept_rises (t.held && not (same_list seen values)) n (p.reactivation values) (Some t) go h

act_rises : (draw : ℕ → ℕ) (time : ℕ) (seen values : List ℕ) (a : Activity) (kind : ActKind) (x : Option Timer) (n : ℕ) → Rises n (renewed_act draw time seen values a kind x n)
act_rises draw time seen values a (Instant p) x n = omega arith
act_rises draw time seen values a (Timed delay pair) x n =
    timed_rises seen values x n pair (activated draw time values delay pair n) (a.enabled values) (rises_by n (activated draw time values delay pair n) (takes_delay time n values pair (delay (draw n) values)))

-- whoever activates or not, what it gives
again_like : (a : Answer) (x c : Clock) (go other : Result Clock Trap) → again_by a x go ≡ Ok c → (go ≡ Ok c → other ≡ Ok c) → again_by a x other ≡ Ok c
again_like (Traps t) x c go other h k = absurd cc
again_like No x c go other h k = h
again_like Yes x c go other h k = k h

kept_like : (b : Bool) (a : Answer) (x c : Clock) (go other : Result Clock Trap) → cond b (again_by a x go) (Ok x) ≡ Ok c → (go ≡ Ok c → other ≡ Ok c) → cond b (again_by a x other) (Ok x) ≡ Ok c
kept_like true a x c go other h k = again_like a x c go other h k
kept_like false a x c go other h k = h

timed_like : (seen values : List ℕ) (x : Option Timer) (n : ℕ) (pair : Option Pair) (c : Clock) (go other : Result Clock Trap) (a : Answer) → timed_by seen values x n pair go a ≡ Ok c → (go ≡ Ok c → other ≡ Ok c) → timed_by seen values x n pair other a ≡ Ok c
timed_like seen values x n pair c go other (Traps t) h k = absurd cc
timed_like seen values x n pair c go other No h k = h
timed_like seen values None n pair c go other Yes h k = k h
timed_like seen values (Some t) n None c go other Yes h k = h
timed_like seen values (Some t) n (Some p) c go other Yes h k = kept_like (t.held && not (same_list seen values)) (p.reactivation values) (Some t, n) c go other h k

act_again : (draw other : ℕ → ℕ) (time : ℕ) (seen values : List ℕ) (a : Activity) (kind : ActKind) (x : Option Timer) (n : ℕ) (c : Clock) → renewed_act draw time seen values a kind x n ≡ Ok c → (n < c.1 → draw n ≡ other n) → renewed_act other time seen values a kind x n ≡ Ok c
act_again draw other time seen values a (Instant p) x n c h k = h
act_again draw other time seen values a (Timed delay pair) x n c h k =
    timed_like seen values x n pair c (activated draw time values delay pair n) (activated other time values delay pair n) (a.enabled values) h again
  where
    again : activated draw time values delay pair n ≡ Ok c → activated other time values delay pair n ≡ Ok c
    again e =
        let one : c.1 ≡ n + 1 = subst (Takes n) e (takes_delay time n values pair (delay (draw n) values)) in
        let same : draw n ≡ other n = k (omega (arith, one)) in
        ap (λ (u : ℕ). delayed_by time n values pair (delay u values)) (sym same) ∙ e

-- ---- all activities

numbers_of : Clocks → List ℕ
numbers_of (AllClocks ts ns) = ns
numbers_of (BadClock k trap) = []

module _ (draws others : ℕ → ℕ → ℕ) (time : ℕ) (seen values : List ℕ) where
  abbrev Agree : ℕ → List ℕ → List ℕ → Type 0
  Agree k [] ms = Unit {0}
  Agree k (n ∷ ns) [] = Unit {0}
  Agree k (n ∷ ns) (m ∷ ms) = (n < m → draws k n ≡ others k n) × Agree (suc k) ns ms

  -- a renewal of the others stands behind that of the first
  first_by : (k : ℕ) (a : Activity) (acts : List Activity) (t : Option Timer) (ts : List (Option Timer)) (n : ℕ) (ns : List ℕ) (us : List (Option Timer)) (ms : List ℕ) (x : Result Clock Trap) (rest : Clocks)
      → renewed_act (draws k) time seen values a a.kind t n ≡ x → renewed_acts draws time seen values (suc k) acts ts ns ≡ rest → clock_then k x rest ≡ AllClocks us ms → Agree k (n ∷ ns) ms
      → ((vs : List (Option Timer)) (ls : List ℕ) → renewed_acts draws time seen values (suc k) acts ts ns ≡ AllClocks vs ls → Agree (suc k) ns ls → renewed_acts others time seen values (suc k) acts ts ns ≡ AllClocks vs ls)
      → renewed_acts others time seen values k (a ∷ acts) (t ∷ ts) (n ∷ ns) ≡ AllClocks us ms
  unfolding numbers_of
  first_by k a acts t ts n ns us ms (Err e) rest one more all agree go = absurd cc
  first_by k a acts t ts n ns us ms (Ok c) (BadClock j e) one more all agree go = absurd cc
  first_by k a acts t ts n ns us ms (Ok c) (AllClocks vs ls) one more all agree go =
      let parts : Agree k (n ∷ ns) (c.1 ∷ ls) = subst (Agree k (n ∷ ns)) (sym (ap numbers_of all)) agree in
      ap (λ (x : Result Clock Trap). clock_then k x (renewed_acts others time seen values (suc k) acts ts ns)) (act_again (draws k) (others k) time seen values a a.kind t n c one parts.0)
      ∙ (ap (λ (r : Clocks). clock_then k (Ok c) r) (go vs ls more parts.1) ∙ all)

  acts_again : (k : ℕ) (acts : List Activity) (ts : List (Option Timer)) (ns : List ℕ) (us : List (Option Timer)) (ms : List ℕ) → renewed_acts draws time seen values k acts ts ns ≡ AllClocks us ms → Agree k ns ms → renewed_acts others time seen values k acts ts ns ≡ AllClocks us ms
  acts_again k [] ts ns us ms h agree = h
  acts_again k (a ∷ acts) [] ns us ms h agree = h
  acts_again k (a ∷ acts) (t ∷ ts) [] us ms h agree = h
  acts_again k (a ∷ acts) (t ∷ ts) (n ∷ ns) us ms h agree =
      first_by k a acts t ts n ns us ms (renewed_act (draws k) time seen values a a.kind t n) (renewed_acts draws time seen values (suc k) acts ts ns) refl refl h agree (acts_again (suc k) acts ts ns)

  -- by number
  agree_by : (k : ℕ) (ns ms : List ℕ) → ((i n : ℕ) → slice_index ns i ≤ n → n < slice_index ms i → draws (k + i) n ≡ others (k + i) n) → Agree k ns ms
  agree_by k [] ms h = tt
  agree_by k (n ∷ ns) [] h = tt
  agree_by k (n ∷ ns) (m ∷ ms) h =
      let here : k + 0 ≡ k = omega arith in (
        (λ l. subst (λ (x : ℕ). draws x n ≡ others x n) here (h 0 n (omega arith) l)),
        agree_by (suc k) ns ms (λ i p a b. (let there : k + suc i ≡ suc k + i = omega arith in subst (λ (x : ℕ). draws x p ≡ others x p) there (h (suc i) p a b))),
      )

-- as many, and no smaller numbers
abbrev Grow : List (Option Timer) → List ℕ → Clocks → Type 0
Grow ts ns (AllClocks us ms) = (length us ≡ length ts) × (length ms ≡ length ns) × ((i : ℕ) → slice_index ns i ≤ slice_index ms i)
Grow ts ns (BadClock k trap) = Unit {0}

grow_then : (k : ℕ) (t : Option Timer) (ts : List (Option Timer)) (n : ℕ) (ns : List ℕ) (x : Result Clock Trap) (rest : Clocks) → Rises n x → Grow ts ns rest → Grow (t ∷ ts) (n ∷ ns) (clock_then k x rest)
grow_then k t ts n ns (Err e) rest h g = tt
grow_then k t ts n ns (Ok c) (BadClock j e) h g = tt
grow_then k t ts n ns (Ok c) (AllClocks us ms) h g = (ap suc g.0, ap suc g.1, each)
  where
    each : (i : ℕ) → slice_index (n ∷ ns) i ≤ slice_index (c.1 ∷ ms) i
    each zero = h
    each (suc i) = g.2 i

acts_grow : (draws : ℕ → ℕ → ℕ) (time : ℕ) (seen values : List ℕ) (k : ℕ) (acts : List Activity) (ts : List (Option Timer)) (ns : List ℕ) → Grow ts ns (renewed_acts draws time seen values k acts ts ns)
acts_grow draws time seen values k [] ts ns = (refl, refl, λ i. omega arith)
acts_grow draws time seen values k (a ∷ acts) [] ns = (refl, refl, λ i. omega arith)
acts_grow draws time seen values k (a ∷ acts) (t ∷ ts) [] = (refl, refl, λ i. omega arith)
acts_grow draws time seen values k (a ∷ acts) (t ∷ ts) (n ∷ ns) =
    grow_then k t ts n ns (renewed_act (draws k) time seen values a a.kind t n) (renewed_acts draws time seen values (suc k) acts ts ns)
    (act_rises (draws k) time seen values a a.kind t n) (acts_grow draws time seen values (suc k) acts ts ns)

-- ---- a leaf

row_in : Renewing → Row → Row
row_in (Fresh r) x = r
row_in (Faulty k trap) x = x

pub same_fresh : (a b : Row) → Fresh a ≡ Fresh b → a ≡ b
unfolding row_in
same_fresh a b e = ap (λ (x : Renewing). row_in x a) e

module _ (draw other : ℕ → ℕ → ℕ) (part : Part) (time : ℕ) (seen : List ℕ) (l : Local) where
  row_by : (x : Clocks) (r : Row) → renewed_acts (λ j. draw (delay_stream part j)) time seen l.values 0 part.activities l.row.timers l.row.delays ≡ x → row_of_clocks l.row.cases x ≡ Fresh r → AgreeOn draw other part l.row r → renewed_row other part time seen l ≡ Fresh r
  row_by (BadClock k trap) r is h agree = absurd cc
  row_by (AllClocks ts ns) r is h agree =
      let new : Row = record { timers = ts; delays = ns; cases = l.row.cases } in
      let taken : AgreeOn draw other part l.row new = subst (AgreeOn draw other part l.row) (sym (same_fresh new r h)) agree in
      let streams = λ (x : ℕ → ℕ → ℕ) (j : ℕ). x (delay_stream part j) in
      let same : Agree (streams draw) (streams other) time seen l.values 0 l.row.delays ns = agree_by (streams draw) (streams other) time seen l.values 0 l.row.delays ns (λ i n a b. (let at : 0 + i ≡ i = omega arith in subst (λ (k : ℕ). draw (delay_stream part k) n ≡ other (delay_stream part k) n) (sym at) (taken.delays i n a b))) in
      ap (row_of_clocks l.row.cases) (acts_again (streams draw) (streams other) time seen l.values 0 part.activities l.row.timers l.row.delays ts ns is same) ∙ h

  pub row_again : (r : Row) → renewed_row draw part time seen l ≡ Fresh r → AgreeOn draw other part l.row r → renewed_row other part time seen l ≡ Fresh r
  row_again r h agree = row_by (renewed_acts (λ j. draw (delay_stream part j)) time seen l.values 0 part.activities l.row.timers l.row.delays) r refl h agree

pub renewal_looks_at_taken : (part : Part) → RenewalLooksAtTaken part
renewal_looks_at_taken part draw other time seen l r h agree = row_again draw other part time seen l r h agree

-- what a renewal leaves
abbrev pub MoreBy : Row → Renewing → Type 0
MoreBy old (Fresh r) = IsMore old r × (r.cases ≡ old.cases)
MoreBy old (Faulty k trap) = Unit {0}

more_by : (old : Row) (x : Clocks) → Grow old.timers old.delays x → MoreBy old (row_of_clocks old.cases x)
more_by old (AllClocks us ms) g = (record { timers = g.0; delays = g.1; cases = refl; more_delays = g.2; more_cases = λ k. omega arith }, refl)
more_by old (BadClock k trap) g = tt

pub row_more : (draw : ℕ → ℕ → ℕ) (part : Part) (time : ℕ) (seen : List ℕ) (l : Local) → MoreBy l.row (renewed_row draw part time seen l)
row_more draw part time seen l = more_by l.row (renewed_acts (λ k. draw (delay_stream part k)) time seen l.values 0 part.activities l.row.timers l.row.delays) (acts_grow (λ k. draw (delay_stream part k)) time seen l.values 0 part.activities l.row.timers l.row.delays)
