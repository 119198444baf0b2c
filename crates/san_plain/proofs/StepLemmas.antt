-- What a step of a run comes to: of which activity it tells, and what it leaves.
use Rattle.std.proofs.Common.{ℕ, zero, suc, ◌+◌, ◌≤◌, ◌<◌, ◌≡◌, ◌∙◌, ap, refl, subst, arith, List, [], ◌∷◌, length, map, Option, Some, None, Result, Ok, Err, Bool, true, false, nat_le, nat_lt, cond, slice_set, slice_index_or}
use Rattle.std.proofs.lemmas.List.{length-set}
use Rattle.san_base.specs.declared.ending.Trap.{Trap}
use Rattle.san_law.proofs.Places.{scatter_length}
use Rattle.san_law.proofs.Within.{RowWithin, clocks_within, row_within}
use Rattle.san_law.specs.Activity.{Activity}
use Rattle.san_law.specs.Activity as leaf
use Rattle.san_law.specs.Lawful.{IsLawful}
use Rattle.san_law.specs.Net.{Done, Faulty, Fresh, Net, Renewing, Row, Slot, Timer, least_timer, without_timer}
use Rattle.san_law.specs.Network.{Limits, no_part, part_at}
use Rattle.san_law.specs.Next.{Completes, Next, Stable, TrapsAt, next_instant}
use Rattle.san_law.specs.Renewal.{AllFresh, Due, FaultAt, Renewal, and_rest, least_from, renewed_at, renewed_from, renewed_then}
use Rattle.san_law.specs.State.{State, blank_rows, gather, local_of, opening_state, repeated, scatter, slots_of}
use Rattle.san_law.specs.Step.{End, Ending, Event, Events, Happened, Over, Stepped, Trapped, Unstable, at_due, at_next, at_rest, complete, count_limit, fire, fired, limit_at, step, unless_over}
use Rattle.san_law.specs.Trajectory.{Runs}
use Rattle.san_net.specs.Leaf.{leaf_of}
use Rattle.san_net.specs.Network.{Network, net_of, network_in}
use Rattle.san_seq.specs.inner.Rows.{row_at}
use Rattle.san_net.specs.Tables.{IsActOf}
use Rattle.san_seq.proofs.RangeLemmas.{act_is_of, acts_next, due_within, next_in_range}

-- no row has more timers than its leaf has activities
abbrev pub TimersFit : Net → List Row → Type 0
TimersFit net rows = (j : ℕ) → length (row_at rows j).timers ≤ net.acts j

pub record Fits (n : Network) (net : Net) (s : State) : Type 0 where
  pub timers : TimersFit net s.rows
  pub last : (j : ℕ) → s.last ≡ Some j → j < length n.parts
  pub sized : length s.marking ≡ length n.initial

-- an event's activity is one of the network, and only its leaf's places changed
pub record Completion (n : Network) (net : Net) (s : State) (e : Event) (t : State) : Type 0 where
  pub act : IsActOf n e.leaf e.act
  pub values : List ℕ
  pub marking : t.marking ≡ scatter (slots_of net e.leaf) values s.marking
  pub fits : Fits n net t

-- a run ends at the horizon, or by a limit, or by a trap of an activity of the network
abbrev pub IsEnd : Network → Net → ℕ → Ending → Type 0
IsEnd n net time End = time ≡ net.horizon
IsEnd n net time Unstable = Unit {0}
IsEnd n net time Events = Unit {0}
IsEnd n net time (Trapped j k trap) = IsActOf n j k

abbrev pub Came : Network → Net → State → Stepped × State → Type 0
Came n net s (Happened e, t) = Completion n net s e t
Came n net s (Over time e, t) = IsEnd n net time e

-- rows with as many timers, or a fault of a leaf's activity
abbrev Renewed : Net → List Row → Renewal → Type 0
Renewed net rows (AllFresh fresh) = (j : ℕ) → length (row_at fresh j).timers ≡ length (row_at rows j).timers
Renewed net rows (FaultAt j k trap) = k < net.acts j

rest_renewed : (net : Net) (r now : Row) (rs : List Row) (x : Renewal) → length now.timers ≡ length r.timers → Renewed net rs x → Renewed net (r ∷ rs) (and_rest now x)
rest_renewed net r now rs (AllFresh fresh) e within = each
  where
    each : (j : ℕ) → length (row_at (now ∷ fresh) j).timers ≡ length (row_at (r ∷ rs) j).timers
    each zero = e
    each (suc j) = within j
rest_renewed net r now rs (FaultAt j k trap) e within = within

then_renewed : (net : Net) (i : ℕ) (r : Row) (rs : List Row) (x : Renewing) (rest : Renewal) → RowWithin (length r.timers) (net.acts i) x → Renewed net rs rest → Renewed net (r ∷ rs) (renewed_then i x rest)
then_renewed net i r rs (Fresh now) rest h within = rest_renewed net r now rs rest h within
then_renewed net i r rs (Faulty k trap) rest h within = h

any_row : (P : ℕ → Row → Type 0) (rows : List Row) (j : ℕ) (new : Row) → ((i : ℕ) → P i (row_at rows i)) → P j new → (i : ℕ) → P i (row_at (slice_set rows j new) i)
any_row P [] j new all p i = all i
any_row P (r ∷ rs) zero new all p zero = p
any_row P (r ∷ rs) zero new all p (suc i) = all (suc i)
any_row P (r ∷ rs) (suc j) new all p zero = all zero
any_row P (r ∷ rs) (suc j) new all p (suc i) = any_row (λ m. P (suc m)) rs j new (λ m. all (suc m)) p i

many_repeated : (k : ℕ) → length (repeated {A = Option Timer} k None) ≡ k
many_repeated zero = refl
many_repeated (suc k) = ap suc (many_repeated k)

blank_fit : (net : Net) (i : ℕ) (ps : List (List Slot)) (j : ℕ) → length (row_at (blank_rows net i ps) j).timers ≤ net.acts (i + j)
blank_fit net i [] j = omega arith
blank_fit net i (p ∷ ps) zero = let z : i + 0 ≡ i = omega arith in omega (arith, many_repeated (net.acts i), ap net.acts z)
blank_fit net i (p ∷ ps) (suc j) = let z : suc i + j ≡ i + suc j = omega arith in omega (arith, blank_fit net (suc i) ps j, ap net.acts z)

acts_inside : (ps : List leaf.Part) (j k : ℕ) → k < length (slice_index_or ps j no_part).activities → j < length (map (λ (p : leaf.Part). p.slots) ps)
acts_inside [] j k h = absurd (omega (arith, h))
acts_inside (p ∷ ps) zero k h = omega arith
acts_inside (p ∷ ps) (suc j) k h = omega (arith, acts_inside ps j k h)

module _ (n : Network) (draw : ℕ → ℕ → ℕ) (bounds : Limits) (ok : IsLawful (net_of n draw bounds)) where
  abbrev net : Net
  net = net_of n draw bounds

  is_act : (j k : ℕ) → k < net.acts j → IsActOf n j k
  is_act j k h = act_is_of n draw bounds j k (acts_inside (map leaf_of n.parts) j k h) h

  renewal : (s : State) (i : ℕ) (rows : List Row) → Renewed net rows (renewed_from net s i rows)
  renewal s i [] = λ j. refl
  renewal s i (r ∷ rs) =
      let part = part_at (network_in n) i in
      then_renewed net i r rs (renewed_at net s i r) (renewed_from net s (suc i) rs)
      (row_within (length r.timers) (length part.activities) r.cases _ (clocks_within (λ k. draw (leaf.delay_stream part k)) s.time (gather (slots_of net i) s.stable) (gather (slots_of net i) s.marking) (length part.activities) 0 part.activities r.timers r.delays (omega arith)))
      (renewal s (suc i) rs)

  same_leaf : (x y : ℕ) → (let o : Option ℕ = Some x in o) ≡ Some y → x ≡ y
  same_leaf x y e = cc

  complete_came : (s u : State) (burst j k : ℕ) (r : Result Done Trap) → IsActOf n j k → u.marking ≡ s.marking → Fits n net u → net.done j k (local_of net u j) ≡ r → Came n net s (complete net u burst j k r)
  complete_came s u burst j k (Err trap) act same fits done = act
  complete_came s u burst j k (Ok d) act same fits done = record {
    act = act;
    values = d.left.values;
    marking = ap (scatter (slots_of net j) d.left.values) same;
    fits = record {
      timers = any_row (λ i (x : Row). length x.timers ≤ net.acts i) u.rows j d.left.row fits.timers (let many = ap (λ ts. length ts) (ok.timers j k (local_of net u j) d done) in omega (arith, many, fits.timers j));
      last = λ i e. subst (λ (x : ℕ). x < length n.parts) (same_leaf j i e) act.leaf;
      sized = scatter_length (slots_of net j) d.left.values u.marking ∙ fits.sized;
    };
  }

  -- what a limit says
  abbrev IsLimit : Option Ending → Type 0
  IsLimit None = Unit {0}
  IsLimit (Some e) = (time : ℕ) → IsEnd n net time e

  events_limit : (b : Bool) → IsLimit (cond b None (Some Events))
  events_limit true = tt
  events_limit false = λ time. tt

  burst_limit : (b : Bool) (o : Option Ending) → IsLimit o → IsLimit (cond b o (Some Unstable))
  burst_limit true o h = h
  burst_limit false o h = λ time. tt

  unless_came : (s u : State) (o : Option Ending) (x : Stepped × State) → IsLimit o → Came n net s x → Came n net s (unless_over u o x)
  unless_came s u None x limit h = h
  unless_came s u (Some e) x limit h = limit u.time

  fits_fired : (s : State) (rows : List Row) (d : Due) → TimersFit net rows → Fits n net s → Fits n net (fired net s rows d)
  unfolding without_timer
  fits_fired s rows d timers fits = record {
    timers = any_row (λ i (x : Row). length x.timers ≤ net.acts i) rows d.leaf (without_timer (row_at rows d.leaf) d.act) timers (let many = length-set (row_at rows d.leaf).timers d.act None in omega (arith, many, timers d.leaf));
    last = fits.last;
    sized = fits.sized;
  }

  due_came : (s : State) (rows : List Row) (o : Option Due) → TimersFit net rows → Fits n net s → least_from 0 (map least_timer rows) ≡ o → Came n net s (at_due net s rows o)
  due_came s rows None timers fits least = refl
  due_came s rows (Some d) timers fits least = by_test (nat_le d.time net.horizon)
    where
      by_test : (b : Bool) → Came n net s (cond b (fire net (fired net s rows d) d.leaf d.act) (Over net.horizon End, s))
      by_test false = refl
      by_test true =
          let u = fired net s rows d in
          let due = due_within rows d least in
          unless_came s u (count_limit net u.count) (complete net u 0 d.leaf d.act (net.done d.leaf d.act (local_of net u d.leaf))) (events_limit (nat_lt u.count net.limit))
          (complete_came s u 0 d.leaf d.act (net.done d.leaf d.act (local_of net u d.leaf)) (is_act d.leaf d.act (omega (arith, due.1, timers d.leaf))) refl (fits_fired s rows d timers fits) refl)

  rest_came : (s : State) (x : Renewal) → Fits n net s → Renewed net s.rows x → Came n net s (at_rest net s x)
  rest_came s (FaultAt j k trap) fits h = is_act j k h
  rest_came s (AllFresh rows) fits h = due_came s rows (least_from 0 (map least_timer rows)) (λ j. omega (arith, h j, fits.timers j)) fits refl

  next_came : (s : State) (x : Next) → Fits n net s → ((j k : ℕ) → acts_next x ≡ Some (j, k) → IsActOf n j k) → Came n net s (at_next net s x)
  next_came s Stable fits acts = rest_came s (renewed_from net s 0 s.rows) fits (renewal s 0 s.rows)
  next_came s (TrapsAt j k trap) fits acts = acts j k refl
  next_came s (Completes j k) fits acts =
      unless_came s s (limit_at net s.burst s.count) (complete net s (s.burst + 1) j k (net.done j k (local_of net s j)))
      (burst_limit (nat_lt s.burst net.burst) (count_limit net s.count) (events_limit (nat_lt s.count net.limit)))
      (complete_came s s (s.burst + 1) j k (net.done j k (local_of net s j)) (acts j k refl) refl fits refl)

  pub step_came : (s : State) → Fits n net s → Came n net s (step net s)
  unfolding step
  step_came s fits = next_came s (next_instant net s) fits (λ j k e. next_in_range n draw bounds s j k fits.last e)

  same_event : (a b : Event) → Happened a ≡ Happened b → a ≡ b
  same_event a b e = cc

  event_by : (s : State) (x : Stepped × State) (e : Event) → x.0 ≡ Happened e → Came n net s x → Completion n net s e x.1
  event_by s (Happened f, t) e is came = subst (λ (g : Event). Completion n net s g t) (same_event f e is) came
  event_by s (Over time f, t) e is came = absurd cc

  end_of : (x y : ℕ) (a b : Ending) → Over x a ≡ Over y b → (x ≡ y) × (a ≡ b)
  end_of x y a b e = (cc, cc)

  over_by : (s : State) (x : Stepped × State) (time : ℕ) (e : Ending) → x.0 ≡ Over time e → Came n net s x → IsEnd n net time e
  over_by s (Happened f, t) time e is came = absurd cc
  over_by s (Over at f, t) time e is came =
      let same = end_of at time f e is in
      subst (λ (x : ℕ). IsEnd n net x e) same.0 (subst (IsEnd n net at) same.1 came)

  pub completes : (s : State) (e : Event) → Fits n net s → (step net s).0 ≡ Happened e → Completion n net s e (step net s).1
  completes s e fits is = event_by s (step net s) e is (step_came s fits)

  pub ends : (s : State) (time : ℕ) (e : Ending) → Fits n net s → (step net s).0 ≡ Over time e → IsEnd n net time e
  ends s time e fits is = over_by s (step net s) time e is (step_came s fits)

  fits_on : (es : List Event) (s t : State) → Fits n net s → Runs net s es t → Fits n net t
  fits_on [] s t fits runs = subst (Fits n net) runs fits
  fits_on (e ∷ es) s t fits runs = fits_on es (step net s).1 t (completes s e fits runs.0).fits runs.1

  none_last : (j : ℕ) → (let o : Option ℕ = None in o) ≡ Some j → j < length n.parts
  none_last j e = absurd cc

  -- what holds of every state of a run
  pub fits_at : (es : List Event) (s : State) → Runs net (opening_state net) es s → Fits n net s
  fits_at es s runs = fits_on es (opening_state net) s (record { timers = λ j. (let z : 0 + j ≡ j = omega arith in subst (λ (m : ℕ). length (row_at (blank_rows net 0 net.parts) j).timers ≤ net.acts m) z (blank_fit net 0 net.parts j)); last = none_last; sized = refl }) runs
