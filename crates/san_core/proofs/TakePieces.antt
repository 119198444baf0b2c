-- What taking a piece asks of the committed part's steps, and what they come to.
use Rattle.std.proofs.Common.{ℕ, zero, suc, ◌+◌, ◌-◌, ◌*◌, ◌^◌, ◌<◌, ◌≤◌, ◌≡◌, ◌∙◌, ◌⊎◌, inl, inr, ap, sym, refl, subst, All, List, [], ◌∷◌, ◌++◌, length, map, Option, Some, None, arith, slice_index_or}
use Rattle.std.specs.Prelude.{slice_get, take}
use Rattle.std.specs.Option.{option_map}
use Rattle.std.proofs.lemmas.List.{append-nil, length-append, length-map}
use Rattle.san_base.specs.declared.ending.Event as named
use Rattle.san_base.specs.declared.limits.TheConstants.{MAX_IMPULSES}
use Rattle.san_base.specs.declared.numbers.ActId.{ActId}
use Rattle.san_base.specs.declared.numbers.Tick.{Tick}
use Rattle.san_base.specs.declared.piece.Kind.{Kind}
use Rattle.san_base.specs.declared.piece.Kind.TheVariants as kind
use Rattle.san_base.specs.Rated.{term_value}
use Rattle.san_law.specs.Net as law
use Rattle.san_law.specs.Net.{Net}
use Rattle.san_law.specs.Admitted.{event_by}
use Rattle.san_law.specs.Block.{Completion, Fault}
use Rattle.san_law.specs.Core.{Core, burst_after, taken, take_admitted}
use Rattle.san_law.specs.Piece as piece
use Rattle.san_law.specs.Piece.{LeafState}
use Rattle.san_law.specs.Step.{Ending, Event}
use Rattle.san_leaf.specs.Events.{completions_from, impulses_at}
use Rattle.san_leaf.specs.Outcomes.{IsEventOf, IsNumbered, act_in, fault_in, outcome_in}
use Rattle.san_leaf.specs.Pieces.{PieceValue}
use Rattle.san_leaf.specs.States.{kind_in, pair_in}
use Rattle.san_leaf.specs.declared.outcome.Outcome.{Outcome}
use Rattle.san_leaf.specs.declared.recorder.Impulse.{Impulse}
use Rattle.san_net.specs.Network.{Network}
use Rattle.san_net.specs.Tables.{first_of}
use Rattle.san_net.specs.declared.part.Part.{Part}
use Rattle.san_net.specs.Runs.{event_in}
use Rattle.san_core.specs.Committed.{CommittedValue, with_taken}
use Rattle.san_core.specs.declared.admission.Taking.{Taking}
use Rattle.san_core.specs.declared.over.Over.{Over}
use Rattle.san_core.specs.inner.Admits.{admits, closes, ends_by, over_in, passes}
use Rattle.san_core.specs.inner.CanTake.{CanTake}
use Rattle.san_core.specs.inner.Impulses.{impulses_from}
use Rattle.san_core.specs.inner.Steps.{counted_by, ended_by, with_counts}
use Rattle.san_core.specs.inner.Suits.{Suits}
use Rattle.san_core.proofs.Passes.{admits_passed}
use Rattle.san_core.proofs.Suiting.{all_of, of_none}
use Rattle.san_core.proofs.Takes as takes
use Rattle.san_core.proofs.Takes.{Whole, put_is, stop_is, taken_is}
use Rattle.san_leaf.proofs.RecordLemmas.{completions_long}

all_append : {X : Type 0} (P : X → Type 0) (xs ys : List X) → All P xs → All P ys → All P (xs ++ ys)
all_append P [] ys a b k d l = b k d l
all_append P (x ∷ xs) ys a b zero d l = a 0 d (omega arith)
all_append P (x ∷ xs) ys a b (suc k) d l = all_append P xs ys (λ i e m. a (suc i) e (omega (arith, m))) b k d (omega (arith, l))

-- the impulses that are let through
impulses_all : (P : law.Impulse → Type 0) (i p : ℕ) (acts : List (ℕ × ℕ)) (xs : List Impulse) → p ≤ length acts → All (λ k. All P k.impulses) (completions_from i acts xs) → All P (impulses_from i p xs)
impulses_all P i zero acts xs l h = of_none P
impulses_all P i (suc p) [] xs l h = absurd (omega (arith, l))
impulses_all P i (suc p) (a ∷ acts) xs l h =
    all_append P (impulses_at i xs) (impulses_from (i + 1) p xs) (h 0 (record { act = a.0; case = a.1; impulses = impulses_at i xs }) (omega arith))
    (impulses_all P (i + 1) p acts xs (omega (arith, l)) (λ k d m. h (suc k) d (omega (arith, m))))

impulses_few : (i p : ℕ) (acts : List (ℕ × ℕ)) (xs : List Impulse) → p ≤ length acts → All (λ k. length k.impulses ≤ 1024) (completions_from i acts xs) → length (impulses_from i p xs) ≤ 1024 * p
impulses_few i zero acts xs l h = omega arith
impulses_few i (suc p) [] xs l h = absurd (omega (arith, l))
impulses_few i (suc p) (a ∷ acts) xs l h =
    let here = h 0 (record { act = a.0; case = a.1; impulses = impulses_at i xs }) (omega arith) in
    let rest = impulses_few (i + 1) p acts xs (omega (arith, l)) (λ k d m. h (suc k) d (omega (arith, m))) in
    omega (arith, here, rest, length-append (impulses_at i xs) (impulses_from (i + 1) p xs))

-- a renewal that isn't stopped has no fault
closes_none : (most limit j burst count : ℕ) (fault : Option Fault) → closes most limit j burst count fault ≡ None → fault ≡ None
closes_none most limit j burst count None e = refl
closes_none most limit j burst count (Some f) e = absurd cc

ends_none : (a b : Option Ending) → ends_by a b ≡ None → b ≡ None
ends_none None b e = e
ends_none (Some x) b e = absurd cc

faultless : (most limit j burst count n : ℕ) (fault : Option Fault) → (admits most limit j burst count piece.Refresh fault n).1 ≡ None → fault ≡ None
faultless most limit j burst count n fault e =
    let p = passes most limit burst count n in
    closes_none most limit j (burst + p.0) (count + p.0) fault (ends_none p.1 (closes most limit j (burst + p.0) (count + p.0) fault) e)

-- a leaf's first number
pub first_at : (parts : List Part) (j : ℕ) (p : Part) → slice_get parts j ≡ Some p → slice_index_or (map (λ (q : Part). q.first.0) parts) j 0 ≡ p.first.0
first_at [] j p is = absurd cc
first_at (q ∷ parts) zero p is = ap (λ (x : Option Part). first_of x) is
first_at (q ∷ parts) (suc j) p is = first_at parts j p is

-- an event and its completion
event_is : (n : Network) (j first time : ℕ) (e : named.Event) (xs : List law.Impulse) → first_of (slice_get n.parts j) ≡ first → IsEventOf first time e
    → event_in n (event_by time j (record { act = e.act.0 - first; case = e.case; impulses = xs })) ≡ e
event_is n j first time e xs at h =
    let act : first + (e.act.0 - first) ≡ e.act.0 = omega (arith, h.act) in
    ap (λ (x : ℕ). made (record { 0 = time }) (record { 0 = x + (e.act.0 - first) })) at
    ∙ (ap (λ (x : ℕ). made (record { 0 = time }) (record { 0 = x })) act
    ∙ ap (λ (x : ℕ). made (record { 0 = x }) (record { 0 = e.act.0 })) (sym h.time_is))
  where
    made : Tick → ActId → named.Event
    made t a = record { time = t; act = a; case = e.case }

events_are : (n : Network) (j first time i p : ℕ) (events : List named.Event) (xs : List Impulse) → first_of (slice_get n.parts j) ≡ first → All (IsEventOf first time) events
    → map (event_in n) (map (event_by time j) (take p (completions_from i (map (act_in first) events) xs))) ≡ take p events
events_are n j first time i zero events xs at h = refl
events_are n j first time i (suc p) [] xs at h = refl
events_are n j first time i (suc p) (e ∷ events) xs at h =
    ap (λ (x : named.Event). x ∷ map (event_in n) (map (event_by time j) (take p (completions_from (i + 1) (map (act_in first) events) xs)))) (event_is n j first time e (impulses_at i xs) at (h 0 e (omega arith)))
    ∙ ap (λ (es : List named.Event). e ∷ es) (events_are n j first time (i + 1) p events xs at (λ k d l. h (suc k) d (omega (arith, l))))

module _ (net : Net) (n : Network) (v : CommittedValue) (p : PieceValue) (can : CanTake net n v p)
    (q : Part) (k : Kind) (time : Tick) (o : Outcome) (part : q ≡ p.part) (kind_is : k ≡ p.kind) (time_is : time.0 ≡ p.time)
    (same : outcome_in p.part.first.0 o ≡ p.outcome) (numbered : IsNumbered p.part.first.0 p.time o) where
  abbrev j : ℕ
  j = q.leaf.0

  abbrev first : ℕ
  first = q.first.0

  abbrev made : piece.Outcome
  made = outcome_in first o

  abbrev here : piece.Kind
  here = kind_in first k

  abbrev acts : List (ℕ × ℕ)
  acts = map (act_in first) o.events.items

  abbrev SuitsAt : Part → Kind → ℕ → piece.Outcome → Type 0
  SuitsAt q k time out = Suits net (length v.core.shared) (length n.initial) v.core.order.time (kind_in q.first.0 k) time q.leaf.0 p.base out

  made_is : made ≡ p.outcome
  made_is = ap (λ (x : Part). outcome_in x.first.0 o) part ∙ same

  suits : SuitsAt q k time.0 made
  suits =
      subst (SuitsAt q k time.0) (sym made_is)
      (subst (λ (x : ℕ). SuitsAt q k x p.outcome) (sym time_is)
      (subst (λ (x : Kind). SuitsAt q x p.time p.outcome) (sym kind_is)
      (subst (λ (x : Part). SuitsAt x p.kind p.time p.outcome) (sym part) can.suits)))

  pub there : slice_get n.parts j ≡ Some q
  there = subst (λ (x : Part). slice_get n.parts x.leaf.0 ≡ Some x) (sym part) can.part

  numbered_here : IsNumbered first time.0 o
  numbered_here = subst (λ (x : ℕ). IsNumbered first x o) (sym time_is) (subst (λ (x : Part). IsNumbered x.first.0 p.time o) (sym part) numbered)

  long : length made.completions ≡ length o.events.items
  long = completions_long 0 acts o.impulses.items ∙ length-map o.events.items (act_in first)

  acts_long : length acts ≡ length o.events.items
  acts_long = length-map o.events.items (act_in first)

  pub events_few : length o.events.items ≤ 64
  events_few = omega (arith, long, suits.few)

  pub first_is : slice_index_or v.firsts j 0 ≡ first
  first_is = ap (λ (xs : List ℕ). slice_index_or xs j 0) can.belongs.firsts ∙ first_at n.parts j q there

  pub written_is : All (λ w. w.0.0 < length n.initial) o.writes.items
  written_is i d l = (all_of (λ w. (w.0 < length v.core.shared) × (w.0 < length n.initial)) pair_in o.writes.items suits.written i d l).1

  pub places_are : All (λ w. w.0.0 < length v.core.shared) o.writes.items
  places_are i d l = (all_of (λ w. (w.0 < length v.core.shared) × (w.0 < length n.initial)) pair_in o.writes.items suits.written i d l).0

  pub writes_few : length o.writes.items ≤ 256
  writes_few = omega (arith, suits.writes, length-map o.writes.items pair_in)

  pub row_few : length o.state.row.timers ≤ 65536
  row_few = omega (arith, suits.timers, can.row)

  -- what is let through
  module _ (passed : ℕ) (over : Option Over)
      (is : (passed, option_map over_in over) ≡ admits net.burst net.limit j v.core.burst v.core.count here (option_map (fault_in first) o.fault) (length o.events.items)) where
    abbrev allowed : ℕ × Option Ending
    allowed = admits net.burst net.limit j v.core.burst v.core.count here (option_map (fault_in first) o.fault) (length o.events.items)

    abbrev bounds : Rattle.san_core.proofs.Passes.Passed net.burst v.core.burst (length o.events.items) here allowed
    bounds = admits_passed net.burst net.limit j v.core.burst v.core.count here (option_map (fault_in first) o.fault) (length o.events.items)

    passed_is : passed ≡ allowed.0
    passed_is = ap (λ (x : ℕ × Option Ending). x.0) is

    over_is : option_map over_in over ≡ allowed.1
    over_is = ap (λ (x : ℕ × Option Ending). x.1) is

    pub within : passed ≤ length o.events.items
    within = omega (arith, passed_is, bounds.within)

    within_acts : passed ≤ length acts
    within_acts = omega (arith, within, acts_long)

    pub burst_fits : v.core.burst < 2 ^ 32 → burst_after (kind_in 0 k) v.core.burst passed < 2 ^ 32
    burst_fits b = by_case (subst (λ (x : ℕ). (burst_after here v.core.burst x ≤ v.core.burst) ⊎ (burst_after here v.core.burst x ≤ net.burst)) (sym passed_is) bounds.burst)
      where
        at_zero : (k : Kind) → burst_after (kind_in 0 k) v.core.burst passed ≡ burst_after (kind_in first k) v.core.burst passed
        at_zero kind.Settle = refl
        at_zero (kind.Fire act) = refl
        at_zero kind.Refresh = refl

        by_case : (burst_after here v.core.burst passed ≤ v.core.burst) ⊎ (burst_after here v.core.burst passed ≤ net.burst) → burst_after (kind_in 0 k) v.core.burst passed < 2 ^ 32
        by_case (inl l) = omega (arith, l, b, at_zero k)
        by_case (inr l) = omega (arith, l, can.most, at_zero k)

    pub rewards_known : All (λ x. x.reward < length v.running.spans) (impulses_from 0 passed o.impulses.items)
    rewards_known = subst (λ (ss : List law.Span). All (λ (x : law.Impulse). x.reward < length ss) (impulses_from 0 passed o.impulses.items)) can.belongs.of.spans
        (impulses_all (λ x. x.reward < length net.spans) 0 passed acts o.impulses.items within_acts suits.rewards)

    pub impulses_fit : v.running.tally.impulses + length (impulses_from 0 passed o.impulses.items) ≤ MAX_IMPULSES
    impulses_fit =
        let few = impulses_few 0 passed acts o.impulses.items within_acts suits.impulses in
        let tally : v.running.tally.impulses ≡ v.core.tally.impulses = ap (λ (x : Rattle.san_law.specs.Tally.Tally). x.impulses) can.belongs.tally in
        omega (arith, few, tally, can.impulses, within, events_few)

    law_kind : k ≡ kind.Refresh → here ≡ piece.Refresh
    law_kind e = ap (kind_in first) e

    pub rates_each : over ≡ None → k ≡ kind.Refresh → length o.rates.items ≡ length (slice_index_or v.running.terms j [])
    rates_each none e =
        let r = suits.renews (law_kind e) in
        let ended : allowed.1 ≡ None = sym over_is ∙ ap (option_map over_in) none in
        let fault : made.fault ≡ None = faultless net.burst net.limit j v.core.burst v.core.count (length o.events.items) made.fault
        (subst (λ (x : piece.Kind). (admits net.burst net.limit j v.core.burst v.core.count x made.fault (length o.events.items)).1 ≡ None) (law_kind e) ended) in
        sym (length-map o.rates.items term_value) ∙ (r.rates fault ∙ ap (λ (xs : List ℕ). length xs) (can.belongs.of.terms j))

    -- in the words of the steps
    abbrev allowed_there : ℕ × Option Ending
    allowed_there = takes.allowed net n v can.belongs q.leaf q.first time o k

    allowed_is : allowed ≡ allowed_there
    allowed_is = ap (λ (m : ℕ). admits net.burst net.limit j v.core.burst v.core.count here made.fault m) (sym long)

    renewal_whole : k ≡ kind.Refresh → (passed ≡ 0) × (made.writes ≡ []) × (v.core.order.time ≡ time.0)
    renewal_whole e =
        let r = suits.renews (law_kind e) in
        let none : length made.completions ≡ 0 = ap (λ (cs : List Completion). length cs) r.completions in
        (omega (arith, within, long, none), r.writes, sym r.time_is)

    whole_is : over ≡ None → Whole net n v can.belongs q.leaf q.first time o k passed
    whole_is none =
        let all : passed ≡ length o.events.items = passed_is ∙ bounds.all (sym over_is ∙ ap (option_map over_in) none) in
        record { within = within_acts; all = all ∙ sym long; renews = renewal_whole }

    abbrev t : Taking
    t = record { leaf = q.leaf; first = q.first; kind = k; time = time }

    abbrev ended : Option Over → CommittedValue
    ended x = ended_by net (with_counts v (counted_by v.running t passed o x k) (burst_after here v.core.burst passed) (v.core.count + passed)) t made x

    ended_at : (x : Option Over) → over ≡ x → ended x ≡ with_taken net v j here time.0 made
    ended_at None e = put_is net n v can.belongs q.leaf q.first time o k passed (whole_is e) (ap (λ (y : Option Over). (passed, option_map over_in y)) (sym e) ∙ (is ∙ allowed_is))
    ended_at (Some x) e = stop_is net n v can.belongs q.leaf q.first time o k passed (over_in x) within_acts (ap (λ (y : Option Over). (passed, option_map over_in y)) (sym e) ∙ (is ∙ allowed_is))

    pub held_is : ended over ≡ with_taken net v p.part.leaf.0 (kind_in p.part.first.0 p.kind) p.time p.outcome
    held_is =
        ended_at over refl
        ∙ (ap (λ (x : Part). with_taken net v x.leaf.0 (kind_in x.first.0 k) time.0 (outcome_in x.first.0 o)) part
        ∙ (ap (λ (x : Kind). with_taken net v p.part.leaf.0 (kind_in p.part.first.0 x) time.0 (outcome_in p.part.first.0 o)) kind_is
        ∙ (ap (λ (x : ℕ). with_taken net v p.part.leaf.0 (kind_in p.part.first.0 p.kind) x (outcome_in p.part.first.0 o)) time_is
        ∙ ap (with_taken net v p.part.leaf.0 (kind_in p.part.first.0 p.kind) p.time) same)))

    -- the events that are let through
    abbrev events_to : List Event
    events_to = map (event_by time.0 j) (take passed made.completions)

    no_events : passed ≡ 0 → events_to ≡ []
    no_events e = ap (λ (m : ℕ). map (event_by time.0 j) (take m made.completions)) e

    whole_events : (k : Kind) → (k ≡ kind.Refresh → events_to ≡ []) → (es : List Event) → es ≡ events_to → (takes.whole net v.core j time.0 (kind_in first k) made es).events ≡ v.core.events ++ es
    whole_events kind.Settle h es e = refl
    whole_events (kind.Fire act) h es e = refl
    whole_events kind.Refresh h es e = sym (append-nil v.core.events) ∙ ap (λ (xs : List Event). v.core.events ++ xs) (sym (e ∙ h refl))

    by_over : (x : Option Over) → over ≡ x → (take_admitted net v.core time.0 here (events_to, option_map over_in x) (takes.whole net v.core j time.0 here made)).events ≡ v.core.events ++ events_to
    by_over None e = whole_events k (λ f. no_events (renewal_whole f).0) events_to refl
    by_over (Some x) e = refl

    taken_events : (taken net v.core j here time.0 made).events ≡ v.core.events ++ events_to
    taken_events = ap (λ (c : Core). c.events) (taken_is net n v can.belongs q.leaf q.first time o k (passed, option_map over_in over) (is ∙ allowed_is)) ∙ by_over over refl

    pub events_is : v.core.events ≡ [] → take passed o.events.items ≡ map (event_in n) (taken net v.core p.part.leaf.0 (kind_in p.part.first.0 p.kind) p.time p.outcome).events
    events_is quiet =
        sym (events_are n j first time.0 0 passed o.events.items o.impulses.items (ap first_of there) numbered_here.events)
        ∙ (ap (map (event_in n)) (ap (λ (xs : List Event). xs ++ events_to) (sym quiet) ∙ sym taken_events)
        ∙ (ap (λ (x : Part). map (event_in n) (taken net v.core x.leaf.0 (kind_in x.first.0 k) time.0 (outcome_in x.first.0 o)).events) part
        ∙ (ap (λ (x : Kind). map (event_in n) (taken net v.core p.part.leaf.0 (kind_in p.part.first.0 x) time.0 (outcome_in p.part.first.0 o)).events) kind_is
        ∙ (ap (λ (x : ℕ). map (event_in n) (taken net v.core p.part.leaf.0 (kind_in p.part.first.0 p.kind) x (outcome_in p.part.first.0 o)).events) time_is
        ∙ ap (λ (x : piece.Outcome). map (event_in n) (taken net v.core p.part.leaf.0 (kind_in p.part.first.0 p.kind) p.time x).events) same))))
