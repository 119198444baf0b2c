-- What a machine's leaves need fits their parts.
use Rattle.std.proofs.Common.{ℕ, zero, suc, ◌+◌, ◌<◌, ◌≤◌, ◌≡◌, ◌∙◌, ◌⊎◌, inl, inr, ap, sym, subst, refl, All, List, [], ◌∷◌, ◌++◌, length, map, Option, Some, None, Bool, true, false, arith, nat_lt, cond, slice_index_or}
use Rattle.std.specs.Prelude.{slice_get, slice_index, take, ◌||◌}
use Rattle.std.proofs.lemmas.Bool.{cases_lt, true≢false}
use Rattle.std.proofs.lemmas.List.{length-map}
use Rattle.std.proofs.lemmas.Option.{slice_get_within}
use Rattle.san_base.specs.declared.limits.TheConstants.{MAX_EVENTS, MAX_TOKENS}
use Rattle.san_expr.specs.Concerns.{IsMarking}
use Rattle.san_law.specs.Activity as leaf
use Rattle.san_law.specs.Clocks.{has_pair, some_pair}
use Rattle.san_law.specs.Core.{Core, leaf_of}
use Rattle.san_law.specs.Net.{Net, Row, Slot, Timer, is_bare, least_timer, least_timer_from, no_row, no_timers, sooner_act}
use Rattle.san_law.specs.Network.{Limits}
use Rattle.san_law.specs.Piece.{LeafState, privates}
use Rattle.san_law.specs.Standing.{ServesRenewal, Stands, upto}
use Rattle.san_law.specs.State.{State, blank_row, blank_rows, gather, opening_state, part_of, place_of, row_of, slots_of}
use Rattle.san_law.specs.Step.{Event}
use Rattle.san_law.proofs.Orders.{below_upto}
use Rattle.san_law.proofs.Steps.{runs_within}
use Rattle.san_leaf.specs.Fits.{IsPaired, IsTimed, StateFits}
use Rattle.san_leaf.specs.Pieces.{slots_in}
use Rattle.san_net.specs.Instants.{Named}
use Rattle.san_net.specs.Laid.{IsNetwork}
use Rattle.san_net.specs.Leaf as net
use Rattle.san_net.specs.Network.{Network, net_of}
use Rattle.san_net.specs.declared.activity.ActKind.{ActKind}
use Rattle.san_net.specs.declared.activity.ActKind.TheVariants as kind
use Rattle.san_net.specs.declared.atomic.ImpulseTerm.{ImpulseTerm}
use Rattle.san_net.specs.declared.part.Part.{Part}
use Rattle.san_core.proofs.Clocking.{Listed, RowFits, blank_fits, listed, row_later}
use Rattle.san_core.proofs.Opening.{acts_at, parts_of}
use Rattle.san_core.proofs.Running.{Safe, part_is, renewed_row_fits, run_safe}
use Rattle.san_law.proofs.Renewals.{bare_timers}
use Rattle.san_net.proofs.SmallLemmas.{gather_small}

-- the least timer is one that stands
pub record IsTimer (a : ℕ) (ts : List (Option Timer)) (x : ℕ × ℕ) : Type 0 where
  pub index : ℕ
  pub act : x.1 ≡ a + index
  pub timer : Timer
  pub at : slice_get ts index ≡ Some (Some timer)

timer_later : (a : ℕ) (t : Option Timer) (ts : List (Option Timer)) (x : ℕ × ℕ) → IsTimer (suc a) ts x → IsTimer a (t ∷ ts) x
timer_later a t ts x h = record { index = suc h.index; act = omega (arith, h.act); timer = h.timer; at = h.at }

abbrev act_or : Option (ℕ × ℕ) → ℕ
act_or None = 0
act_or (Some y) = y.1

timer_here : (a : ℕ) (t : Timer) (ts : List (Option Timer)) (x : ℕ × ℕ) → Some (t.due, a) ≡ Some x → IsTimer a (Some t ∷ ts) x
timer_here a t ts x is = let k : a ≡ x.1 = ap act_or is in record { index = 0; act = omega (arith, k); timer = t; at = refl }

timer_by : (a : ℕ) (t : Timer) (ts : List (Option Timer)) (x : ℕ × ℕ) (rest : Option (ℕ × ℕ)) → (rest ≡ Some x → IsTimer (suc a) ts x) → sooner_act (t.due, a) rest ≡ Some x → IsTimer a (Some t ∷ ts) x
timer_by a t ts x None go is = timer_here a t ts x is
timer_by a t ts x (Some e) go is = by_test (nat_lt e.0 t.due) is
  where
    by_test : (b : Bool) → cond b (Some e) (Some (t.due, a)) ≡ Some x → IsTimer a (Some t ∷ ts) x
    by_test true is = timer_later a (Some t) ts x (go is)
    by_test false is = timer_here a t ts x is

least_at : (a : ℕ) (ts : List (Option Timer)) (x : ℕ × ℕ) → least_timer_from a ts ≡ Some x → IsTimer a ts x
least_at a [] x is = absurd cc
least_at a (None ∷ ts) x is = timer_later a None ts x (least_at (suc a) ts x is)
least_at a (Some t ∷ ts) x is = timer_by a t ts x (least_timer_from (suc a) ts) (λ e. least_at (suc a) ts x e) is

pub row_least : (r : Row) (x : ℕ × ℕ) → least_timer r ≡ Some x → IsTimer 0 r.timers x
unfolding least_timer
row_least r x is = least_at 0 r.timers x is

-- an activity with a pair is one of a leaf that has some
abbrev kind_or : Option Named → ActKind
kind_or None = kind.Instant 0
kind_or (Some x) = x.1.kind

pub paired_some : (terms : List ImpulseTerm) (k : ℕ) (acts : List Named) (i : ℕ) (a : Named) → slice_get acts i ≡ Some a → IsPaired a.1.kind → some_pair (net.activities_from terms k acts) ≡ true
paired_some terms k [] i a is p = absurd cc
paired_some terms k (b ∷ acts) zero a is p = first_by b.1.kind (subst IsPaired (sym (ap kind_or is)) p)
  where
    first_by : (x : ActKind) → IsPaired x → (has_pair (net.kind_in x) || some_pair (net.activities_from terms (suc k) acts)) ≡ true
    first_by (kind.Instant q) h = absurd h
    first_by (kind.Timed delay None) h = absurd h
    first_by (kind.Timed delay (Some pair)) h = refl
paired_some terms k (b ∷ acts) (suc i) a is p = rest_by (has_pair (net.kind_in b.1.kind)) (paired_some terms (suc k) acts i a is p)
  where
    rest_by : (x : Bool) → some_pair (net.activities_from terms (suc k) acts) ≡ true → (x || some_pair (net.activities_from terms (suc k) acts)) ≡ true
    rest_by true h = refl
    rest_by false h = h

bare_none : (ts : List (Option Timer)) (k : ℕ) (t : Timer) → no_timers ts ≡ true → slice_get ts k ≡ Some (Some t) → ⊥
bare_none [] k t h is = absurd cc
bare_none (None ∷ ts) zero t h is = absurd cc
bare_none (None ∷ ts) (suc k) t h is = bare_none ts k t h is
bare_none (Some u ∷ ts) k t h is = absurd (true≢false (sym h))

take_small : (k : ℕ) (m : List ℕ) → IsMarking m → IsMarking (take k m)
take_small zero m h i = omega arith
take_small (suc k) [] h i = omega arith
take_small (suc k) (x ∷ m) h zero = h 0
take_small (suc k) (x ∷ m) h (suc i) = take_small k m (λ q. h (suc q)) i

gather_long : (slots m : List ℕ) → length (gather slots m) ≡ length slots
gather_long slots m = length-map slots (λ s. slice_index m s)

all_small : (vs : List ℕ) → IsMarking vs → All (λ v. v ≤ MAX_TOKENS) vs
all_small [] h k d l = absurd (omega (arith, l))
all_small (v ∷ vs) h zero d l = h 0
all_small (v ∷ vs) h (suc k) d l = all_small vs (λ i. h (suc i)) k d (omega (arith, l))

rows_blank : (w : Net) (j : ℕ) (ps : List Part) → length (blank_rows w j (parts_of ps)) ≡ length ps
rows_blank w j [] = refl
rows_blank w j (p ∷ ps) = ap suc (rows_blank w (suc j) ps)

row_blank : (w : Net) (j : ℕ) (ps : List Part) (i : ℕ) (p : Part) → slice_get ps i ≡ Some p → slice_index_or (blank_rows w j (parts_of ps)) i no_row ≡ blank_row (w.acts (j + i))
row_blank w j [] i p is = absurd cc
row_blank w j (q ∷ ps) zero p is = ap (λ (x : ℕ). blank_row (w.acts x)) (none j)
  where
    none : (a : ℕ) → a ≡ a + 0
    none a = omega arith
row_blank w j (q ∷ ps) (suc i) p is = row_blank w (suc j) ps i p is ∙ ap (λ (x : ℕ). blank_row (w.acts x)) (one j i)
  where
    one : (a b : ℕ) → suc a + b ≡ a + suc b
    one a b = omega arith

abbrev slots_or : Option Part → List Slot
slots_or None = []
slots_or (Some x) = slots_in x

pub slots_are : (parts : List Part) (j : ℕ) (p : Part) → slice_get parts j ≡ Some p → slice_index_or (parts_of parts) j [] ≡ slots_in p
slots_are [] j p is = absurd cc
slots_are (q ∷ parts) zero p is = ap slots_or is
slots_are (q ∷ parts) (suc j) p is = slots_are parts j p is

module _ (n : Network) (network : IsNetwork n) (draw : ℕ → ℕ → ℕ) (limits : Limits) (few : limits.events ≤ MAX_EVENTS) (initial : IsMarking n.initial) where
  abbrev here : Net
  here = net_of n draw limits

  opening_safe : Safe n 0 0 n.initial (blank_rows here 0 here.parts)
  opening_safe = record {
    sized = rows_blank here 0 n.parts;
    small = initial;
    fit = λ j p is. subst (RowFits 0 0 p.atomic.acts) (sym (row_blank here 0 n.parts j p is ∙ ap blank_row (ap here.acts (none j) ∙ acts_at n.parts j p is))) (blank_fits p.atomic.acts);
  }
    where
      none : (a : ℕ) → 0 + a ≡ a
      none a = omega arith

  module _ (past : List Event) (c : Core) (s : State) (st : Stands here (opening_state here) past c s) where
    safe : Safe n s.count s.count s.marking s.rows
    safe = run_safe n draw limits (opening_state here) s (past ++ c.events) st.runs opening_safe

    pub count_few : s.count ≤ MAX_EVENTS
    count_few = let r = runs_within here (opening_state here) s (past ++ c.events) st.runs in omega (arith, r.0, r.1, few)

    module _ (j : ℕ) (p : Part) (is : slice_get n.parts j ≡ Some p) where
      abbrev l : LeafState
      l = leaf_of c j

      within : j < length here.parts
      within = let w = slice_get_within n.parts j p is in omega (arith, w, length-map (map net.leaf_of n.parts) (λ (q : leaf.Part). q.slots), length-map n.parts net.leaf_of)

      part_here : part_of here j ≡ slots_in p
      part_here = slots_are n.parts j p is

      places_long : length (slots_of here j) ≡ length p.atomic.initial
      places_long = length-map (part_of here j) place_of ∙ (ap (λ (ss : List Slot). length ss) part_here ∙ (length-map p.slots net.slot_in ∙ (network.slotted j p is).each))

      pub paired_is : here.paired j ≡ some_pair (net.leaf_of p).activities
      paired_is = ap (λ (q : leaf.Part). some_pair q.activities) (part_is n.parts j p is)

      -- what a leaf has seen
      abbrev Seen : Type 0
      Seen = ((l.seen ≡ []) ⊎ (length l.seen ≡ length p.atomic.initial)) × ((here.paired j ≡ true) → (is_bare l.row ≡ true) ⊎ (length l.seen ≡ length p.atomic.initial))

      kept_seen : (b : Bool) (values : List ℕ) → here.paired j ≡ b → l.seen ≡ cond b values [] → length values ≡ length p.atomic.initial → Seen
      kept_seen true values pair e long = let k = ap (λ (xs : List ℕ). length xs) e ∙ long in (inr k, λ q. inr k)
      kept_seen false values pair e long = (inl e, λ q. absurd (true≢false (sym q ∙ pair)))

      values_long : (m : List ℕ) → length (gather (slots_of here j) m) ≡ length p.atomic.initial
      values_long m = gather_long (slots_of here j) m ∙ places_long

      served_seen : ServesRenewal here j l.seen (gather (slots_of here j) s.stable) l.row → Seen
      served_seen (inl e) = kept_seen (here.paired j) (gather (slots_of here j) s.stable) refl e (values_long s.stable)
      served_seen (inr h) = (inl h.0, λ q. inl h.1)

      seen_here : Seen
      seen_here = by_case (cases_lt j (upto here c.order))
        where
          by_case : (j < upto here c.order) ⊎ (upto here c.order ≤ j) → Seen
          by_case (inl lt) = kept_seen (here.paired j) (gather (slots_of here j) s.marking) refl (st.holds.fresh j within (below_upto here c.order j lt)).seen (values_long s.marking)
          by_case (inr le) = served_seen (st.upto.waits j within le).seen

      pub row_here : RowFits (suc s.count) s.count p.atomic.acts l.row
      row_here = by_case (cases_lt j (upto here c.order))
        where
          by_case : (j < upto here c.order) ⊎ (upto here c.order ≤ j) → RowFits (suc s.count) s.count p.atomic.acts l.row
          by_case (inl lt) = renewed_row_fits n draw limits s s.count s.count j p (row_of s j) l.row is (st.upto.renewed j within lt) (safe.fit j p is)
          by_case (inr le) = subst (RowFits (suc s.count) s.count p.atomic.acts) (sym (st.upto.waits j within le).row) (row_later s.count (suc s.count) s.count s.count p.atomic.acts (row_of s j) (omega arith) (omega arith) (safe.fit j p is))

      abbrev lists : Listed (suc s.count) s.count p.atomic.acts l.row
      lists = listed (suc s.count) s.count p.atomic.acts l.row row_here

      values_are : l.values ≡ gather (privates (slots_in p)) s.marking
      values_are = st.holds.values j within ∙ ap (λ (ss : List Slot). gather (privates ss) s.marking) part_here

      paired_seen : (k : ℕ) (t : Timer) → slice_get l.row.timers k ≡ Some (Some t) → (is_bare l.row ≡ true) ⊎ (length l.seen ≡ length p.atomic.initial) → length l.seen ≡ length p.atomic.initial
      paired_seen k t at (inl bare) = absurd (bare_none l.row.timers k t (bare_timers l.row bare) at)
      paired_seen k t at (inr long) = long

      pub state_fits : StateFits p l
      state_fits = record {
        values = ap (λ (xs : List ℕ). length xs) values_are ∙ gather_long (privates (slots_in p)) s.marking;
        small = subst (All (λ v. v ≤ MAX_TOKENS)) (sym values_are) (all_small (gather (privates (slots_in p)) s.marking) (gather_small (privates (slots_in p)) s.marking safe.small));
        timers = lists.timers;
        delays = lists.delays;
        cases = lists.cases;
        delay_numbers = λ k d lt. let x = lists.few k d lt in omega (arith, x, count_few);
        case_numbers = λ k d lt. let x = lists.counted k d lt in omega (arith, x, count_few);
        seen = seen_here.0;
        paired = λ k a t there pair at. paired_seen k t at (seen_here.1 (paired_is ∙ paired_some p.atomic.impulses 0 p.atomic.acts k a there pair));
      }

      -- a timer that is due is a timed activity's
      pub due_timed : (x : ℕ × ℕ) → least_timer l.row ≡ Some x → (a : Named) × (slice_get p.atomic.acts x.1 ≡ Some a) × IsTimed a.1.kind
      due_timed x least =
          let at = row_least l.row x least in
          let t = lists.timed at.index at.timer at.at in
          (t.0, ap (slice_get p.atomic.acts) (at.act ∙ none at.index) ∙ t.1, t.2)
        where
          none : (a : ℕ) → 0 + a ≡ a
          none a = omega arith

    pub shared_small : (q : ℕ) → slice_index c.shared q ≤ MAX_TOKENS
    shared_small q = subst (λ (xs : List ℕ). slice_index xs q ≤ MAX_TOKENS) (sym st.holds.shared) (take_small here.shared s.marking safe.small q)
