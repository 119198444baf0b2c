-- What holds of every state of a run: each place has a number of tokens, and each leaf's row fits its part.
use Rattle.std.proofs.Common.{ℕ, zero, suc, ◌+◌, ◌<◌, ◌≤◌, ◌≡◌, ◌≢◌, ◌∙◌, ◌⊎◌, inl, inr, ap, sym, subst, refl, List, [], ◌∷◌, length, map, Option, Some, None, Bool, true, false, arith, nat_le, cond, slice_index_or, slice_set}
use Rattle.std.specs.Prelude.{Result, Ok, Err, slice_get, slice_index}
use Rattle.std.proofs.lemmas.Bool.{cases_eq}
use Rattle.std.proofs.lemmas.List.{get_or-set_same, get_or-set_other, length-set}
use Rattle.std.proofs.lemmas.Option.{slice_get_within}
use Rattle.san_base.specs.declared.ending.Trap.{Trap}
use Rattle.san_expr.specs.Concerns.{IsMarking}
use Rattle.san_law.specs.Activity as leaf
use Rattle.san_law.specs.Net.{Done, Faulty, Fresh, Local, Net, Renewing, Row, least_timer, no_row, without_timer}
use Rattle.san_law.specs.Network.{Limits, no_part}
use Rattle.san_law.specs.Next.{Completes, Next, Stable, TrapsAt, next_instant}
use Rattle.san_law.specs.Renewal.{AllFresh, Due, FaultAt, Renewal, least_from, renewed_at, renewed_from, renewed_then}
use Rattle.san_law.specs.State.{State, gather, local_of, row_of, slots_of}
use Rattle.san_law.specs.Step.{Ending, Event, Happened, Over, Stepped, at_due, at_next, at_rest, complete, count_limit, fire, fired, limit_at, step, unless_over, with_local}
use Rattle.san_law.specs.Trajectory.{Runs}
use Rattle.san_net.specs.Laid.{EachPart}
use Rattle.san_net.specs.Leaf.{leaf_of}
use Rattle.san_net.specs.Network.{Network, net_of}
use Rattle.san_net.specs.declared.part.Part.{Part}
use Rattle.san_net.proofs.SmallLemmas.{KeepsValues, gather_small, leaves_small, scattered_small}
use Rattle.san_core.proofs.Clocking.{RowFits, counted_fits, dropped_fits, renewed_fits, row_later}

-- what a completion leaves
abbrev left_by : Local → Result Done Trap → Local
left_by l (Ok d) = d.left
left_by l (Err t) = l

pub record Leaves (l : Local) (k : ℕ) (d : Done) : Type 0 where
  pub small : IsMarking l.values → IsMarking d.left.values
  pub row : leaf.with_case l.row k ≡ d.left.row

done_leaves : (l : Local) (k : ℕ) (a : leaf.Activity) (x : Result leaf.Effected Trap) (d : Done) → KeepsValues l.values x → leaf.done_by l.row k a x ≡ Ok d → Leaves l k d
done_leaves l k a (Err t) d keeps is = absurd cc
done_leaves l k a (Ok e) d keeps is =
    let same : record { values = e.values; row = leaf.with_case l.row k } ≡ d.left = ap (left_by l) is in
    record { small = λ h. subst (λ (x : Local). IsMarking x.values) same (keeps h); row = ap (λ (x : Local). x.row) same }

-- a part by its number
abbrev part_or : Option Part → leaf.Part
part_or None = no_part
part_or (Some x) = leaf_of x

pub part_is : (parts : List Part) (j : ℕ) (p : Part) → slice_get parts j ≡ Some p → slice_index_or (map leaf_of parts) j no_part ≡ leaf_of p
part_is [] j p is = absurd cc
part_is (q ∷ parts) zero p is = ap part_or is
part_is (q ∷ parts) (suc j) p is = part_is parts j p is

-- a state with delay draws' numbers up to d and case draws' up to c
pub record Safe (n : Network) (d c : ℕ) (marking : List ℕ) (rows : List Row) : Type 0 where
  pub sized : length rows ≡ length n.parts
  pub small : IsMarking marking
  pub fit : EachPart n.parts (λ j p. RowFits d c p.atomic.acts (slice_index_or rows j no_row))

module _ (n : Network) (draw : ℕ → ℕ → ℕ) (limits : Limits) where
  abbrev net : Net
  net = net_of n draw limits

  abbrev IsSafe : ℕ → State → Type 0
  IsSafe d s = Safe n d s.count s.marking s.rows

  pub done_is : (j k : ℕ) (l : Local) (d : Done) → net.done j k l ≡ Ok d → Leaves l k d
  done_is j k l d is =
      let part = slice_index_or (map leaf_of n.parts) j no_part in
      let u = draw (leaf.case_stream part k) (slice_index l.row.cases k) in
      done_leaves l k (leaf.activity_of part k) ((leaf.activity_of part k).complete u l.values) d (leaves_small n.parts j k u l.values) is

  -- one row set
  set_fits : (d c e b : ℕ) (rows : List Row) (j : ℕ) (r : Row) → length rows ≡ length n.parts → d ≤ e → c ≤ b
      → EachPart n.parts (λ i p. RowFits d c p.atomic.acts (slice_index_or rows i no_row)) → ((p : Part) → slice_get n.parts j ≡ Some p → RowFits e b p.atomic.acts r)
      → EachPart n.parts (λ i p. RowFits e b p.atomic.acts (slice_index_or (slice_set rows j r) i no_row))
  set_fits d c e b rows j r sized l m all here i p is = by_case (cases_eq i j)
    where
      by_case : (i ≡ j) ⊎ (i ≢ j) → RowFits e b p.atomic.acts (slice_index_or (slice_set rows j r) i no_row)
      by_case (inl at) =
          let there : slice_get n.parts j ≡ Some p = subst (λ (x : ℕ). slice_get n.parts x ≡ Some p) at is in
          let within = slice_get_within n.parts j p there in
          subst (RowFits e b p.atomic.acts) (sym (ap (λ (x : ℕ). slice_index_or (slice_set rows j r) x no_row) at ∙ get_or-set_same rows j r no_row (omega (arith, within, sized)))) (here p there)
      by_case (inr other) = subst (RowFits e b p.atomic.acts) (sym (get_or-set_other rows j i r no_row other)) (row_later d e c b p.atomic.acts (slice_index_or rows i no_row) l m (all i p is))

  local_safe : (u : State) (burst j k : ℕ) (d : Done) → net.done j k (local_of net u j) ≡ Ok d → IsSafe (suc u.count) u → IsSafe (u.count + 1) (with_local net u burst j d.left)
  local_safe u burst j k d is h =
      let leaves = done_is j k (local_of net u j) d is in
      record {
        sized = length-set u.rows j d.left.row ∙ h.sized;
        small = scattered_small (slots_of net j) d.left.values u.marking (leaves.small (gather_small (slots_of net j) u.marking h.small)) h.small;
        fit = set_fits (suc u.count) u.count (u.count + 1) (u.count + 1) u.rows j d.left.row h.sized (omega arith) (omega arith) h.fit
            (λ p there. subst (RowFits (u.count + 1) (u.count + 1) p.atomic.acts) leaves.row
            (row_later (suc u.count) (u.count + 1) (suc u.count) (u.count + 1) p.atomic.acts (leaf.with_case (row_of u j) k) (omega arith) (omega arith) (counted_fits (suc u.count) u.count k p.atomic.acts (row_of u j) (h.fit j p there))));
      }

  -- after a step with an event
  abbrev StepSafe : Stepped × State → Type 0
  StepSafe (Over t e, s) = Unit {0}
  StepSafe (Happened e, s) = IsSafe s.count s

  complete_safe : (u : State) (burst j k : ℕ) (r : Result Done Trap) → net.done j k (local_of net u j) ≡ r → IsSafe (suc u.count) u → StepSafe (complete net u burst j k r)
  complete_safe u burst j k (Err trap) is h = tt
  complete_safe u burst j k (Ok d) is h = local_safe u burst j k d is h

  unless_safe : (u : State) (o : Option Ending) (go : Stepped × State) → StepSafe go → StepSafe (unless_over u o go)
  unless_safe u (Some e) go h = tt
  unless_safe u None go h = h

  fired_safe : (s : State) (rows : List Row) (d : Due) → Safe n (suc s.count) s.count s.marking rows → IsSafe (suc s.count) (fired net s rows d)
  fired_safe s rows d h = record {
    sized = length-set rows d.leaf (without_timer (slice_index_or rows d.leaf no_row) d.act) ∙ h.sized;
    small = h.small;
    fit = set_fits (suc s.count) s.count (suc s.count) s.count rows d.leaf (without_timer (slice_index_or rows d.leaf no_row) d.act) h.sized (omega arith) (omega arith) h.fit
        (λ p there. dropped_fits (suc s.count) s.count d.act p.atomic.acts (slice_index_or rows d.leaf no_row) (h.fit d.leaf p there));
  }

  due_safe : (s : State) (rows : List Row) (d : Due) (b : Bool) → Safe n (suc s.count) s.count s.marking rows → StepSafe (cond b (fire net (fired net s rows d) d.leaf d.act) (Over net.horizon Rattle.san_law.specs.Step.End, s))
  due_safe s rows d true h =
      let u = fired net s rows d in
      unless_safe u (count_limit net s.count) (complete net u 0 d.leaf d.act (net.done d.leaf d.act (local_of net u d.leaf))) (complete_safe u 0 d.leaf d.act (net.done d.leaf d.act (local_of net u d.leaf)) refl (fired_safe s rows d h))
  due_safe s rows d false h = tt

  timer_safe : (s : State) (rows : List Row) (o : Option Due) → Safe n (suc s.count) s.count s.marking rows → StepSafe (at_due net s rows o)
  timer_safe s rows None h = tt
  timer_safe s rows (Some d) h = due_safe s rows d (nat_le d.time net.horizon) h

  -- renewed rows, one by one
  abbrev rows_left : Renewal → List Row
  rows_left (AllFresh rows) = rows
  rows_left (FaultAt j k trap) = []

  abbrev AreFresh : State → ℕ → List Row → Renewal → Type 0
  AreFresh s a rs (FaultAt j k trap) = Unit {0}
  AreFresh s a rs (AllFresh rows) = (length rows ≡ length rs) × ((i : ℕ) → i < length rs → renewed_at net s (a + i) (slice_index_or rs i no_row) ≡ Fresh (slice_index_or rows i no_row))

  none_more : (a : ℕ) → a + 0 ≡ a
  none_more a = omega arith

  one_more : (a i : ℕ) → a + suc i ≡ suc a + i
  one_more a i = omega arith

  then_fresh : (s : State) (a : ℕ) (r : Row) (rs : List Row) (x : Renewing) (y : Renewal) → renewed_at net s a r ≡ x → AreFresh s (suc a) rs y → AreFresh s a (r ∷ rs) (renewed_then a x y)
  then_fresh s a r rs (Faulty k trap) y is h = tt
  then_fresh s a r rs (Fresh q) (FaultAt j k trap) is h = tt
  then_fresh s a r rs (Fresh q) (AllFresh rows) is h = (ap suc h.0, each)
    where
      each : (i : ℕ) → i < length (r ∷ rs) → renewed_at net s (a + i) (slice_index_or (r ∷ rs) i no_row) ≡ Fresh (slice_index_or (q ∷ rows) i no_row)
      each zero l = ap (λ (x : ℕ). renewed_at net s x r) (none_more a) ∙ is
      each (suc i) l = ap (λ (x : ℕ). renewed_at net s x (slice_index_or rs i no_row)) (one_more a i) ∙ h.1 i (omega (arith, l))

  from_fresh : (s : State) (a : ℕ) (rs : List Row) → AreFresh s a rs (renewed_from net s a rs)
  from_fresh s a [] = (refl, λ i l. absurd (omega (arith, l)))
  from_fresh s a (r ∷ rs) = then_fresh s a r rs (renewed_at net s a r) (renewed_from net s (suc a) rs) refl (from_fresh s (suc a) rs)

  pub renewed_row_fits : (s : State) (d c j : ℕ) (p : Part) (r q : Row) → slice_get n.parts j ≡ Some p → renewed_at net s j r ≡ Fresh q → RowFits d c p.atomic.acts r → RowFits (suc d) c p.atomic.acts q
  renewed_row_fits s d c j p r q is fresh h =
      let l : Local = record { values = gather (slots_of net j) s.marking; row = r } in
      renewed_fits draw p s.time d c (gather (slots_of net j) s.stable) l q
      (ap (λ (x : leaf.Part). Rattle.san_law.specs.Clocks.renewed_row draw x s.time (gather (slots_of net j) s.stable) l) (sym (part_is n.parts j p is)) ∙ fresh) h

  none_less : (a : ℕ) → a ≡ 0 + a
  none_less a = omega arith

  rest_safe : (s : State) (x : Renewal) → AreFresh s 0 s.rows x → IsSafe s.count s → StepSafe (at_rest net s x)
  rest_safe s (FaultAt j k trap) f h = tt
  rest_safe s (AllFresh rows) f h = timer_safe s rows (least_from 0 (map least_timer rows)) (record {
    sized = f.0 ∙ h.sized;
    small = h.small;
    fit = λ j p is. renewed_row_fits s s.count s.count j p (row_of s j) (slice_index_or rows j no_row) is (ap (λ (x : ℕ). renewed_at net s x (row_of s j)) (none_less j) ∙ f.1 j (let w = slice_get_within n.parts j p is in omega (arith, w, h.sized))) (h.fit j p is);
  })

  safe_later : (s : State) → IsSafe s.count s → IsSafe (suc s.count) s
  safe_later s h = record { sized = h.sized; small = h.small; fit = λ j p is. row_later s.count (suc s.count) s.count s.count p.atomic.acts (row_of s j) (omega arith) (omega arith) (h.fit j p is) }

  next_safe : (s : State) (w : Next) → IsSafe s.count s → StepSafe (at_next net s w)
  next_safe s Stable h = rest_safe s (renewed_from net s 0 s.rows) (from_fresh s 0 s.rows) h
  next_safe s (TrapsAt j k trap) h = tt
  next_safe s (Completes j k) h =
      let r = net.done j k (local_of net s j) in
      unless_safe s (limit_at net s.burst s.count) (complete net s (s.burst + 1) j k r) (complete_safe s (s.burst + 1) j k r refl (safe_later s h))

  step_safe : (s : State) → IsSafe s.count s → StepSafe (step net s)
  unfolding step
  step_safe s h = next_safe s (next_instant net s) h

  happened_safe : (x : Stepped × State) (e : Event) → x.0 ≡ Happened e → StepSafe x → IsSafe x.1.count x.1
  happened_safe (Over t f, s) e is h = absurd cc
  happened_safe (Happened f, s) e is h = h

  pub run_safe : (s t : State) (es : List Event) → Runs net s es t → IsSafe s.count s → IsSafe t.count t
  run_safe s t [] runs h = subst (λ (x : State). IsSafe x.count x) runs h
  run_safe s t (e ∷ es) runs h = run_safe (step net s).1 t es runs.1 (happened_safe (step net s) e runs.0 (step_safe s h))
