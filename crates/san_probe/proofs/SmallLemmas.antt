-- No marking of a run has a value above the greatest number of tokens.
use Rattle.std.proofs.Common.{ℕ, ◌+◌, ◌≡◌, ◌∙◌, ap, refl, subst, List, [], map, Option, Some, None, Result, Ok, Err, Bool, true, false, nat_le, cond, slice_index, slice_index_or}
use Rattle.san_base.specs.declared.ending.Trap.{Trap}
use Rattle.san_expr.specs.Concerns.{IsMarking}
use Rattle.san_law.proofs.Places.{scatter_length}
use Rattle.san_law.specs.Activity as leaf
use Rattle.san_law.specs.Net.{Done, Local, Net, Row, least_timer}
use Rattle.san_law.specs.Network.{Limits, no_part}
use Rattle.san_law.specs.Next.{Completes, Next, Stable, TrapsAt, next_instant}
use Rattle.san_law.specs.Renewal.{AllFresh, Due, FaultAt, Renewal, least_from, renewed_from}
use Rattle.san_law.specs.State.{State, local_of, scatter, slots_of}
use Rattle.san_law.specs.Step.{End, Ending, Over, Stepped, at_due, at_next, at_rest, complete, count_limit, fire, fired, limit_at, step, unless_over}
use Rattle.san_net.specs.Leaf.{leaf_of}
use Rattle.san_net.specs.Network.{Network, net_of}
use Rattle.san_net.proofs.SmallLemmas.{KeepsValues, gather_small, leaves_small, scatter_small}
use Rattle.san_probe.specs.Markings.{IsMarkingOf}

-- completions do
abbrev KeepsSmall : Net → Type 0
KeepsSmall net = (j k : ℕ) (l : Local) (d : Done) → net.done j k l ≡ Ok d → IsMarking l.values → IsMarking d.left.values

module _ (net : Net) (keeps : KeepsSmall net) (places : ℕ) where
  abbrev Is : List ℕ → Type 0
  Is = IsMarkingOf places

  complete_small : (u : State) (burst j k : ℕ) (r : Result Done Trap) → net.done j k (local_of net u j) ≡ r → Is u.marking → Is (complete net u burst j k r).1.marking
  unfolding scatter
  complete_small u burst j k (Err trap) done h = h
  complete_small u burst j k (Ok d) done h =
      record {
        sized = scatter_length (slots_of net j) d.left.values u.marking ∙ h.sized;
        values = scatter_small (slots_of net j) d.left.values 0 u.marking (keeps j k (local_of net u j) d done (gather_small (slots_of net j) u.marking h.values)) h.values;
      }

  unless_small : (u : State) (o : Option Ending) (go : Stepped × State) → Is u.marking → Is go.1.marking → Is (unless_over u o go).1.marking
  unless_small u (Some e) go h k = h
  unless_small u None go h k = k

  due_small : (s : State) (rows : List Row) (d : Due) (b : Bool) → Is s.marking → Is (cond b (fire net (fired net s rows d) d.leaf d.act) (Over net.horizon End, s)).1.marking
  due_small s rows d true h =
      let u = fired net s rows d in
      unless_small u (count_limit net s.count) (complete net u 0 d.leaf d.act (net.done d.leaf d.act (local_of net u d.leaf))) h (complete_small u 0 d.leaf d.act (net.done d.leaf d.act (local_of net u d.leaf)) refl h)
  due_small s rows d false h = h

  timer_small : (s : State) (rows : List Row) (o : Option Due) → Is s.marking → Is (at_due net s rows o).1.marking
  timer_small s rows None h = h
  timer_small s rows (Some d) h = due_small s rows d (nat_le d.time net.horizon) h

  rest_small : (s : State) (x : Renewal) → Is s.marking → Is (at_rest net s x).1.marking
  rest_small s (FaultAt j k trap) h = h
  rest_small s (AllFresh rows) h = timer_small s rows (least_from 0 (map least_timer rows)) h

  next_small : (s : State) (w : Next) → Is s.marking → Is (at_next net s w).1.marking
  next_small s Stable h = rest_small s (renewed_from net s 0 s.rows) h
  next_small s (TrapsAt j k trap) h = h
  next_small s (Completes j k) h =
      let r = net.done j k (local_of net s j) in
      unless_small s (limit_at net s.burst s.count) (complete net s (s.burst + 1) j k r) h (complete_small s (s.burst + 1) j k r refl h)

  pub step_small : (s : State) → Is s.marking → Is (step net s).1.marking
  unfolding step
  step_small s h = next_small s (next_instant net s) h

-- those of a network's activities do
abbrev left_values : Result Done Trap → List ℕ
left_values (Ok d) = d.left.values
left_values (Err t) = []

done_small : (r : Row) (k : ℕ) (a : leaf.Activity) (v : List ℕ) (x : Result leaf.Effected Trap) (d : Done) → KeepsValues v x → leaf.done_by r k a x ≡ Ok d → IsMarking v → IsMarking d.left.values
done_small r k a v (Err t) d keeps is h = absurd cc
done_small r k a v (Ok e) d keeps is h = let same : e.values ≡ d.left.values = ap left_values is in subst IsMarking same (keeps h)

pub networks_small : (n : Network) (draw : ℕ → ℕ → ℕ) (limits : Limits) → KeepsSmall (net_of n draw limits)
networks_small n draw limits j k l d is h =
    let part = slice_index_or (map leaf_of n.parts) j no_part in
    let a = leaf.activity_of part k in
    let u = draw (leaf.case_stream part k) (slice_index l.row.cases k) in
    done_small l.row k a l.values (a.complete u l.values) d (leaves_small n.parts j k u l.values) is h
