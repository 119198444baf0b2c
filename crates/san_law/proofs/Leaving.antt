-- What is left falls with each needed piece.
use Rattle.std.proofs.Common.{ℕ, ◌+◌, ◌-◌, ◌*◌, ◌<◌, ◌≤◌, ◌≡◌, ◌≢◌, ◌∙◌, ◌⊎◌, inl, inr, ap, sym, refl, subst, List, [], ◌∷◌, length, Option, Some, None, Bool, true, false, arith, nat_le, slice_set, cond}
use Rattle.std.specs.Prelude.{Result, Ok, Err}
use Rattle.san_base.specs.declared.ending.Trap.{Trap}
use Rattle.san_law.specs.Net.{Done, Faulty, Fresh, Net, Renewing}
use Rattle.san_law.specs.State.{State, part_of}
use Rattle.san_law.specs.Renewal.{Due, least_from}
use Rattle.san_law.specs.Step.{Ending, Event, count_limit, limit_at}
use Rattle.san_law.specs.Block.{Completion, Fault, More, Rests, fault_of, more_of, settle}
use Rattle.san_law.specs.Admitted.{Admitted, event_by, event_then, admitted, admitted_fire, admitted_rest, unless_ended}
use Rattle.san_law.specs.Piece.{Fire, Kind, Outcome, Refresh, Settle, dropped, fired_outcome, outcome_of, renewed_outcome}
use Rattle.san_law.specs.Order.{Finished, Needs, first_true, flag, flags_from, going_after, need_due, need_going, need_of, need_stale, need_unsettled, order_after, stale_after, unsettled_after}
use Rattle.san_law.specs.Core.{Core, advance, burst_fired, leaf_of, leaf_view_of, take_need, take_piece, take_admitted, taken, with_block}
use Rattle.san_law.specs.Lawful.{IsLawful}
use Rattle.san_law.specs.Standing.{Stands}
use Rattle.san_law.specs.Left.{PieceLeavesLess, add_true, count_true, left, left_by, left_flags, left_going}
use Rattle.san_law.proofs.Places.{writes_none}
use Rattle.san_law.proofs.Flags.{first_is, length_flags}
use Rattle.san_law.proofs.Steps.{count_room, limit_room}
use Rattle.san_law.proofs.Blocks.{keeps, last_after}
use Rattle.san_law.proofs.Settles.{more_last, admitted_closes}
use Rattle.san_law.proofs.Lefts.{count_long, count_set, events_less, stale_more, unsettled_less}

unless_clear : (o : Option Ending) (x : Admitted) → (unless_ended o x).1 ≡ None → o ≡ None
unless_clear None x e = refl
unless_clear (Some o) x e = cc

flags_less : (x f g : ℕ) → f < g → x + f + 1 < x + g + 1
flags_less x f g h = omega (arith, h)

no_last : (j : ℕ) → None ≡ Some j → ⊥
no_last j e = cc

module _ (net : Net) (law : IsLawful net) (opening : State) (past : List Event) (c : Core) (s : State) (st : Stands net opening past c s) (unstopped : c.stop ≡ None) where
  left_here : left net c ≡ left_by net c None
  left_here = ap (left_by net c) unstopped

  less_by : (m : ℕ) → m < left_by net c None → m < left net c
  less_by m h = subst (λ n. m < n) (sym left_here) h

  take_left : (time : ℕ) (kind : Kind) (x : Admitted) (whole : List Event → Core) → (x.1 ≡ None → left net (whole x.0) < left_by net c None) → left net (take_admitted net c time kind x whole) < left_by net c None
  take_left time kind (es, Some e) whole h = omega arith
  take_left time kind (es, None) whole h = h refl

  going_small : (o : Option ℕ) → left_going o ≤ 2
  going_small None = omega arith
  going_small (Some j) = omega arith

  block_flags : (j time : ℕ) (o : Outcome) → left_flags (order_after net c.order time j o) + 1 ≤ 3 * length net.parts + 3
  block_flags j time o =
      let u = count_long (flags_from (unsettled_after net j o.writes) 0 c.order.unsettled) in
      let v = count_long (flags_from (stale_after net j o.writes) 0 c.order.stale) in
      omega (arith, going_small (order_after net c.order time j o).going, u, v, length_flags (unsettled_after net j o.writes) 0 c.order.unsettled, length_flags (stale_after net j o.writes) 0 c.order.stale, st.holds.sized.unsettled, st.holds.sized.stale)

  -- events were taken
  block_events : (j time burst : ℕ) (es : List Event) (o : Outcome) → c.count < net.limit → 0 < length o.completions → left net (with_block net c time burst (c.count + length o.completions) j es o) < left_by net c None
  block_events j time burst es o room some = events_less net.limit c.count (c.count + length o.completions) (3 * length net.parts + 3) (left_flags c.order) (left_flags (order_after net c.order time j o)) room (omega (arith, some)) (block_flags j time o)

  -- none was: the leaf was going or unsettled, and is neither now
  idle_flags : (j : ℕ) → (c.order.going ≡ Some j) ⊎ (flag c.order.unsettled j ≡ true) → 0 + (2 * count_true (flags_from (unsettled_after net j []) 0 c.order.unsettled) + count_true (flags_from (stale_after net j []) 0 c.order.stale)) < left_flags c.order
  idle_flags j (inl g) =
      let k : left_going c.order.going ≡ 2 = ap left_going g in
      omega (arith, k, unsettled_less j c.order.unsettled, stale_more j c.order.stale)
  idle_flags j (inr f) =
      let k : add_true (flag c.order.unsettled j) 0 ≡ 1 = ap (λ b. add_true b 0) f in
      omega (arith, k, unsettled_less j c.order.unsettled, stale_more j c.order.stale)

  block_idle : (j time burst : ℕ) (es : List Event) (o : Outcome) → o.completions ≡ [] → o.writes ≡ [] → o.more ≡ false → (c.order.going ≡ Some j) ⊎ (flag c.order.unsettled j ≡ true) → left net (with_block net c time burst (c.count + length o.completions) j es o) < left_by net c None
  block_idle j time burst es o acts writes more was =
      let same : c.count + length o.completions ≡ c.count = omega (arith, ap (λ (ks : List Completion). length ks) acts) in
      let flags : left_flags (order_after net c.order time j o) ≡ 0 + (2 * count_true (flags_from (unsettled_after net j []) 0 c.order.unsettled) + count_true (flags_from (stale_after net j []) 0 c.order.stale)) =
      ap (λ b. left_going (going_after j b) + (2 * count_true (flags_from (unsettled_after net j o.writes) 0 c.order.unsettled) + count_true (flags_from (stale_after net j o.writes) 0 c.order.stale))) more
      ∙ ap (λ (ws : List (ℕ × ℕ)). 0 + (2 * count_true (flags_from (unsettled_after net j ws) 0 c.order.unsettled) + count_true (flags_from (stale_after net j ws) 0 c.order.stale))) writes in
      subst (λ m. (net.limit - m) * (3 * length net.parts + 3) + left_flags (order_after net c.order time j o) + 1 < left_by net c None) (sym same)
      (subst (λ f. (net.limit - c.count) * (3 * length net.parts + 3) + f + 1 < left_by net c None) (sym flags)
      (flags_less ((net.limit - c.count) * (3 * length net.parts + 3)) (0 + (2 * count_true (flags_from (unsettled_after net j []) 0 c.order.unsettled) + count_true (flags_from (stale_after net j []) 0 c.order.stale))) (left_flags c.order) (idle_flags j was)))

  admitted_room : (time j burst count : ℕ) (fault : Option Fault) (a : Completion) (ks : List Completion) → (admitted net time j burst count fault (a ∷ ks)).1 ≡ None → count < net.limit
  admitted_room time j burst count fault a ks e = limit_room net burst count (unless_clear (limit_at net burst count) (event_then (event_by time j a) (admitted net time j (burst + 1) (count + 1) fault ks)) e)

  -- a settling
  settle_by : (j : ℕ) (ks : List Completion) → let b = settle net j 64 (leaf_view_of net c j) in b.completions ≡ ks → (c.order.going ≡ Some j) ⊎ (flag c.order.unsettled j ≡ true)
      → (admitted net c.order.time j c.burst c.count (fault_of b.close) b.completions).1 ≡ None → (es : List Event) → left net (with_block net c c.order.time (c.burst + length b.completions) (c.count + length b.completions) j es (outcome_of net j (leaf_of c j).seen b)) < left_by net c None
  settle_by j (a ∷ ks) e was whole es =
      let b = settle net j 64 (leaf_view_of net c j) in
      let w : (admitted net c.order.time j c.burst c.count (fault_of b.close) (a ∷ ks)).1 ≡ None = subst (λ (xs : List Completion). (admitted net c.order.time j c.burst c.count (fault_of b.close) xs).1 ≡ None) e whole in
      let n : 0 < length b.completions = omega (arith, ap (λ (xs : List Completion). length xs) e) in
      block_events j c.order.time (c.burst + length b.completions) es (outcome_of net j (leaf_of c j).seen b) (admitted_room c.order.time j c.burst c.count (fault_of b.close) a ks w) n
  settle_by j [] e was whole es =
      let b = settle net j 64 (leaf_view_of net c j) in
      let k = keeps net law j 64 (leaf_view_of net c j) in
      block_idle j c.order.time (c.burst + length b.completions) es (outcome_of net j (leaf_of c j).seen b) e (writes_none b.sets (k.idle e) (part_of net j) b.left.values 0)
      (rests_by (admitted_closes net c.order.time j c.burst c.count b.close b.completions whole)) was
    where
      rests_by : (let b = settle net j 64 (leaf_view_of net c j) in (b.close ≡ Rests) ⊎ (b.close ≡ More)) → more_of (settle net j 64 (leaf_view_of net c j)).close ≡ false
      rests_by (inl r) = ap more_of r
      rests_by (inr m) = absurd (no_last j (sym (ap (λ (xs : List Completion). last_after None j xs) e) ∙ more_last net j 63 (leaf_view_of net c j) None m))

  settle_less : (j : ℕ) → (c.order.going ≡ Some j) ⊎ (flag c.order.unsettled j ≡ true) → left net (take_piece net c j Settle c.order.time) < left_by net c None
  settle_less j was =
      let b = settle net j 64 (leaf_view_of net c j) in
      let x : Admitted = admitted net c.order.time j c.burst c.count (fault_of b.close) b.completions in
      take_left c.order.time Settle x (λ es. with_block net c c.order.time (c.burst + length b.completions) (c.count + length b.completions) j es (outcome_of net j (leaf_of c j).seen b)) (λ e. settle_by j b.completions refl was e x.0)

  -- a completion of a timer
  fire_by : (d : Due) (o : Result Done Trap) → let out = fired_outcome net 63 d.leaf (leaf_of c d.leaf) d.act o in
      (admitted_fire net d.time d.leaf c.count out.fault out.completions).1 ≡ None → (es : List Event) → left net (with_block net c d.time (burst_fired (length out.completions)) (c.count + length out.completions) d.leaf es out) < left_by net c None
  fire_by d (Err trap) e es = no_trap (count_limit net c.count) e
    where
      no_trap : (o : Option Ending) → (unless_ended o (admitted_rest net d.time d.leaf c.count (Some (record { act = d.act; trap = trap; picked = true })) [])).1 ≡ None → left net (with_block net c d.time 0 (c.count + 0) d.leaf es (fired_outcome net 63 d.leaf (leaf_of c d.leaf) d.act (Err trap))) < left_by net c None
      no_trap None f = cc
      no_trap (Some o) f = cc
  fire_by d (Ok m) e es =
      let out = fired_outcome net 63 d.leaf (leaf_of c d.leaf) d.act (Ok m) in
      block_events d.leaf d.time (burst_fired (length out.completions)) es out (count_room net c.count (unless_clear (count_limit net c.count) (admitted_rest net d.time d.leaf c.count out.fault out.completions) e)) (omega arith)

  fire_less : (d : Due) → left net (take_piece net c d.leaf (Fire d.act) d.time) < left_by net c None
  fire_less d =
      let o = net.done d.leaf d.act (dropped net (leaf_view_of net c d.leaf) d.act) in
      let out = fired_outcome net 63 d.leaf (leaf_of c d.leaf) d.act o in
      let x : Admitted = admitted_fire net d.time d.leaf c.count out.fault out.completions in
      take_left d.time (Fire d.act) x (λ es. with_block net c d.time (burst_fired (length out.completions)) (c.count + length out.completions) d.leaf es out) (λ e. fire_by d o e x.0)

  -- a renewal
  refresh_by : (j : ℕ) (v : List ℕ) (x : Renewing) → flag c.order.stale j ≡ true → left net (taken net c j Refresh c.order.time (renewed_outcome net j (leaf_of c j) v x)) < left_by net c None
  refresh_by j v (Faulty k trap) f = omega arith
  refresh_by j v (Fresh r) f = flags_less ((net.limit - c.count) * (3 * length net.parts + 3)) (left_going c.order.going + (2 * count_true c.order.unsettled + count_true (slice_set c.order.stale j false))) (left_flags c.order) (omega (arith, count_set c.order.stale j f))

  due_tested : (d : Due) (b : Bool) → cond b (Needs d.leaf (Fire d.act) d.time) Finished ≢ Finished → left net (take_need net c (cond b (Needs d.leaf (Fire d.act) d.time) Finished)) < left_by net c None
  due_tested d true n = fire_less d
  due_tested d false n = absurd (n refl)

  at_due : (x : Option Due) → need_due net.horizon x ≢ Finished → left net (take_need net c (need_due net.horizon x)) < left_by net c None
  at_due None n = absurd (n refl)
  at_due (Some d) n = due_tested d (nat_le d.time net.horizon) n

  at_stale : (x : Option ℕ) → first_true 0 c.order.stale ≡ x → need_stale net.horizon c.order x ≢ Finished → left net (take_need net c (need_stale net.horizon c.order x)) < left_by net c None
  at_stale None is n = at_due (least_from 0 c.order.dues) n
  at_stale (Some j) is n = refresh_by j (leaf_view_of net c j).values (net.renewed j c.order.time (leaf_of c j).seen (leaf_view_of net c j)) (first_is c.order.stale j is).set

  at_unsettled : (x : Option ℕ) → first_true 0 c.order.unsettled ≡ x → need_unsettled net.horizon c.order x ≢ Finished → left net (take_need net c (need_unsettled net.horizon c.order x)) < left_by net c None
  at_unsettled None is n = at_stale (first_true 0 c.order.stale) refl n
  at_unsettled (Some j) is n = settle_less j (inr (first_is c.order.unsettled j is).set)

  at_going : (x : Option ℕ) → c.order.going ≡ x → need_going net.horizon c.order x ≢ Finished → left net (take_need net c (need_going net.horizon c.order x)) < left_by net c None
  at_going None is n = at_unsettled (first_true 0 c.order.unsettled) refl n
  at_going (Some j) is n = settle_less j (inl is)

  pub advance_less : need_of net.horizon c.order ≢ Finished → left net (advance net c) < left net c
  unfolding need_of advance
  advance_less n = less_by (left net (take_need net c (need_going net.horizon c.order c.order.going))) (at_going c.order.going refl n)

pub piece_leaves_less : (net : Net) → IsLawful net → PieceLeavesLess net
piece_leaves_less net law opening past c s st unstopped n = advance_less net law opening past c s st unstopped n
