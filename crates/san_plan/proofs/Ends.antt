-- The state that a leaf's chain ends with fits its part.
use Rattle.std.proofs.Common.{ℕ, zero, suc, ◌+◌, ◌*◌, ◌<◌, ◌≤◌, ◌≡◌, ◌⊎◌, inl, inr, ap, sym, refl, subst, arith, List, [], ◌∷◌, length, map, Option, Some, None, Bool, true, false, nat_eq}
use Rattle.std.specs.Prelude.{slice_get}
use Rattle.san_base.proofs.NumberTests.{some_same}
use Rattle.san_base.specs.declared.limits.Limits.{Limits}
use Rattle.san_base.specs.declared.limits.TheConstants.{MAX_EVENTS, MAX_HORIZON, MAX_TOKENS, MAX_WINDOW}
use Rattle.san_ahead.specs.Ahead.{AheadValue, last_of, last_or}
use Rattle.san_book.specs.Chains.{AreMadeByLogs, Chain, Connects, chain_of}
use Rattle.san_book.specs.Nets.{or_zero, values_from}
use Rattle.san_chain.specs.Chains.{end_from}
use Rattle.san_core.specs.Machines.{FollowsRun, MachineValue, core_in, net_in}
use Rattle.san_core.proofs.Clocking.{Listed, RowFits, listed, row_later}
use Rattle.san_core.proofs.Fitting as fit
use Rattle.san_core.proofs.Following as follow
use Rattle.san_core.proofs.Knowing.{Known}
use Rattle.san_decide.specs.Booked.{book_of, entry_of, made_from, of_piece, part_at}
use Rattle.san_decide.proofs.Booking.{made_is}
use Rattle.san_draw.specs.Key.{draw_of}
use Rattle.san_expr.specs.Concerns.{IsMarking}
use Rattle.san_law.specs.Core.{leaf_of}
use Rattle.san_law.specs.Net.{Private, Shared, Slot}
use Rattle.san_law.specs.Piece.{Kind, LeafState, piece_of}
use Rattle.san_law.specs.Standing.{Stands}
use Rattle.san_law.specs.State.{State, opening_state}
use Rattle.san_leaf.specs.Claimed.{claim_of}
use Rattle.san_leaf.specs.Fits.{Fits, MAX_LEAF_DRAWS, StateFits}
use Rattle.san_leaf.specs.Pieces.{IsLog, PieceValue, reads_from, slots_in, with_read}
use Rattle.san_leaf.specs.States.{kind_in}
use Rattle.san_log.specs.Logs.{Entry, find, found_by}
use Rattle.san_net.specs.Network.{Network}
use Rattle.san_net.specs.Runs.{limits_in, net_at}
use Rattle.san_net.specs.declared.part.Part.{Part}
use Rattle.san_plan.specs.Plans.{LastFits, RowStands, end_state}
use Rattle.san_plan.proofs.Planned.{end_last, part_there}
use Rattle.san_plan.proofs.Rows.{piece_row}
use Rattle.san_plan.proofs.Values.{ValuesFit, piece_values}

-- values of a log of small ones are small
found_small : (b : Bool) (v : ℕ) (o : Option ℕ) → v ≤ MAX_TOKENS → or_zero o ≤ MAX_TOKENS → or_zero (found_by b v o) ≤ MAX_TOKENS
found_small true v o l h = l
found_small false v o l h = h

read_small : (q : ℕ) (ss : List Slot) (vs : List ℕ) (looks : ℕ → Bool) (k : ℕ) → IsMarking vs → or_zero (find q (map entry_of (reads_from looks k ss vs))) ≤ MAX_TOKENS
read_small q [] vs looks k small = omega arith
read_small q (Private p ∷ ss) [] looks k small = omega arith
read_small q (Shared p ∷ ss) [] looks k small = omega arith
read_small q (Private p ∷ ss) (v ∷ vs) looks k small = read_small q ss vs looks (suc k) (λ i. small (suc i))
read_small q (Shared p ∷ ss) (v ∷ vs) looks k small = by_look (looks k) (read_small q ss vs looks (suc k) (λ i. small (suc i)))
  where
    by_look : (b : Bool) → or_zero (find q (map entry_of (reads_from looks (suc k) ss vs))) ≤ MAX_TOKENS → or_zero (find q (map entry_of (with_read b (p, v) (reads_from looks (suc k) ss vs)))) ≤ MAX_TOKENS
    by_look false h = h
    by_look true h = found_small (nat_eq p q) v (find q (map entry_of (reads_from looks (suc k) ss vs))) (small 0) h

values_small : (q n : ℕ) (es : List Entry) → ((i : ℕ) → or_zero (find i es) ≤ MAX_TOKENS) → IsMarking (values_from q n es)
values_small q zero es h i = omega arith
values_small q (suc n) es h zero = h q
values_small q (suc n) es h (suc i) = values_small (suc q) n es h i

log_small : (p : Part) (log : List (ℕ × ℕ)) (n : ℕ) → IsLog p log → IsMarking (values_from 0 n (map entry_of log))
log_small p log n is = values_small 0 n (map entry_of log) (λ q. subst (λ (xs : List (ℕ × ℕ)). or_zero (find q (map entry_of xs)) ≤ MAX_TOKENS) (sym is.is) (read_small q (slots_in p) is.values is.looks 0 is.small))

-- numbers of draws, and the rest
state_of : (p : Part) (s : LeafState) (d c : ℕ) → ValuesFit p s → RowFits d c p.atomic.acts s.row → d < MAX_LEAF_DRAWS → c < MAX_LEAF_DRAWS → StateFits p s
state_of p s d c values row few counted =
    let lists : Listed d c p.atomic.acts s.row = listed d c p.atomic.acts s.row row in
    record {
      values = values.values;
      small = values.small;
      timers = lists.timers;
      delays = lists.delays;
      cases = lists.cases;
      delay_numbers = λ k x l. let y = lists.few k x l in omega (arith, y, few);
      case_numbers = λ k x l. let y = lists.counted k x l in omega (arith, y, counted);
      seen = values.seen;
      paired = values.paired;
    }

values_of : (p : Part) (s : LeafState) → StateFits p s → ValuesFit p s
values_of p s h = record { values = h.values; small = h.small; seen = h.seen; paired = h.paired }

module _ (n : Network) (known : Known n) (seed : ℕ) (limits : Limits) (j : ℕ) (there : j < length n.parts) where
  abbrev p : Part
  p = part_at n j

  p_there : slice_get n.parts j ≡ Some p
  p_there = part_there n.parts j there

  abbrev kind_of : PieceValue → Kind
  kind_of x = kind_in x.part.first.0 x.kind

  abbrev values_in : PieceValue → List ℕ
  values_in x = values_from 0 n.shared (map entry_of x.log)

  abbrev IsMade : PieceValue → Type 0
  IsMade x = made_from n seed limits j x.base (kind_of x) x.time (map entry_of x.log) ≡ Some x

  -- what a piece in the chain is
  made_part : (x : PieceValue) → IsMade x → x.part ≡ p
  made_part x made = let e = made_is _ _ x made in sym (ap (λ (y : PieceValue). y.part) e.1)

  made_state : (x : PieceValue) → IsMade x → (piece_of (net_at n seed limits) j (kind_of x) x.time x.base (values_in x)).state ≡ x.outcome.state
  made_state x made = let e = made_is _ _ x made in ap (λ (y : PieceValue). y.outcome.state) e.1

  -- the numbers of draws rise with each piece
  pub row_chain : (d c : ℕ) (s : LeafState) (xs : Chain PieceValue) → RowFits d c p.atomic.acts s.row → Connects of_piece s xs → AreMadeByLogs (book_of n seed limits) j xs → RowFits (d + length xs) (c + 64 * length xs) p.atomic.acts (end_from of_piece.end s xs).row
  row_chain d c s [] h connects made = row_later d (d + 0) c (c + 64 * 0) p.atomic.acts s.row (omega arith) (omega arith) h
  row_chain d c s (x ∷ xs) h connects made =
      let based : RowFits d c p.atomic.acts x.1.base.row = subst (λ (y : LeafState). RowFits d c p.atomic.acts y.row) (sym connects.0) h in
      let here : RowFits (suc d) (c + 64) p.atomic.acts x.1.outcome.state.row =
      subst (λ (y : LeafState). RowFits (suc d) (c + 64) p.atomic.acts y.row) (made_state x.1 made.0)
      (piece_row n (draw_of seed) (limits_in limits) j p p_there d c x.1.time x.1.base (values_in x.1) based (kind_of x.1)) in
      row_later (suc d + length xs) (d + suc (length xs)) (c + 64 + 64 * length xs) (c + 64 * suc (length xs)) p.atomic.acts (end_from of_piece.end x.1.outcome.state xs).row (omega arith) (omega arith)
      (row_chain (suc d) (c + 64) x.1.outcome.state xs here connects.1 made.1)

  -- the last piece
  made_or : (o : Option PieceValue) → ((q : PieceValue) → o ≡ Some q → IsMade q) → (xs : Chain PieceValue) → AreMadeByLogs (book_of n seed limits) j xs → (q : PieceValue) → last_or o xs ≡ Some q → IsMade q
  made_or o h [] made q e = h q e
  made_or o h (x ∷ xs) made q e = made_or (Some x.1) (λ r k. subst IsMade (some_same x.1 r k) made.0) xs made.1 q e

  made_last : (xs : Chain PieceValue) → AreMadeByLogs (book_of n seed limits) j xs → (q : PieceValue) → last_of xs ≡ Some q → IsMade q
  made_last xs made q e = made_or None (λ r k. absurd (cc)) xs made q e

  pub last_part : (xs : Chain PieceValue) → AreMadeByLogs (book_of n seed limits) j xs → (q : PieceValue) → last_of xs ≡ Some q → q.part ≡ p
  last_part xs made q e = made_part q (made_last xs made q e)

  -- its state, as it was made of small values
  last_values : (q : PieceValue) → IsMade q → Fits (claim_of q) → IsLog q.part q.log → ValuesFit p q.outcome.state
  last_values q made fits log =
      let base : ValuesFit p q.base = subst (λ (x : Part). ValuesFit x q.base) (made_part q made) (values_of q.part q.base fits.base) in
      subst (λ (s : LeafState). ValuesFit p s) (made_state q made)
      (piece_values n known.network (draw_of seed) (limits_in limits) (known.lawful (draw_of seed) (limits_in limits)) j p p_there q.base (values_in q) base (log_small q.part q.log n.shared log) (kind_of q) q.time)

-- a chain has a last piece, or none
last_there : (xs : Chain PieceValue) → (xs ≡ []) ⊎ ((q : PieceValue) × (last_of xs ≡ Some q))
last_there [] = inl refl
last_there (x ∷ xs) = inr (some_last x.1 xs)
  where
    some_last : (q : PieceValue) (ys : Chain PieceValue) → (r : PieceValue) × (last_or (Some q) ys ≡ Some r)
    some_last q [] = (q, refl)
    some_last q (y ∷ ys) = some_last y.1 ys

-- over a machine
module _ (m : MachineValue) (run : FollowsRun m) (known : Known m.network) (going : m.held.core.stop ≡ None) (a : AheadValue) (j : ℕ) (there : j < length m.network.parts)
    (connects : Connects of_piece (leaf_of (core_in m) j) (chain_of a.chains j)) (made : AreMadeByLogs (book_of m.network m.seed m.limits) j (chain_of a.chains j)) (short : length (chain_of a.chains j) ≤ MAX_WINDOW) where
  abbrev stands : (s : State) × Stands (net_in m) (opening_state (net_in m)) (follow.past m run known.network known.lawful known.laid) (core_in m) s
  stands = follow.stands m run known.network known.lawful known.laid going

  abbrev part : Part
  part = part_at m.network j

  part_is : slice_get m.network.parts j ≡ Some part
  part_is = part_there m.network.parts j there

  count_few : stands.0.count ≤ MAX_EVENTS
  count_few = fit.count_few m.network known.network (draw_of m.seed) (limits_in m.limits) (run.limits.events_in_range.1) known.initial (follow.past m run known.network known.lawful known.laid) (core_in m) stands.0 stands.1

  row_first : RowFits (suc stands.0.count) stands.0.count part.atomic.acts (leaf_of (core_in m) j).row
  row_first = fit.row_here m.network known.network (draw_of m.seed) (limits_in m.limits) (run.limits.events_in_range.1) known.initial (follow.past m run known.network known.lawful known.laid) (core_in m) stands.0 stands.1 j part part_is

  row_end : RowFits (suc stands.0.count + length (chain_of a.chains j)) (stands.0.count + 64 * length (chain_of a.chains j)) part.atomic.acts (end_state m a j).row
  row_end = row_chain m.network known m.seed m.limits j there (suc stands.0.count) stands.0.count (leaf_of (core_in m) j) (chain_of a.chains j) row_first connects made

  -- the end's row
  pub row_stands : RowStands part (end_state m a j).row
  row_stands =
      let lists = listed (suc stands.0.count + length (chain_of a.chains j)) (stands.0.count + 64 * length (chain_of a.chains j)) part.atomic.acts (end_state m a j).row row_end in
      record { timers = lists.timers; timed = lists.timed }

  first_fits : StateFits part (leaf_of (core_in m) j)
  first_fits = fit.state_fits m.network known.network (draw_of m.seed) (limits_in m.limits) (run.limits.events_in_range.1) known.initial (follow.past m run known.network known.lawful known.laid) (core_in m) stands.0 stands.1 j part part_is

  -- its time
  pub timely : (core_in m).order.time ≤ MAX_HORIZON
  timely = let t = stands.1.counts.timely in let r = run.limits.horizon_in_range in omega (arith, t, r)

  -- and it fits, where the last piece does
  pub end_fits : LastFits a j → StateFits part (end_state m a j)
  end_fits last = by_last (last_there (chain_of a.chains j))
    where
      by_last : (chain_of a.chains j ≡ []) ⊎ ((q : PieceValue) × (last_of (chain_of a.chains j) ≡ Some q)) → StateFits part (end_state m a j)
      by_last (inl none) = subst (λ (xs : Chain PieceValue). StateFits part (end_from of_piece.end (leaf_of (core_in m) j) xs)) (sym none) first_fits
      by_last (inr found) =
          let q = found.0 in let is = found.1 in
          let fits = last q is in
          let values : ValuesFit part (end_state m a j) =
          subst (λ (s : LeafState). ValuesFit part s) (sym (end_last (leaf_of (core_in m) j) (chain_of a.chains j) q is))
          (last_values m.network known m.seed m.limits j there q (made_last m.network known m.seed m.limits j there (chain_of a.chains j) made q is) fits.0 fits.1) in
          state_of part (end_state m a j) (suc stands.0.count + length (chain_of a.chains j)) (stands.0.count + 64 * length (chain_of a.chains j)) values row_end (omega (arith, count_few, short)) (omega (arith, count_few, short))
