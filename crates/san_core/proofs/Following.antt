-- A machine that takes the needed piece follows the run.
use Rattle.std.proofs.Common.{ℕ, suc, ◌+◌, ◌-◌, ◌*◌, ◌<◌, ◌≤◌, ◌≡◌, ◌≢◌, ◌∙◌, ap, sym, subst, refl, List, ◌++◌, length, map, Option, Some, None, arith}
use Rattle.std.specs.Prelude.{slice_get}
use Rattle.std.proofs.lemmas.List.{append-nil, length-map, map-append}
use Rattle.std.proofs.lemmas.Nat.{mul-le}
use Rattle.san_base.specs.declared.ending.Event as named
use Rattle.san_base.specs.declared.limits.TheConstants.{MAX_EVENTS}
use Rattle.san_base.specs.Limits.{IsInRange}
use Rattle.san_draw.specs.Key.{draw_of}
use Rattle.san_law.specs.Activity as leaf
use Rattle.san_law.specs.Admitted.{Admitted}
use Rattle.san_law.specs.Core.{Core, advance, advance_by, after_pieces, leaf_of, take_admitted, take_need, taken}
use Rattle.san_law.specs.Lawful.{IsLaid, IsLawful}
use Rattle.san_law.specs.Left.{left, left_by, left_flags, left_going}
use Rattle.san_law.specs.Net.{Net}
use Rattle.san_law.specs.Network.{Limits}
use Rattle.san_law.specs.Order.{Finished, Need, Needs, need_of}
use Rattle.san_law.specs.Piece.{Fire, Kind, LeafState, Outcome, Refresh, Settle, piece_of}
use Rattle.san_law.specs.Standing.{Follows, Stands, follows_by}
use Rattle.san_law.specs.Starts.{before}
use Rattle.san_law.specs.State.{State, opening_state}
use Rattle.san_law.specs.Step.{Event}
use Rattle.san_law.proofs.Alone.{piece_is_alone}
use Rattle.san_law.proofs.Leaving.{piece_leaves_less}
use Rattle.san_law.proofs.Lefts.{count_long}
use Rattle.san_law.proofs.Standing.{pieces_keep}
use Rattle.san_law.proofs.Starts.{advance_before}
use Rattle.san_law.proofs.Steps.{runs_within, tally_is_few}
use Rattle.san_leaf.specs.Fits.{Fits}
use Rattle.san_leaf.specs.Claimed.{claim_of}
use Rattle.san_leaf.specs.Pieces.{AgreesWith, IsSound, PieceValue}
use Rattle.san_leaf.specs.States.{kind_in}
use Rattle.san_net.specs.Laid.{IsNetwork}
use Rattle.san_net.specs.Leaf as net
use Rattle.san_net.specs.Network.{Network, net_of, network_in}
use Rattle.san_net.specs.Runs.{event_in, limits_in, net_at}
use Rattle.san_core.specs.Committed.{Belongs, CommittedValue, StartsRun, quiet, with_taken}
use Rattle.san_core.specs.Machines.{FollowsRun, IsNeeded, MachineValue, after_taking, core_in, core_taken, machine_by, net_in, opened}
use Rattle.san_core.specs.inner.CanTake.{CanTake}
use Rattle.san_core.specs.inner.Suits.{Suits}
use Rattle.san_core.proofs.Bounding.{networks_are_bounded}
use Rattle.san_core.proofs.Suiting.{needed_suits}
use Rattle.san_net.proofs.PartLemmas.{leaf_there}

-- a sound piece that has read such values is the law's
pub piece_is : (n : Network) (limits : Limits) (j : ℕ) (p : PieceValue) (shared : List ℕ) → IsSound p → slice_get n.parts j ≡ Some p.part → AgreesWith p.log shared
    → piece_of (net_of n (draw_of p.seed) limits) j (kind_in p.part.first.0 p.kind) p.time p.base shared ≡ p.outcome
piece_is n limits j p shared sound part agrees =
    piece_is_alone (network_in n) (draw_of p.seed) limits (record { horizon = 0; burst = 0; events = 0 }) j (net.leaf_of p.part) (leaf_there n.parts j p.part part) (kind_in p.part.first.0 p.kind) p.time p.base shared
    ∙ sound.makes shared agrees

abbrev with_events : Core → List Event → Core
with_events c es = record { leaves = c.leaves; shared = c.shared; order = c.order; burst = c.burst; count = c.count; events = es; tally = c.tally; stop = c.stop }

abbrev advanced : Net → Core → Core
advanced net c = advance_by net c c.stop

one_more : (net : Net) (n : ℕ) (c : Core) → after_pieces net (n + 1) c ≡ advanced net (after_pieces net n c)
unfolding after_pieces
one_more net n c = ap (λ (i : ℕ). after_pieces net i c) (more n)
  where
    more : (n : ℕ) → n + 1 ≡ suc n
    more n = omega arith

-- the time of the order is the piece's after it
time_admitted : (net : Net) (c : Core) (time : ℕ) (kind : Kind) (x : Admitted) (whole : List Event → Core) → ((es : List Event) → (whole es).order.time ≡ time) → (take_admitted net c time kind x whole).order.time ≡ time
time_admitted net c time kind (es, Some e) whole h = refl
time_admitted net c time kind (es, None) whole h = h es

taken_time : (net : Net) (c : Core) (j : ℕ) (kind : Kind) (time : ℕ) (o : Outcome) → (taken net c j kind time o).order.time ≡ time
taken_time net c j Settle time o = time_admitted net c time Settle _ _ (λ es. refl)
taken_time net c j (Fire k) time o = time_admitted net c time (Fire k) _ _ (λ es. refl)
taken_time net c j Refresh time o = time_admitted net c time Refresh _ _ (λ es. refl)

pub belongs_taken : (net : Net) (n : Network) (v : CommittedValue) (j : ℕ) (kind : Kind) (time : ℕ) (o : Outcome) → Belongs net n v → Belongs net n (with_taken net v j kind time o)
belongs_taken net n v j kind time o b = record {
  tally = refl;
  time = sym (taken_time net v.core j kind time o);
  of = record { spans = b.of.spans; terms = b.of.terms; horizon = b.of.horizon };
  terms = b.terms;
  firsts = b.firsts;
  horizon = b.horizon;
}

-- a machine that has taken nothing
pub opens : (n : Network) (seed : ℕ) (limits : Rattle.san_base.specs.declared.limits.Limits.Limits) (v : CommittedValue) → IsInRange limits → StartsRun (net_at n seed limits) n v → FollowsRun (opened n seed limits v)
unfolding after_pieces
opens n seed limits v range starts = record {
  limits = range;
  start = starts.start;
  held = ap (with_events v.core) starts.start.quiet;
  events = ap (map (event_in n)) (sym starts.start.quiet);
  belongs = starts.belongs;
  few = omega arith;
}

module _ (m : MachineValue) (run : FollowsRun m) (network : IsNetwork m.network)
    (lawful : (draw : ℕ → ℕ → ℕ) (limits : Limits) → IsLawful (net_of m.network draw limits))
    (laid : (draw : ℕ → ℕ → ℕ) (limits : Limits) → IsLaid (net_of m.network draw limits) (length m.network.initial)) where
  abbrev net_here : Net
  net_here = net_in m

  abbrev c : Core
  c = core_in m

  abbrev h : Core
  h = m.held.core

  abbrev law : IsLawful net_here
  law = lawful (draw_of m.seed) (limits_in m.limits)

  abbrev pub past : List Event
  past = run.start.follows.0

  pub follows : Follows net_here (opening_state net_here) past c
  follows = pieces_keep net_here law (opening_state net_here) run.start.follows.0 m.start.core run.start.follows.1 m.taken

  goes_on : h.stop ≡ None → c.stop ≡ None
  goes_on stop = sym (ap (λ (x : Core). x.stop) run.held) ∙ stop

  pub stands : h.stop ≡ None → (s : State) × Stands net_here (opening_state net_here) past c s
  stands stop = subst (follows_by net_here (opening_state net_here) past c) (goes_on stop) follows

  is_before : c ≡ before c.events h
  is_before = ap (with_events c) (sym (append-nil c.events)) ∙ ap (before c.events) (sym run.held)

  -- the needed piece
  module _ (p : PieceValue) (needed : IsNeeded m p) (sound : IsSound p) where
    abbrev j : ℕ
    j = p.part.leaf.0

    abbrev kind : Kind
    kind = kind_in p.part.first.0 p.kind

    -- what taking it makes of the held part
    abbrev d : Core
    d = core_taken m p

    made_is : piece_of net_here j kind p.time p.base h.shared ≡ p.outcome
    made_is = subst (λ (seed : ℕ). piece_of (net_at m.network seed m.limits) j kind p.time p.base h.shared ≡ p.outcome) needed.seed (piece_is m.network (limits_in m.limits) j p h.shared sound needed.part needed.log)

    pub at_leaf : p.outcome ≡ piece_of net_here j kind p.time (leaf_of h j) h.shared
    at_leaf = sym made_is ∙ ap (λ (l : LeafState). piece_of net_here j kind p.time l h.shared) (sym needed.base)

    advances : d ≡ advance net_here h
    unfolding advance
    advances = ap (taken net_here h j kind p.time) at_leaf ∙ sym (ap (take_need net_here h) needed.need)

    from_core : advance net_here c ≡ before c.events d
    from_core = ap (advance net_here) is_before ∙ (advance_before net_here c.events h ∙ ap (before c.events) (sym advances))

    next : after_pieces net_here (m.taken + 1) m.start.core ≡ before c.events d
    next = one_more net_here m.taken m.start.core ∙ (ap (advance_by net_here c) (goes_on needed.going) ∙ from_core)

    no_need : (x : Need) → need_of net_here.horizon c.order ≡ x → x ≡ Finished → Needs j kind p.time ≡ x → ⊥
    no_need x a b e = absurd cc

    need_core : need_of net_here.horizon c.order ≡ Needs j kind p.time
    need_core = sym (ap (λ (x : Core). need_of net_here.horizon x.order) run.held) ∙ needed.need

    unfinished : need_of net_here.horizon c.order ≢ Finished
    unfinished e = let k : Needs j kind p.time ≡ Finished = sym need_core ∙ e in absurd (cc)

    less : left net_here (after_pieces net_here (m.taken + 1) m.start.core) < left net_here c
    less =
        let st = stands needed.going in
        subst (λ (x : Core). left net_here x < left net_here c) (sym (one_more net_here m.taken m.start.core ∙ ap (advance_by net_here c) (goes_on needed.going)))
        (piece_leaves_less net_here law (opening_state net_here) past c st.0 st.1 (goes_on needed.going) unfinished)

    pub runs_on : FollowsRun (after_taking m p)
    runs_on = record {
      limits = run.limits;
      start = run.start;
      held = sym (ap quiet next);
      events = ap (λ es. es ++ map (event_in m.network) d.events) run.events
          ∙ (sym (map-append (event_in m.network) c.events d.events)
          ∙ ap (λ (x : Core). map (event_in m.network) x.events) (sym next));
      belongs = belongs_taken net_here m.network m.held j kind p.time p.outcome run.belongs;
      few = omega (arith, run.few, less);
    }

    pub falls : left net_here (core_in (after_taking m p)) < left net_here c
    falls = less

    -- the core of the law takes the piece as the held part does
    pub core_then : core_in (after_taking m p) ≡ taken net_here c j kind p.time p.outcome
    unfolding need_of advance after_pieces
    core_then =
        one_more net_here m.taken m.start.core
        ∙ (ap (advance_by net_here c) (goes_on needed.going)
        ∙ (ap (take_need net_here c) need_core
        ∙ ap (taken net_here c j kind p.time) (sym (at_leaf ∙ ap (λ (x : Core). piece_of net_here j kind p.time (leaf_of x j) x.shared) run.held))))

    pub can : Fits (claim_of p) → CanTake net_here m.network m.held p
    can fits =
        let st = stands needed.going in
        let s = st.0 in
        let runs = runs_within net_here (opening_state net_here) s (past ++ c.events) st.1.runs in
        let counts : h.count ≡ c.count = ap (λ (x : Core). x.count) run.held in
        let few = tally_is_few net_here (opening_state net_here) past c follows in
        let tallied : h.tally.impulses ≡ c.tally.impulses = ap (λ (x : Core). x.tally.impulses) run.held in
        let leaves : length h.leaves ≡ length c.leaves = ap (λ (x : Core). length x.leaves) run.held in
        let parts : length net_here.parts ≡ length m.network.parts = length-map (map net.leaf_of m.network.parts) (λ (q : leaf.Part). q.slots) ∙ length-map m.network.parts net.leaf_of in
        let limit = run.limits.events_in_range.1 in
        let count : h.count ≤ MAX_EVENTS = omega (arith, counts, st.1.holds.count, runs.0, runs.1, limit) in
        let suits = needed_suits net_here law (networks_are_bounded m.network network (draw_of m.seed) (limits_in m.limits)) (length m.network.initial) (laid (draw_of m.seed) (limits_in m.limits)) (opening_state net_here) past c s st.1 j kind p.time need_core in
        let held : Suits net_here (length h.shared) (length m.network.initial) h.order.time kind p.time j (leaf_of h j) (piece_of net_here j kind p.time (leaf_of h j) h.shared) =
        subst (λ (x : Core). Suits net_here (length x.shared) (length m.network.initial) x.order.time kind p.time j (leaf_of x j) (piece_of net_here j kind p.time (leaf_of x j) x.shared)) (sym run.held) suits in
        record {
          belongs = run.belongs;
          leaves = leaves ∙ (st.1.holds.sized.leaves ∙ parts);
          part = needed.part;
          going = needed.going;
          quiet = ap (λ (x : Core). x.events) run.held;
          most = run.limits.burst_in_range.1;
          count = count;
          impulses = omega (arith, tallied, few, counts, count);
          suits = subst (λ (l : LeafState). Suits net_here (length h.shared) (length m.network.initial) h.order.time kind p.time j l p.outcome) needed.base
              (subst (λ (o : Outcome). Suits net_here (length h.shared) (length m.network.initial) h.order.time kind p.time j (leaf_of h j) o) (sym at_leaf) held);
          first = omega (arith, fits.few);
          row = omega (arith, fits.base.timers, fits.few);
        }

    abbrev held_by : Network → CommittedValue
    held_by x = with_taken (net_at x p.seed m.limits) m.held j kind p.time p.outcome

    pub can_at : Fits (claim_of p) → (x : Network) → x ≡ m.network → CanTake (net_at x p.seed m.limits) x m.held p
    can_at fits x e = subst (λ (y : Network). CanTake (net_at y p.seed m.limits) y m.held p) (sym e) (subst (λ (seed : ℕ). CanTake (net_at m.network seed m.limits) m.network m.held p) (sym needed.seed) (can fits))

    -- what was taken in fact
    pub taken_on : (x : Network) → x ≡ m.network → (held : CommittedValue) (events : List named.Event) → held ≡ held_by x
        → events ≡ m.events ++ map (event_in x) (taken (net_at x p.seed m.limits) m.held.core j kind p.time p.outcome).events
        → machine_by m.network m.seed m.limits m.start held events (m.taken + 1) (m.spare - 1) ≡ after_taking m p
    taken_on x e held events is tells =
        ap (λ (v : CommittedValue). machine_by m.network m.seed m.limits m.start v events (m.taken + 1) (m.spare - 1))
        (is ∙ (ap held_by e ∙ ap (λ (seed : ℕ). with_taken (net_at m.network seed m.limits) m.held j kind p.time p.outcome) needed.seed))
        ∙ ap (λ (es : List named.Event). machine_by m.network m.seed m.limits m.start (with_taken net_here m.held j kind p.time p.outcome) es (m.taken + 1) (m.spare - 1))
        (tells ∙ (ap (λ (y : Network). m.events ++ map (event_in y) (taken (net_at y p.seed m.limits) m.held.core j kind p.time p.outcome).events) e
        ∙ ap (λ (seed : ℕ). m.events ++ map (event_in m.network) (taken (net_at m.network seed m.limits) m.held.core j kind p.time p.outcome).events) needed.seed))

  -- how much is left at most
  pub few_left : m.taken ≤ 200000000000
  few_left =
      let start = run.start in
      let st = subst (follows_by net_here (opening_state net_here) start.follows.0 m.start.core) start.going start.follows.1 in
      let s = st.0 in
      let sized = st.1.holds.sized in
      let o = m.start.core.order in
      let parts : length net_here.parts ≡ length m.network.parts = length-map (map net.leaf_of m.network.parts) (λ (q : leaf.Part). q.slots) ∙ length-map m.network.parts net.leaf_of in
      let limit = run.limits.events_in_range.1 in
      let weight = mul-le (net_here.limit - m.start.core.count) (3 * length net_here.parts + 3) 10000000 12291 (omega (arith, limit)) (omega (arith, parts, network.small.leaves)) in
      let flags : left_flags o ≤ 2 + 3 * length net_here.parts = few_flags o.going in
      let whole : left net_here m.start.core ≡ (net_here.limit - m.start.core.count) * (3 * length net_here.parts + 3) + left_flags o + 1 = ap (left_by net_here m.start.core) start.going in
      omega (arith, run.few, whole, weight, flags, parts, network.small.leaves)
    where
      going_few : (x : Option ℕ) → left_going x ≤ 2
      going_few None = omega arith
      going_few (Some i) = omega arith

      few_flags : (x : Option ℕ) → left_flags m.start.core.order ≤ 2 + 3 * length (net_in m).parts
      few_flags x =
          let st = subst (follows_by (net_in m) (opening_state (net_in m)) run.start.follows.0 m.start.core) run.start.going run.start.follows.1 in
          omega (arith, going_few m.start.core.order.going, count_long m.start.core.order.unsettled, count_long m.start.core.order.stale, st.1.holds.sized.unsettled, st.1.holds.sized.stale)
