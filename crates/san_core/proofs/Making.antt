-- The needed piece can be made from the committed part, and is then the needed one.
use Rattle.std.proofs.Common.{ℕ, ◌-◌, ◌<◌, ◌≤◌, ◌≡◌, ◌∙◌, ap, sym, subst, length, map, Option, Some, None, arith}
use Rattle.std.specs.Prelude.{slice_get, slice_index}
use Rattle.std.proofs.lemmas.List.{length-map}
use Rattle.std.proofs.lemmas.Option.{slice_get_within}
use Rattle.san_base.specs.declared.piece.Kind.{Kind}
use Rattle.san_base.specs.declared.piece.Kind.TheVariants as kind
use Rattle.san_base.specs.declared.numbers.ActId.{ActId}
use Rattle.san_draw.specs.Key.{draw_of}
use Rattle.san_expr.specs.Concerns.{IsMarking}
use Rattle.san_law.specs.Activity as leaf
use Rattle.san_law.specs.Core.{Core, leaf_of}
use Rattle.san_law.specs.Lawful.{IsLaid, IsLawful}
use Rattle.san_law.specs.Net.{Net, least_timer}
use Rattle.san_law.specs.Network.{Limits}
use Rattle.san_law.specs.Order.{Need, Needs, need_of}
use Rattle.san_law.specs.Piece as law
use Rattle.san_law.specs.Piece.{LeafState}
use Rattle.san_leaf.specs.Fits.{Fits, KindFits, StateFits}
use Rattle.san_leaf.specs.Pieces.{PieceValue}
use Rattle.san_leaf.specs.States.{kind_in}
use Rattle.san_leaf.proofs.FitLemmas.{claim_fits}
use Rattle.san_net.specs.Laid.{IsNetwork}
use Rattle.san_net.specs.Leaf as net
use Rattle.san_net.specs.Network.{net_of}
use Rattle.san_net.specs.declared.part.Part.{Part}
use Rattle.san_net.specs.Runs.{limits_in}
use Rattle.san_core.specs.Machines.{FollowsRun, IsNeeded, MachineValue, core_in, net_in}
use Rattle.san_core.specs.declared.admission.Taking.{Taking}
use Rattle.san_core.specs.Needed.{IsNeed, NumbersFrom}
use Rattle.san_core.specs.inner.Needed.{IsMadeFrom, claim_from}
use Rattle.san_core.proofs.Bounding.{networks_are_bounded}
use Rattle.san_core.proofs.Fitting as fit
use Rattle.san_core.proofs.Following as follow
use Rattle.san_core.proofs.Needs.{fire_least, need_within, Within}
use Rattle.san_core.proofs.Suiting.{needed_suits}

module _ (m : MachineValue) (run : FollowsRun m) (network : IsNetwork m.network)
    (lawful : (draw : ℕ → ℕ → ℕ) (limits : Limits) → IsLawful (net_of m.network draw limits))
    (laid : (draw : ℕ → ℕ → ℕ) (limits : Limits) → IsLaid (net_of m.network draw limits) (length m.network.initial))
    (initial : IsMarking m.network.initial) (going : m.held.core.stop ≡ None) where
  abbrev here : Net
  here = net_in m

  abbrev c : Core
  c = core_in m

  abbrev h : Core
  h = m.held.core

  abbrev draw : ℕ → ℕ → ℕ
  draw = draw_of m.seed

  abbrev limits : Limits
  limits = limits_in m.limits

  abbrev stands : (s : Rattle.san_law.specs.State.State) × Rattle.san_law.specs.Standing.Stands here (Rattle.san_law.specs.State.opening_state here) (follow.past m run network lawful laid) c s
  stands = follow.stands m run network lawful laid going

  parts_long : length here.parts ≡ length m.network.parts
  parts_long = length-map (map net.leaf_of m.network.parts) (λ (q : leaf.Part). q.slots) ∙ length-map m.network.parts net.leaf_of

  pub leaves_long : length h.leaves ≡ length m.network.parts
  leaves_long = ap (λ (x : Core). length x.leaves) run.held ∙ (stands.1.holds.sized.leaves ∙ parts_long)

  pub shared_small : IsMarking h.shared
  shared_small q = subst (λ (x : Core). slice_index x.shared q ≤ 2147483647) (sym run.held)
      (fit.shared_small m.network network draw limits (run.limits.events_in_range.1) initial (follow.past m run network lawful laid) c stands.0 stands.1 q)

  need_core : (x : Need) → need_of m.limits.horizon.0 h.order ≡ x → need_of here.horizon c.order ≡ x
  need_core x is = sym (ap (λ (y : Core). need_of here.horizon y.order) run.held) ∙ is

  -- the leaf of a need
  pub leaf_within : (j : ℕ) (k : law.Kind) (time : ℕ) → need_of m.limits.horizon.0 h.order ≡ Needs j k time → j < length m.network.parts
  leaf_within j k time is =
      let w : Within (length here.parts) (Needs j k time) = subst (Within (length here.parts)) (need_core (Needs j k time) is) (need_within here c stands.0 stands.1.holds here.horizon) in
      omega (arith, w, parts_long)

  -- a need can be claimed
  module _ (t : Taking) (need : IsNeed m t) where
    state_is : leaf_of h t.leaf.0 ≡ leaf_of c t.leaf.0
    state_is = ap (λ (x : Core). leaf_of x t.leaf.0) run.held

    module _ (p : Part) (there : slice_get m.network.parts t.leaf.0 ≡ Some p) where
      abbrev part_or : Option Part → Part
      part_or None = p
      part_or (Some x) = x

      first_is : p.first ≡ t.first
      first_is = ap (λ (x : Option Part). (part_or x).first) (sym there ∙ need.there) ∙ need.first

      state : StateFits p (leaf_of h t.leaf.0)
      state = subst (StateFits p) (sym state_is) (fit.state_fits m.network network draw limits (run.limits.events_in_range.1) initial (follow.past m run network lawful laid) c stands.0 stands.1 t.leaf.0 p there)

      needs_core : need_of here.horizon c.order ≡ Needs t.leaf.0 (kind_in t.first.0 t.kind) t.time.0
      needs_core = need_core (Needs t.leaf.0 (kind_in t.first.0 t.kind) t.time.0) need.need

      kind_at : (k : Kind) (first : ActId) → need_of here.horizon c.order ≡ Needs t.leaf.0 (kind_in first.0 k) t.time.0 → NumbersFrom first.0 k → p.first ≡ first → KindFits p k
      kind_at kind.Settle first is n f = tt
      kind_at kind.Refresh first is n f = tt
      kind_at (kind.Fire act) first is n f =
          let within : t.leaf.0 < length here.parts = (let w = slice_get_within m.network.parts t.leaf.0 p there in omega (arith, w, parts_long)) in
          let least : least_timer (leaf_of c t.leaf.0).row ≡ Some (t.time.0, act.0 - first.0) = sym (stands.1.holds.dues t.leaf.0 within) ∙ fire_least here.horizon c.order t.leaf.0 (act.0 - first.0) t.time.0 is in
          let timed = fit.due_timed m.network network draw limits (run.limits.events_in_range.1) initial (follow.past m run network lawful laid) c stands.0 stands.1 t.leaf.0 p there (t.time.0, act.0 - first.0) least in
          let same : p.first.0 ≡ first.0 = ap (λ (x : ActId). x.0) f in
          (omega (arith, n, same), (timed.0, ap (λ (x : ℕ). slice_get p.atomic.acts (act.0 - x)) same ∙ timed.1, timed.2))

      timely : t.time.0 ≤ here.horizon
      timely = (needed_suits here (lawful draw limits) (networks_are_bounded m.network network draw limits) (length m.network.initial) (laid draw limits) (Rattle.san_law.specs.State.opening_state here) (follow.past m run network lawful laid) c stands.0 stands.1 t.leaf.0 (kind_in t.first.0 t.kind) t.time.0 needs_core).timely

      pub fits : Fits (claim_from m.held m.seed t p)
      fits = claim_fits m.network t.leaf.0 (claim_from m.held m.seed t p) network there state (kind_at t.kind t.first needs_core need.numbers first_is) (let r = run.limits.horizon_in_range in omega (arith, timely, r))

    -- and a piece that is made from the claim is the needed one
    pub made_needed : (p : PieceValue) → IsMadeFrom m.network m.held m.seed t p → IsNeeded m p
    made_needed p made =
        let leaf : p.part.leaf.0 ≡ t.leaf.0 = network.numbered.leaves t.leaf.0 p.part made.part in
        let first : p.part.first ≡ t.first = first_is p.part made.part in
        record {
          going = going;
          need = need.need
              ∙ (ap (λ (x : ℕ). Needs x (kind_in t.first.0 t.kind) t.time.0) (sym leaf)
              ∙ (ap (λ (x : ActId). Needs p.part.leaf.0 (kind_in x.0 t.kind) t.time.0) (sym first)
              ∙ (ap (λ (x : Kind). Needs p.part.leaf.0 (kind_in p.part.first.0 x) t.time.0) (sym made.kind_is)
              ∙ ap (λ (x : ℕ). Needs p.part.leaf.0 (kind_in p.part.first.0 p.kind) x) (sym made.time_is))));
          seed = made.seed_is;
          part = ap (slice_get m.network.parts) leaf ∙ made.part;
          base = ap (leaf_of h) leaf ∙ sym made.base;
          log = made.log;
        }
