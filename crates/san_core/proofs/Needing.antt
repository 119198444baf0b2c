-- What a machine needs by its order's answer, and what the run needs then.
use Rattle.std.proofs.Common.{ℕ, ◌-◌, ◌<◌, ◌≡◌, ◌∙◌, ap, sym, refl, subst, List, length, map, Option, Some, None, arith}
use Rattle.std.specs.Prelude.{slice_get, slice_index}
use Rattle.san_base.specs.declared.piece.Kind.{Kind}
use Rattle.san_base.specs.declared.piece.Kind.TheVariants as kind
use Rattle.san_base.specs.declared.numbers.ActId.{ActId}
use Rattle.san_base.specs.declared.numbers.LeafId.{LeafId}
use Rattle.san_law.specs.Core.{Core}
use Rattle.san_law.specs.Order.{Finished, Need, Needs, need_of}
use Rattle.san_law.specs.Piece as law
use Rattle.san_law.specs.Pieces as pieces
use Rattle.san_law.specs.Pieces.{next_piece, piece_for, unless_stopped}
use Rattle.san_law.specs.Step.{Ending}
use Rattle.san_leaf.specs.States.{kind_in}
use Rattle.san_net.specs.declared.part.Part.{Part}
use Rattle.san_turn.specs.declared.need.Need as turn
use Rattle.san_turn.specs.declared.need.Need.TheVariants as need
use Rattle.san_core.specs.Machines.{FollowsRun, MachineValue, core_in, net_in}
use Rattle.san_core.specs.declared.admission.Taking.{Taking}
use Rattle.san_core.specs.Needed.{IsNeed, NeedBy, NumbersFrom}
use Rattle.san_core.specs.inner.Needed.{need_given}
use Rattle.san_core.proofs.Needs.{GivenIs, NeedIs, given_is}
use Rattle.san_core.proofs.TakePieces.{first_at}
use Rattle.san_net.proofs.PartLemmas.{part_there}

-- a machine goes on, and this is its order's answer
pub record Goes (m : MachineValue) (answer : turn.Need) : Type 0 where
  pub going : m.held.core.stop ≡ None
  pub need : NeedIs m.held.firsts m.held.core.order.time (need_of m.limits.horizon.0 m.held.core.order) answer

module _ (m : MachineValue) (run : FollowsRun m) where
  abbrev c : Core
  c = core_in m

  abbrev h : Core
  h = m.held.core

  abbrev need_here : Need
  need_here = need_of m.limits.horizon.0 h.order

  pub need_core : (x : Need) → need_here ≡ x → need_of (net_in m).horizon c.order ≡ x
  need_core x is = sym (ap (λ (y : Core). need_of (net_in m).horizon y.order) run.held) ∙ is

  stop_core : (x : Option Ending) → h.stop ≡ x → c.stop ≡ x
  stop_core x is = sym (ap (λ (y : Core). y.stop) run.held) ∙ is

  -- what the run needs
  pub needs_next : (j : ℕ) (k : law.Kind) (time : ℕ) → h.stop ≡ None → need_here ≡ Needs j k time → (p : pieces.Piece) × (next_piece (net_in m) c ≡ Some p)
  needs_next j k time going is = (_, ap (unless_stopped (net_in m) c) (stop_core None going) ∙ ap (piece_for (net_in m) c) (need_core (Needs j k time) is))

  pub needs_none : h.stop ≡ None → need_here ≡ Finished → next_piece (net_in m) c ≡ None
  needs_none going is = ap (unless_stopped (net_in m) c) (stop_core None going) ∙ ap (piece_for (net_in m) c) (need_core Finished is)

  pub stopped_none : (e : Ending) → h.stop ≡ Some e → next_piece (net_in m) c ≡ None
  stopped_none e is = ap (unless_stopped (net_in m) c) (stop_core (Some e) is)

  -- what the order answered
  abbrev Answered : turn.Need → Type 0
  Answered answer = answer ≡ need_given m.held.firsts m.held.horizon h.order h.stop

  given : (answer : turn.Need) → Answered answer → GivenIs m.held.firsts h.order.time need_here h.stop answer
  given answer is = given_is m.held.firsts m.limits.horizon.0 h.order h.stop answer (is ∙ ap (λ (x : ℕ). need_given m.held.firsts x h.order h.stop) run.belongs.horizon)

  settles_by : (leaf : LeafId) (stop : Option Ending) → h.stop ≡ stop → GivenIs m.held.firsts h.order.time need_here stop (need.Settle leaf) → Goes m (need.Settle leaf)
  settles_by leaf None is g = record { going = is; need = g }
  settles_by leaf (Some e) is g = absurd cc

  pub settles : (leaf : LeafId) → Answered (need.Settle leaf) → Goes m (need.Settle leaf)
  settles leaf is = settles_by leaf h.stop refl (given (need.Settle leaf) is)

  refreshes_by : (leaf : LeafId) (stop : Option Ending) → h.stop ≡ stop → GivenIs m.held.firsts h.order.time need_here stop (need.Refresh leaf) → Goes m (need.Refresh leaf)
  refreshes_by leaf None is g = record { going = is; need = g }
  refreshes_by leaf (Some e) is g = absurd cc

  pub refreshes : (leaf : LeafId) → Answered (need.Refresh leaf) → Goes m (need.Refresh leaf)
  refreshes leaf is = refreshes_by leaf h.stop refl (given (need.Refresh leaf) is)

  fires_by : (leaf : LeafId) (act : ActId) (time : Rattle.san_base.specs.declared.numbers.Tick.Tick) (stop : Option Ending) → h.stop ≡ stop → GivenIs m.held.firsts h.order.time need_here stop (need.Fire leaf act time) → Goes m (need.Fire leaf act time)
  fires_by leaf act time None is g = record { going = is; need = g }
  fires_by leaf act time (Some e) is g = absurd cc

  pub fires : (leaf : LeafId) (act : ActId) (time : Rattle.san_base.specs.declared.numbers.Tick.Tick) → Answered (need.Fire leaf act time) → Goes m (need.Fire leaf act time)
  fires leaf act time is = fires_by leaf act time h.stop refl (given (need.Fire leaf act time) is)

  ends_by : (stop : Option Ending) → h.stop ≡ stop → GivenIs m.held.firsts h.order.time need_here stop need.End → NeedBy m None
  ends_by None is g = needs_none is g
  ends_by (Some e) is g = stopped_none e is

  pub ends : Answered need.End → NeedBy m None
  ends is = ends_by h.stop refl (given need.End is)

  -- whose piece is needed
  is_need : (t : Taking) (k : law.Kind) → h.stop ≡ None → need_here ≡ Needs t.leaf.0 k t.time.0 → k ≡ kind_in t.first.0 t.kind → NumbersFrom t.first.0 t.kind
      → ((p : Part) → slice_get m.network.parts t.leaf.0 ≡ Some p → p.first ≡ t.first) → t.leaf.0 < length m.network.parts → IsNeed m t
  is_need t k going need same numbers first within =
      let at = part_there m.network.parts t.leaf.0 within in
      record {
        going = going;
        need = need ∙ ap (λ (x : law.Kind). Needs t.leaf.0 x t.time.0) same;
        numbers = numbers;
        part = at.0;
        there = at.1;
        first = first at.0 at.1;
      }

  abbrev IsTaking : Taking → LeafId → Kind → ℕ → Type 0
  IsTaking t leaf k time = (t.leaf ≡ leaf) × (t.kind ≡ k) × (t.time.0 ≡ time)

  abbrev HasFirst : Taking → Type 0
  HasFirst t = (p : Part) → slice_get m.network.parts t.leaf.0 ≡ Some p → p.first ≡ t.first

  kind_same : (t : Taking) (k : Kind) → t.kind ≡ k → NumbersFrom t.first.0 k → NumbersFrom t.first.0 t.kind
  kind_same t k is n = subst (NumbersFrom t.first.0) (sym is) n

  need_moved : (t : Taking) (leaf : LeafId) (k : law.Kind) (time : ℕ) → t.leaf ≡ leaf → t.time.0 ≡ time → need_here ≡ Needs leaf.0 k time → need_here ≡ Needs t.leaf.0 k t.time.0
  need_moved t leaf k time l e is = is ∙ (ap (λ (x : LeafId). Needs x.0 k time) (sym l) ∙ ap (λ (x : ℕ). Needs t.leaf.0 k x) (sym e))

  pub settle_need : (t : Taking) (leaf : LeafId) → Goes m (need.Settle leaf) → IsTaking t leaf kind.Settle h.order.time → HasFirst t → t.leaf.0 < length m.network.parts → IsNeed m t
  settle_need t leaf g of first within = is_need t law.Settle g.going (need_moved t leaf law.Settle h.order.time of.0 of.2 g.need) (ap (kind_in t.first.0) (sym of.1)) (kind_same t kind.Settle of.1 tt) first within

  pub refresh_need : (t : Taking) (leaf : LeafId) → Goes m (need.Refresh leaf) → IsTaking t leaf kind.Refresh h.order.time → HasFirst t → t.leaf.0 < length m.network.parts → IsNeed m t
  refresh_need t leaf g of first within = is_need t law.Refresh g.going (need_moved t leaf law.Refresh h.order.time of.0 of.2 g.need) (ap (kind_in t.first.0) (sym of.1)) (kind_same t kind.Refresh of.1 tt) first within

  first_same : (t : Taking) (leaf : LeafId) → t.leaf ≡ leaf → HasFirst t → t.leaf.0 < length m.network.parts → slice_index m.held.firsts leaf.0 ≡ t.first.0
  first_same t leaf l first within =
      let at = part_there m.network.parts t.leaf.0 within in
      ap (λ (xs : List ℕ). slice_index xs leaf.0) run.belongs.firsts
      ∙ (ap (λ (x : LeafId). slice_index (map (λ (q : Part). q.first.0) m.network.parts) x.0) (sym l)
      ∙ (first_at m.network.parts t.leaf.0 at.0 at.1 ∙ ap (λ (x : ActId). x.0) (first at.0 at.1)))

  pub fire_need : (t : Taking) (leaf : LeafId) (act : ActId) (time : Rattle.san_base.specs.declared.numbers.Tick.Tick) → Goes m (need.Fire leaf act time) → IsTaking t leaf (kind.Fire act) time.0 → HasFirst t → t.leaf.0 < length m.network.parts → IsNeed m t
  fire_need t leaf act time g of first within =
      let same = first_same t leaf of.0 first within in
      is_need t (law.Fire (act.0 - slice_index m.held.firsts leaf.0)) g.going (need_moved t leaf (law.Fire (act.0 - slice_index m.held.firsts leaf.0)) time.0 of.0 of.2 g.need.0)
      (ap (λ (x : ℕ). law.Fire (act.0 - x)) same ∙ ap (kind_in t.first.0) (sym of.1))
      (kind_same t (kind.Fire act) of.1 (let few = g.need.1 in omega (arith, few, same))) first within
