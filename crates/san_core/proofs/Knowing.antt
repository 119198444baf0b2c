-- What is known of a machine's network, and what a need of it fits.
use Rattle.std.proofs.Common.{ℕ, ◌-◌, ◌<◌, ◌≤◌, ◌≡◌, ◌∙◌, ap, sym, subst, length, Some, None}
use Rattle.std.specs.Prelude.{IfOk, Result, Ok, Err, slice_get, slice_index}
use Rattle.std.proofs.lemmas.Option.{slice_get_within}
use Rattle.san_base.specs.declared.numbers.NoMemory.{NoMemory}
use Rattle.san_base.specs.declared.piece.Kind.{Kind}
use Rattle.san_base.specs.declared.piece.Kind.TheVariants as piece
use Rattle.san_base.specs.declared.numbers.ActId.{ActId}
use Rattle.san_base.specs.declared.numbers.LeafId.{LeafId}
use Rattle.san_base.specs.declared.numbers.Tick.{Tick}
use Rattle.san_expr.specs.Concerns.{IsMarking}
use Rattle.san_law.specs.Lawful.{IsLaid, IsLawful}
use Rattle.san_law.specs.Network.{Limits}
use Rattle.san_law.specs.Order.{Needs, need_of}
use Rattle.san_law.specs.Piece as law
use Rattle.san_leaf.specs.Fits.{Fits}
use Rattle.san_leaf.specs.Pieces.{PieceValue}
use Rattle.san_net.specs.Laid.{IsNetwork}
use Rattle.san_net.specs.Network.{Network, net_of}
use Rattle.san_net.specs.Tables.{importers_of}
use Rattle.san_net.specs.declared.part.Part.{Part}
use Rattle.san_turn.specs.declared.need.Need as turn
use Rattle.san_turn.specs.declared.need.Need.TheVariants as need
use Rattle.san_core.specs.Machines.{FollowsRun, IsNeeded, MachineValue}
use Rattle.san_core.specs.declared.admission.Taking.{Taking}
use Rattle.san_core.specs.Needed.{IsNeed, NeedBy}
use Rattle.san_core.specs.inner.Needed.{IsMadeFrom, claim_from, need_given}
use Rattle.san_net.proofs.InitialLemmas.{initial_small}
use Rattle.san_core.proofs.Making as making
use Rattle.san_core.proofs.Needing as needing

pub record Known (n : Network) : Type 0 where
  pub network : IsNetwork n
  pub lawful : (draw : ℕ → ℕ → ℕ) (limits : Limits) → IsLawful (net_of n draw limits)
  pub laid : (draw : ℕ → ℕ → ℕ) (limits : Limits) → IsLaid (net_of n draw limits) (length n.initial)
  pub initial : IsMarking n.initial

pub known : (x n : Network) → x ≡ n → IsNetwork x → ((draw : ℕ → ℕ → ℕ) (limits : Limits) → IsLawful (net_of x draw limits)) → ((draw : ℕ → ℕ → ℕ) (limits : Limits) → IsLaid (net_of x draw limits) (length x.initial))
    → ((place : ℕ) → place < x.shared → 2 ≤ length (importers_of x.parts place)) → ((place : ℕ) → x.shared ≤ place → place < length x.initial → length (importers_of x.parts place) ≡ 1) → Known n
known x n is network lawful laid shared private = subst Known is (record { network = network; lawful = lawful; laid = laid; initial = initial_small x network shared private })

module _ (m : MachineValue) (run : FollowsRun m) (k : Known m.network) where
  pub fits : (t : Taking) → IsNeed m t → (p : Part) → slice_get m.network.parts t.leaf.0 ≡ Some p → Fits (claim_from m.held m.seed t p)
  fits t need p there = making.fits m run k.network k.lawful k.laid k.initial need.going t need p there

  pub made : (t : Taking) → IsNeed m t → (p : PieceValue) → IsMadeFrom m.network m.held m.seed t p → IsNeeded m p
  made t need p is = making.made_needed m run k.network k.lawful k.laid k.initial need.going t need p is

  pub leaves_long : m.held.core.stop ≡ None → length m.held.core.leaves ≡ length m.network.parts
  leaves_long going = making.leaves_long m run k.network k.lawful k.laid k.initial going

  pub shared_small : m.held.core.stop ≡ None → IsMarking m.held.core.shared
  shared_small going = making.shared_small m run k.network k.lawful k.laid k.initial going

  pub within : m.held.core.stop ≡ None → (j : ℕ) (kind : law.Kind) (time : ℕ) → need_of m.limits.horizon.0 m.held.core.order ≡ Needs j kind time → j < length m.network.parts
  within going j kind time is = making.leaf_within m run k.network k.lawful k.laid k.initial going j kind time is

  pub settles_within : (leaf : LeafId) → needing.Goes m (need.Settle leaf) → leaf.0 < length m.network.parts
  settles_within leaf g = within g.going leaf.0 law.Settle m.held.core.order.time g.need

  pub refreshes_within : (leaf : LeafId) → needing.Goes m (need.Refresh leaf) → leaf.0 < length m.network.parts
  refreshes_within leaf g = within g.going leaf.0 law.Refresh m.held.core.order.time g.need

  pub fires_within : (leaf : LeafId) (act : ActId) (time : Tick) → needing.Goes m (need.Fire leaf act time) → leaf.0 < length m.network.parts
  fires_within leaf act time g = within g.going leaf.0 (law.Fire (act.0 - slice_index m.held.firsts leaf.0)) time.0 g.need.0

-- what a machine's order answered, where the machine is seen as v
module _ (m v : MachineValue) (is : m ≡ v) (run : FollowsRun m) (k : Known m.network) where
  abbrev Answered : turn.Need → Type 0
  Answered answer = answer ≡ need_given m.held.firsts m.held.horizon m.held.core.order m.held.core.stop

  abbrev IsAsked : Taking → LeafId → Kind → Tick → Type 0
  IsAsked t leaf kind time = (t.leaf ≡ leaf) × (t.kind ≡ kind) × (t.time ≡ time)

  abbrev HasFirst : Taking → LeafId → Type 0
  HasFirst t leaf = (p : Part) → slice_get v.network.parts leaf.0 ≡ Some p → p.first ≡ t.first

  first_here : (t : Taking) (leaf : LeafId) → t.leaf ≡ leaf → HasFirst t leaf → (p : Part) → slice_get m.network.parts t.leaf.0 ≡ Some p → p.first ≡ t.first
  first_here t leaf same first p there = first p (ap (λ (x : MachineValue). slice_get x.network.parts leaf.0) (sym is) ∙ (ap (λ (l : LeafId). slice_get m.network.parts l.0) (sym same) ∙ there))

  within_here : (t : Taking) (leaf : LeafId) → t.leaf ≡ leaf → leaf.0 < length m.network.parts → t.leaf.0 < length m.network.parts
  within_here t leaf same l = subst (λ (x : LeafId). x.0 < length m.network.parts) (sym same) l

  time_here : (t : Taking) (time : Tick) → t.time ≡ time → t.time.0 ≡ time.0
  time_here t time same = ap (λ (x : Tick). x.0) same

  pub settle_within : (leaf : LeafId) → Answered (need.Settle leaf) → leaf.0 < length v.network.parts
  settle_within leaf a = subst (λ (x : MachineValue). leaf.0 < length x.network.parts) is (settles_within m run k leaf (needing.settles m run leaf a))

  pub refresh_within : (leaf : LeafId) → Answered (need.Refresh leaf) → leaf.0 < length v.network.parts
  refresh_within leaf a = subst (λ (x : MachineValue). leaf.0 < length x.network.parts) is (refreshes_within m run k leaf (needing.refreshes m run leaf a))

  pub fire_within : (leaf : LeafId) (act : ActId) (time : Tick) → Answered (need.Fire leaf act time) → leaf.0 < length v.network.parts
  fire_within leaf act time a = subst (λ (x : MachineValue). leaf.0 < length x.network.parts) is (fires_within m run k leaf act time (needing.fires m run leaf act time a))

  pub settle_by : (leaf : LeafId) (time : Tick) (t : Taking) → Answered (need.Settle leaf) → (m.held.core.stop ≡ None → time.0 ≡ m.held.core.order.time) → IsAsked t leaf piece.Settle time → HasFirst t leaf → NeedBy v (Some t)
  settle_by leaf time t a now of first =
      let g = needing.settles m run leaf a in
      subst (λ (x : MachineValue). IsNeed x t) is (needing.settle_need m run t leaf g (of.0, of.1, time_here t time of.2 ∙ now g.going) (first_here t leaf of.0 first) (within_here t leaf of.0 (settles_within m run k leaf g)))

  pub refresh_by : (leaf : LeafId) (time : Tick) (t : Taking) → Answered (need.Refresh leaf) → (m.held.core.stop ≡ None → time.0 ≡ m.held.core.order.time) → IsAsked t leaf piece.Refresh time → HasFirst t leaf → NeedBy v (Some t)
  refresh_by leaf time t a now of first =
      let g = needing.refreshes m run leaf a in
      subst (λ (x : MachineValue). IsNeed x t) is (needing.refresh_need m run t leaf g (of.0, of.1, time_here t time of.2 ∙ now g.going) (first_here t leaf of.0 first) (within_here t leaf of.0 (refreshes_within m run k leaf g)))

  pub fire_by : (leaf : LeafId) (act : ActId) (time : Tick) (t : Taking) → Answered (need.Fire leaf act time) → IsAsked t leaf (piece.Fire act) time → HasFirst t leaf → NeedBy v (Some t)
  fire_by leaf act time t a of first =
      let g = needing.fires m run leaf act time a in
      subst (λ (x : MachineValue). IsNeed x t) is (needing.fire_need m run t leaf act time g (of.0, of.1, time_here t time of.2) (first_here t leaf of.0 first) (within_here t leaf of.0 (fires_within m run k leaf act time g)))

  pub end_by : Answered need.End → NeedBy v None
  end_by a = subst (λ (x : MachineValue). NeedBy x None) is (needing.ends m run a)

  -- and what the needed piece is made from, over the same network x
  module _ (x : Network) (same : x ≡ m.network) (t : Taking) (asked : IsNeed v t) where
    need_here : IsNeed m t
    need_here = subst (λ (y : MachineValue). IsNeed y t) (sym is) asked

    pub make_leaf : t.leaf.0 < length x.parts
    make_leaf = subst (λ (y : Network). t.leaf.0 < length y.parts) (sym same) (slice_get_within m.network.parts t.leaf.0 need_here.part need_here.there)

    pub make_leaves : length m.held.core.leaves ≡ length x.parts
    make_leaves = leaves_long m run k need_here.going ∙ ap (λ (y : Network). length y.parts) (sym same)

    pub make_fits : (p : Part) → slice_get x.parts t.leaf.0 ≡ Some p → Fits (claim_from m.held m.seed t p)
    make_fits p there = fits m run k t need_here p (ap (λ (y : Network). slice_get y.parts t.leaf.0) (sym same) ∙ there)

    pub make_small : IsMarking m.held.core.shared
    make_small = shared_small m run k need_here.going

    made_ok : (r : Result PieceValue NoMemory) → IfOk r (IsMadeFrom m.network m.held m.seed t) → IfOk r (IsNeeded v)
    made_ok (Ok p) h = subst (λ (y : MachineValue). IsNeeded y p) is (made m run k t need_here p h)
    made_ok (Err e) h = tt

    pub make_made : (r : Result PieceValue NoMemory) → IfOk r (IsMadeFrom x m.held m.seed t) → IfOk r (IsNeeded v)
    make_made r h = made_ok r (subst (λ (y : Network). IfOk r (IsMadeFrom y m.held m.seed t)) same h)
