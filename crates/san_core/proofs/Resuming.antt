-- A machine's committed part is a start of the same run.
use Rattle.std.proofs.Common.{ℕ, ◌≡◌, ◌∙◌, ap, sym, subst, List, [], length, Option, None}
use Rattle.std.specs.Prelude.{drop}
use Rattle.std.proofs.lemmas.List.{append-nil}
use Rattle.san_base.specs.declared.limits.Limits as bounds
use Rattle.san_draw.specs.Key.{draw_of}
use Rattle.san_law.specs.Core.{Core}
use Rattle.san_law.specs.Lawful.{IsLaid, IsLawful}
use Rattle.san_law.specs.Net.{Net}
use Rattle.san_law.specs.Network as law
use Rattle.san_law.specs.Pieces.{pieces, resumed}
use Rattle.san_law.specs.Starts.{IsStart, before}
use Rattle.san_law.specs.State.{opening_state}
use Rattle.san_law.specs.Step.{Ending}
use Rattle.san_law.proofs.AnyRates.{resumed_is_start}
use Rattle.san_law.proofs.Rest.{rest_of_pieces}
use Rattle.san_law.proofs.Starts.{pieces_before}
use Rattle.san_net.specs.Laid.{IsNetwork}
use Rattle.san_net.specs.Network.{net_of}
use Rattle.san_net.specs.Runs.{limits_in, net_at}
use Rattle.san_core.specs.Committed.{CommittedValue, StartsRun}
use Rattle.san_core.specs.Machines.{FollowsRun, MachineValue, core_in, net_in}
use Rattle.san_core.proofs.Following as follow
use Rattle.san_core.proofs.Knowing.{Known}

module _ (m : MachineValue) (run : FollowsRun m) (network : IsNetwork m.network)
    (lawful : (draw : ℕ → ℕ → ℕ) (limits : law.Limits) → IsLawful (net_of m.network draw limits))
    (laid : (draw : ℕ → ℕ → ℕ) (limits : law.Limits) → IsLaid (net_of m.network draw limits) (length m.network.initial))
    (going : m.held.core.stop ≡ None) where
  abbrev here : Net
  here = net_in m

  abbrev c : Core
  c = core_in m

  stop : c.stop ≡ None
  stop = sym (ap (λ (x : Core). x.stop) run.held) ∙ going

  abbrev with_stop : Option Ending → Core
  with_stop s = record { leaves = c.leaves; shared = c.shared; order = c.order; burst = c.burst; count = c.count; events = []; tally = c.tally; stop = s }

  held_is : resumed c ≡ m.held.core
  held_is = ap with_stop (sym stop) ∙ sym run.held

  starts_core : IsStart here m.held.core
  starts_core = subst (IsStart here) held_is (resumed_is_start here (follow.past m run network lawful laid) c stop (follow.follows m run network lawful laid))

  starts_here : StartsRun here m.network m.held
  starts_here = record { start = starts_core; belongs = run.belongs }

  pub starts : (limits : bounds.Limits) → limits_in limits ≡ limits_in m.limits → StartsRun (net_at m.network m.seed limits) m.network m.held
  starts limits same = subst (λ (x : law.Limits). StartsRun (net_of m.network (draw_of m.seed) x) m.network m.held) (sym same) starts_here

  -- the core with its events is the start with them before it
  abbrev with_all : List Rattle.san_law.specs.Step.Event → Core
  with_all es = record { leaves = c.leaves; shared = c.shared; order = c.order; burst = c.burst; count = c.count; events = es; tally = c.tally; stop = c.stop }

  core_before : c ≡ before c.events m.held.core
  core_before = ap with_all (sym (append-nil c.events)) ∙ ap (before c.events) (sym run.held)

  pub pieces_rest : pieces here m.held.core ≡ drop m.taken (pieces here m.start.core)
  pieces_rest =
      sym (pieces_before here c.events m.held.core)
      ∙ (ap (pieces here) (sym core_before)
      ∙ rest_of_pieces here (lawful (draw_of m.seed) (limits_in m.limits)) (opening_state here) run.start.follows.0 m.start.core run.start.follows.1 m.taken)

-- the machine as it is seen
pub starts_seen : (m v : MachineValue) → m ≡ v → FollowsRun m → Known m.network → v.held.core.stop ≡ None → (start : CommittedValue) → start ≡ m.held
    → (limits : bounds.Limits) → limits_in limits ≡ limits_in v.limits → StartsRun (net_at v.network v.seed limits) v.network start
starts_seen m v is run k going start held limits same =
    let going_here : m.held.core.stop ≡ None = ap (λ (x : MachineValue). x.held.core.stop) is ∙ going in
    let same_here : limits_in limits ≡ limits_in m.limits = same ∙ ap (λ (x : MachineValue). limits_in x.limits) (sym is) in
    subst (λ (x : MachineValue). StartsRun (net_at x.network x.seed limits) x.network start) is
    (subst (λ (y : CommittedValue). StartsRun (net_at m.network m.seed limits) m.network y) (sym held) (starts m run k.network k.lawful k.laid going_here limits same_here))

pub pieces_seen : (m v : MachineValue) → m ≡ v → FollowsRun m → Known m.network → v.held.core.stop ≡ None → (start : CommittedValue) → start ≡ m.held
    → pieces (net_in v) start.core ≡ drop v.taken (pieces (net_in v) v.start.core)
pieces_seen m v is run k going start held =
    let going_here : m.held.core.stop ≡ None = ap (λ (x : MachineValue). x.held.core.stop) is ∙ going in
    subst (λ (x : MachineValue). pieces (net_in x) start.core ≡ drop x.taken (pieces (net_in x) x.start.core)) is
    (subst (λ (y : CommittedValue). pieces (net_in m) y.core ≡ drop m.taken (pieces (net_in m) m.start.core)) (sym held) (pieces_rest m run k.network k.lawful k.laid going_here))
