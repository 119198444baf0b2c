-- A core's events go on from its start as the run does.
use Rattle.std.proofs.Common.{ℕ, ◌≡◌, ◌∙◌, ap, sym, refl, subst, List, ◌++◌, Option, Some, None}
use Rattle.san_base.proofs.NumberTests.{some_same}
use Rattle.san_base.specs.declared.ending.Ending.{Ending}
use Rattle.san_base.specs.declared.limits.Limits.{Limits}
use Rattle.san_core.specs.Committed.{CommittedValue}
use Rattle.san_core.specs.Machines.{FollowsRun, MachineValue, core_in, net_in}
use Rattle.san_core.specs.Nets.{outcome_in}
use Rattle.san_law.specs.Core as law
use Rattle.san_law.specs.Lawful.{IsLawful}
use Rattle.san_law.specs.Net.{Net}
use Rattle.san_law.specs.Pieces.{outcome_of_core}
use Rattle.san_law.specs.Standing.{Follows}
use Rattle.san_law.specs.State.{opening_state}
use Rattle.san_law.specs.Step as step
use Rattle.san_law.specs.Trajectory.{Trajectory, trajectory}
use Rattle.san_law.proofs.Standing.{pieces_keep}
use Rattle.san_law.proofs.Trajectories.{events_are_prefix, outcome_is_trajectory}
use Rattle.san_net.specs.Network.{Network}
use Rattle.san_net.specs.Runs.{ending_in, net_at}
use Rattle.san_speculation.specs.Speculating.{CoreValue}
use Rattle.san_work.specs.Stretches.{Continues, IsOfRun}

-- a core that has ended, with the events before its start
module _ (net : Net) (lawful : IsLawful net) (n : Network) (past : List step.Event) (c : law.Core) (follows : Follows net (opening_state net) past c) (e : Ending) where
  ended_by : (o : Option (ℕ × step.Ending)) → outcome_of_core net c ≡ o → outcome_in n o ≡ Some e
      → (run : Trajectory) × (trajectory net (opening_state net) ≡ Some run) × (run.events ≡ past ++ c.events) × (ending_in n run.time run.ending ≡ e)
  ended_by None is h = absurd (cc)
  ended_by (Some x) is h = (
    record { events = past ++ c.events; time = x.0; ending = x.1 },
    outcome_is_trajectory net lawful (opening_state net) past c x.0 x.1 is follows,
    refl,
    some_same (ending_in n x.0 x.1) e h,
  )

-- a machine goes on from its start
pub machine_continues : (m : MachineValue) → FollowsRun m → IsLawful (net_in m) → (past : List step.Event) → Follows (net_in m) (opening_state (net_in m)) past m.start.core
    → Continues (net_in m) m.network past m.events (outcome_in m.network (outcome_of_core (net_in m) (core_in m)))
machine_continues m run lawful past start =
    let follows : Follows (net_in m) (opening_state (net_in m)) past (core_in m) = pieces_keep (net_in m) lawful (opening_state (net_in m)) past m.start.core start m.taken in
    record {
      own = (core_in m).events;
      told = run.events;
      goes_on = events_are_prefix (net_in m) (opening_state (net_in m)) past (core_in m) follows;
      ended = λ e h. ended_by (net_in m) lawful m.network past (core_in m) follows e (outcome_of_core (net_in m) (core_in m)) refl h;
    }

-- what a stretch is asked for
abbrev Setting : Type 0
Setting = (Network × ℕ) × (Limits × CommittedValue)

abbrev terms : Network → ℕ → Limits → CommittedValue → Setting
terms n seed limits start = ((n, seed), (limits, start))

setting_of : (n : Network) (seed : ℕ) (limits : Limits) (start : CommittedValue) (c : CoreValue) → IsOfRun n seed limits start c
    → terms c.machine.network c.machine.seed c.machine.limits c.machine.start ≡ terms n seed limits start
setting_of n seed limits start c is =
    ap (λ (x : Network). terms x c.machine.seed c.machine.limits c.machine.start) is.network
    ∙ (ap (λ (x : ℕ). terms n x c.machine.limits c.machine.start) is.seed
    ∙ (ap (λ (x : Limits). terms n seed x c.machine.start) is.limits
    ∙ ap (λ (x : CommittedValue). terms n seed limits x) is.start))

-- and so does a core of a setting
pub core_continues : (n : Network) (seed : ℕ) (limits : Limits) (start : CommittedValue) (c : CoreValue) → IsOfRun n seed limits start c → FollowsRun c.machine → IsLawful (net_at n seed limits)
    → (past : List step.Event) → Follows (net_at n seed limits) (opening_state (net_at n seed limits)) past start.core
    → Continues (net_at n seed limits) n past c.machine.events (outcome_in n (outcome_of_core (net_in c.machine) (core_in c.machine)))
core_continues n seed limits start c is run lawful past follows =
    let m = c.machine in
    let back : terms n seed limits start ≡ terms m.network m.seed m.limits m.start = sym (setting_of n seed limits start c is) in
    let law : IsLawful (net_in m) = subst (λ (x : Setting). IsLawful (net_at x.0.0 x.0.1 x.1.0)) back lawful in
    let starts : Follows (net_in m) (opening_state (net_in m)) past m.start.core = subst (λ (x : Setting). Follows (net_at x.0.0 x.0.1 x.1.0) (opening_state (net_at x.0.0 x.0.1 x.1.0)) past x.1.1.core) back follows in
    subst (λ (x : Setting). Continues (net_at x.0.0 x.0.1 x.1.0) x.0.0 past m.events (outcome_in x.0.0 (outcome_of_core (net_in m) (core_in m)))) (setting_of n seed limits start c is)
    (machine_continues m run law past starts)
