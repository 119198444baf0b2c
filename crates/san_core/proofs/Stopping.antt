-- How a machine ends, in the network's numbers.
use Rattle.std.proofs.Common.{ℕ, zero, suc, ◌+◌, ◌≡◌, ◌∙◌, ap, sym, refl, subst, List, [], ◌∷◌, map, Option, Some, None}
use Rattle.std.specs.Prelude.{slice_get, slice_index}
use Rattle.san_base.specs.declared.ending.Ending as named
use Rattle.san_base.specs.declared.ending.Ending.TheVariants as ending
use Rattle.san_base.specs.declared.ending.Stop.TheVariants as stop
use Rattle.san_base.specs.declared.ending.Trap.{Trap}
use Rattle.san_base.specs.declared.numbers.ActId.{ActId}
use Rattle.san_base.specs.declared.numbers.LeafId.{LeafId}
use Rattle.san_base.specs.declared.numbers.Tick.{Tick}
use Rattle.san_law.specs.Core.{Core}
use Rattle.san_law.specs.Net.{Net}
use Rattle.san_law.specs.Order.{Finished, Need, Needs, need_of}
use Rattle.san_law.specs.Piece.{Fire, LeafState, Refresh, Settle}
use Rattle.san_law.specs.Pieces.{end_of, ended_by, outcome_of_core}
use Rattle.san_law.specs.Step as law
use Rattle.san_net.specs.Network.{Network}
use Rattle.san_net.specs.Runs.{ending_in}
use Rattle.san_net.specs.Tables.{first_of}
use Rattle.san_net.specs.declared.part.Part.{Part}
use Rattle.san_reward.specs.Running.{Running}
use Rattle.san_turn.specs.Changes.{OrderValue}
use Rattle.san_turn.specs.Needs.{need_in}
use Rattle.san_turn.specs.declared.need.Need as turn
use Rattle.san_core.specs.Committed.{CommittedValue}
use Rattle.san_core.specs.Machines.{FollowsRun, MachineValue, core_in, net_in}
use Rattle.san_core.specs.Nets.{outcome_in}
use Rattle.san_core.specs.declared.over.Halt.{Halt}
use Rattle.san_core.specs.declared.over.Over.{Over}
use Rattle.san_core.specs.declared.over.Over.TheVariants as over
use Rattle.san_core.specs.inner.Admits.{over_in}
use Rattle.san_core.specs.inner.Held.{committed_by, order_at, stop_in}
use Rattle.san_core.specs.inner.Needed.{need_given}
use Rattle.san_core.specs.inner.Stops.{HaltIsNamed, TrapsAmong, TrapsIn, ended_in, ending_by, stopped_by}

-- a part that goes on has the order's own time
pub order_is : (leaves : List LeafState) (shared : List ℕ) (order : OrderValue) (running : Running) (burst count : ℕ) (halt : Option Halt) (v : CommittedValue) → committed_by leaves shared order running burst count halt ≡ v → v.core.stop ≡ None → order.order ≡ v.core.order
order_is leaves shared order running burst count halt v is stop = by_halt halt (ap (λ (x : CommittedValue). x.core.stop) is ∙ stop) ∙ ap (λ (x : CommittedValue). x.core.order) is
  where
    by_halt : (h : Option Halt) → stop_in h ≡ None → order.order ≡ order_at order.order h
    by_halt None e = refl
    by_halt (Some x) e = absurd (cc)

-- a part that goes on has no numbers to keep
pub none_named : (firsts : List ℕ) (h : Option Halt) → stop_in h ≡ None → HaltIsNamed firsts h
none_named firsts None is = tt
none_named firsts (Some x) is = absurd cc

pub named_among : (firsts : List ℕ) (leaf first : ℕ) (o : Over) → slice_index firsts leaf ≡ first → TrapsIn leaf first o → TrapsAmong firsts o
named_among firsts leaf first over.Unstable is h = tt
named_among firsts leaf first over.Events is h = tt
named_among firsts leaf first (over.Trapped j act number trap) is h =
    h.1 ∙ (ap (λ (x : ℕ). x + act) (sym is) ∙ ap (λ (x : ℕ). slice_index firsts x + act) (sym h.0))

-- what a trap tells by its number in the network
pub trapped_told : (firsts : List ℕ) (o : Over) (time : Tick) (j : LeafId) (k : ℕ) (number : ActId) (trap : Trap) → o ≡ over.Trapped j k number trap → TrapsAmong firsts o
    → ending.Stop (stop.Trap trap time number) ≡ ending_by firsts time.0 (over_in o)
trapped_told firsts o time j k number trap is h =
    let n : number.0 ≡ slice_index firsts j.0 + k = subst (TrapsAmong firsts) is h in
    ap (λ (x : ℕ). ending.Stop (stop.Trap trap time (record { 0 = x }))) n ∙ ap (λ (x : Over). ending_by firsts time.0 (over_in x)) (sym is)

-- a stop that is there is named
pub is_named : (firsts : List ℕ) (halt : Option Halt) (h : Halt) → halt ≡ Some h → HaltIsNamed firsts halt → TrapsAmong firsts h.over
is_named firsts halt h is named = subst (HaltIsNamed firsts) is named

abbrev ending_or : law.Ending → Option law.Ending → law.Ending
ending_or e None = e
ending_or e (Some x) = x

-- no stop in code is the end at the horizon
never_end : (o : Over) → over_in o ≡ law.End → ⊥
never_end over.Unstable is = cc
never_end over.Events is = cc
never_end (over.Trapped j act number trap) is = cc

pub no_end : (h : Option Halt) → stop_in h ≡ Some law.End → ⊥
no_end None is = cc
no_end (Some x) is = never_end x.over (ap (ending_or law.End) is)

-- a part that goes on is a start
pub start_is : (leaves : List LeafState) (shared : List ℕ) (order : OrderValue) (running : Running) (burst count : ℕ) (halt : Option Halt) (v : CommittedValue)
    → committed_by leaves shared order running burst count halt ≡ v → v.core.stop ≡ None → committed_by leaves shared order running burst count None ≡ v
start_is leaves shared order running burst count None v same going = same
start_is leaves shared order running burst count (Some x) v same going = let stop : Some (over_in x.over) ≡ None = ap (λ (y : CommittedValue). y.core.stop) same ∙ going in absurd cc

-- what a part in code tells of its stop
abbrev told_of : CommittedValue → Option named.Ending
told_of v = stopped_by v.firsts v.core.order.time v.core.stop

pub stopped_some : (leaves : List LeafState) (shared : List ℕ) (order : OrderValue) (running : Running) (burst count : ℕ) (halt : Option Halt) (v : CommittedValue) (h : Halt) (e : named.Ending)
    → committed_by leaves shared order running burst count halt ≡ v → halt ≡ Some h → e ≡ ending_by order.firsts h.time.0 (over_in h.over)
    → Some e ≡ stopped_by v.firsts v.core.order.time v.core.stop
stopped_some leaves shared order running burst count halt v h e same is told =
    ap (λ (x : named.Ending). (let o : Option named.Ending = Some x in o)) told
    ∙ (ap (λ (x : Option Halt). told_of (committed_by leaves shared order running burst count x)) (sym is) ∙ ap told_of same)

pub stopped_none : (leaves : List LeafState) (shared : List ℕ) (order : OrderValue) (running : Running) (burst count : ℕ) (halt : Option Halt) (v : CommittedValue)
    → committed_by leaves shared order running burst count halt ≡ v → halt ≡ None → None ≡ stopped_by v.firsts v.core.order.time v.core.stop
stopped_none leaves shared order running burst count halt v same is =
    ap (λ (x : Option Halt). told_of (committed_by leaves shared order running burst count x)) (sym is) ∙ ap told_of same

-- the numbers of the leaves' first activities are the network's
firsts_at : (parts : List Part) (j : ℕ) → slice_index (map (λ (p : Part). p.first.0) parts) j ≡ first_of (slice_get parts j)
firsts_at [] j = refl
firsts_at (p ∷ parts) zero = refl
firsts_at (p ∷ parts) (suc j) = firsts_at parts j

ending_named : (n : Network) (firsts : List ℕ) (time : ℕ) (e : law.Ending) → firsts ≡ map (λ (p : Part). p.first.0) n.parts → ending_by firsts time e ≡ ending_in n time e
ending_named n firsts time law.End is = refl
ending_named n firsts time law.Unstable is = refl
ending_named n firsts time law.Events is = refl
ending_named n firsts time (law.Trapped j k trap) is =
    let same : slice_index firsts j ≡ first_of (slice_get n.parts j) = ap (λ (xs : List ℕ). slice_index xs j) is ∙ firsts_at n.parts j in
    ap (λ (x : ℕ). ending.Stop (stop.Trap trap (record { 0 = time }) (record { 0 = x + k }))) same

-- what is told by the need where nothing stopped it
needs_end : (net : Net) (n : Network) (firsts : List ℕ) (horizon : Tick) (x : Need) → horizon.0 ≡ net.horizon → ended_in None (need_in firsts x) horizon ≡ outcome_in n (end_of net x)
needs_end net n firsts horizon (Needs j Settle t) is = refl
needs_end net n firsts horizon (Needs j Refresh t) is = refl
needs_end net n firsts horizon (Needs j (Fire k) t) is = refl
needs_end net n firsts horizon Finished is = ap (λ (x : ℕ). (let o : Option named.Ending = Some (ending.End (record { 0 = x })) in o)) is

module _ (m : MachineValue) (run : FollowsRun m) where
  abbrev firsts : List ℕ
  firsts = m.held.firsts

  outcome_by : (s : Option law.Ending) → ended_in (stopped_by firsts m.held.core.order.time s) (need_given firsts m.held.horizon m.held.core.order s) m.limits.horizon ≡ outcome_in m.network (ended_by (net_in m) (core_in m) s)
  outcome_by None =
      ap (λ (x : ℕ). ended_in None (need_in firsts (need_of x m.held.core.order)) m.limits.horizon) run.belongs.horizon
      ∙ (needs_end (net_in m) m.network firsts m.limits.horizon (need_of (net_in m).horizon m.held.core.order) refl
      ∙ ap (λ (x : Core). outcome_in m.network (end_of (net_in m) (need_of (net_in m).horizon x.order))) run.held)
  outcome_by (Some e) =
      ap (λ (x : named.Ending). (let o : Option named.Ending = Some x in o)) (ending_named m.network firsts m.held.core.order.time e run.belongs.firsts)
      ∙ ap (λ (x : Core). (let o : Option named.Ending = Some (ending_in m.network x.order.time e) in o)) run.held

  pub outcome_is : ended_in (stopped_by firsts m.held.core.order.time m.held.core.stop) (need_given firsts m.held.horizon m.held.core.order m.held.core.stop) m.limits.horizon ≡ outcome_in m.network (outcome_of_core (net_in m) (core_in m))
  outcome_is = outcome_by m.held.core.stop ∙ ap (λ (x : Core). outcome_in m.network (ended_by (net_in m) (core_in m) x.stop)) run.held

  -- what a machine answers by its stop and its order's need
  pub outcome_told : (stopped : Option named.Ending) (answer : turn.Need) → stopped ≡ stopped_by firsts m.held.core.order.time m.held.core.stop → answer ≡ need_given firsts m.held.horizon m.held.core.order m.held.core.stop
      → ended_in stopped answer m.limits.horizon ≡ outcome_in m.network (outcome_of_core (net_in m) (core_in m))
  outcome_told stopped answer s a =
      ap (λ (x : Option named.Ending). ended_in x answer m.limits.horizon) s
      ∙ (ap (λ (x : turn.Need). ended_in (stopped_by firsts m.held.core.order.time m.held.core.stop) x m.limits.horizon) a ∙ outcome_is)
