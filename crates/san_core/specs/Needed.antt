-- What is needed of a machine next.
use Rattle.std.specs.Prelude.{ℕ, ◌≡◌, ◌≤◌, Option, Some, None, slice_get}
use Rattle.san_base.specs.declared.piece.Kind.{Kind}
use Rattle.san_base.specs.declared.piece.Kind.TheVariants as kind
use Rattle.san_law.specs.Order.{Needs, need_of}
use Rattle.san_law.specs.Pieces.{next_piece}
use Rattle.san_leaf.specs.States.{kind_in}
use Rattle.san_net.specs.declared.part.Part.{Part}
use Rattle.san_core.specs.Machines.{MachineValue, core_in, net_in}
use Rattle.san_core.specs.declared.admission.Taking.{Taking}

-- an activity that fires is not before its leaf's first one
abbrev pub NumbersFrom : ℕ → Kind → Type 0
NumbersFrom first (kind.Fire act) = first ≤ act.0
NumbersFrom first kind.Settle = Unit {0}
NumbersFrom first kind.Refresh = Unit {0}

-- the machine goes on, and this is the leaf, the kind and the time of its need
pub record IsNeed (m : MachineValue) (t : Taking) : Type 0 where
  pub going : m.held.core.stop ≡ None
  pub need : need_of m.limits.horizon.0 m.held.core.order ≡ Needs t.leaf.0 (kind_in t.first.0 t.kind) t.time.0
  pub numbers : NumbersFrom t.first.0 t.kind
  pub part : Part
  pub there : slice_get m.network.parts t.leaf.0 ≡ Some part
  pub first : part.first ≡ t.first

abbrev pub NeedBy : MachineValue → Option Taking → Type 0
NeedBy m None = next_piece (net_in m) (core_in m) ≡ None
NeedBy m (Some t) = IsNeed m t
