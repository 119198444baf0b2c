-- Which leaf is claimed next, as the code finds it.
use Rattle.std.specs.Prelude.{ℕ, ◌≡◌, ◌<◌, nat_lt, not, ◌&&◌, List, length, Option, Some, None, Bool, slice_index}
use Rattle.san_base.specs.declared.numbers.LeafId.{LeafId}
use Rattle.san_ahead.specs.Ahead.{AheadValue}
use Rattle.san_book.specs.Chains.{chain_of}
use Rattle.san_book.specs.Cores as book
use Rattle.san_book.specs.Cores.{Pending, is_claimed}
use Rattle.san_book.specs.Machines.{sees_all}
use Rattle.san_book.specs.Plans.{earliest, time_of, when}
use Rattle.san_book.specs.Steps.{goes_on}
use Rattle.san_core.specs.Machines.{MachineValue}
use Rattle.san_decide.specs.Booked.{part_at}
use Rattle.san_law.specs.Core as law
use Rattle.san_leaf.specs.Pieces.{PieceValue}
use Rattle.san_leaf.specs.States.{kind_in}
use Rattle.san_leaf.specs.declared.piece.Claim.{Claim}
use Rattle.san_plan.specs.Plans.{IsFit, IsPlannable, end_state, plan_at, plan_in}
use Rattle.san_plan.specs.declared.plan.Plan.{Plan}
use Rattle.san_speculation.specs.Speculating.{book_in}
use Rattle.san_speculation.specs.inner.Committing.{with_parts}

-- whether a core with these parts goes on, whatever else it has
abbrev pub goes_with : MachineValue → AheadValue → Bool → Type 0
goes_with m a b = (c : book.Core law.Core PieceValue) → goes_on (book_in m) m.limits (with_parts m a c) ≡ b

-- every leaf's plan can be made
abbrev pub ArePlannable : MachineValue → AheadValue → Type 0
ArePlannable m a = (j : ℕ) → j < length a.chains → IsPlannable m a j

-- the time of a free leaf's next piece
abbrev pub free_time : MachineValue → AheadValue → List (Option Pending) → ℕ → Option ℕ
free_time m a claims j = when (not (is_claimed j claims) && nat_lt (length (chain_of a.chains j)) m.limits.window) (time_of (plan_at m a j))

-- a plan is the leaf's, and can be claimed
pub record IsPlanOf (m : MachineValue) (a : AheadValue) (j : ℕ) (p : Plan) : Type 0 where
  pub is : plan_at m a j ≡ Some (plan_in (part_at m.network j).first.0 p)
  pub fits : IsFit (part_at m.network j) p

-- a plan's time and its leaf
abbrev pub numbers_in : Option (LeafId × Plan) → Option (ℕ × ℕ)
numbers_in None = None
numbers_in (Some x) = Some (x.1.time.0, x.0.0)

-- it is the leaf's own
abbrev pub OwnPlan : MachineValue → AheadValue → Option (LeafId × Plan) → Type 0
OwnPlan m a None = Unit {0}
OwnPlan m a (Some x) = IsPlanOf m a x.0.0 x.1

-- the first of the free leaves by time and leaf
pub record PlannedBy (m : MachineValue) (a : AheadValue) (claims : List (Option Pending)) (o : Option (LeafId × Plan)) : Type 0 where
  pub least : numbers_in o ≡ earliest (free_time m a claims) 0 a.chains
  pub own : OwnPlan m a o

-- a claim of a leaf's plan: from the end of its chain, where its next piece stands
pub record IsClaimOf (m : MachineValue) (a : AheadValue) (leaf : LeafId) (plan : Plan) (claim : Claim) : Type 0 where
  pub seed : claim.seed ≡ m.seed
  pub part : claim.part ≡ part_at m.network leaf.0
  pub base : claim.base ≡ end_state m a leaf.0
  pub kind : claim.kind ≡ plan.kind
  pub time : claim.time ≡ plan.time
  pub stamp : claim.stamp ≡ record { time = plan.time; leaf = leaf; pos = slice_index a.counters leaf.0; all = sees_all (kind_in (part_at m.network leaf.0).first.0 plan.kind) }
