-- A leaf over its own cells: what its activities, its timers' delays and its rewards' terms are in a list of its values.
-- Draws come to it as numbers.
use Rattle.std.specs.Prelude.{ℕ, suc, nat_eq, Bool, true, false, List, [], ◌∷◌, map, filter, Option, Some, None, Result, Ok, Err}
use Rattle.san_base.specs.declared.ending.Trap.{Trap}
use Rattle.san_expr.specs.Delay.{delay_of}
use Rattle.san_expr.specs.Meaning.{Evaluation}
use Rattle.san_expr.specs.Value.{value_of}
use Rattle.san_expr.specs.declared.expr.Expr.{Expr}
use Rattle.san_law.specs.Activity as leaf
use Rattle.san_law.specs.Net as net
use Rattle.san_net.specs.Completion.{completion_of}
use Rattle.san_net.specs.Enabled.{enabled_of, truth_of}
use Rattle.san_net.specs.First.{first_of}
use Rattle.san_net.specs.Instants.{Named}
use Rattle.san_base.specs.Rated.{rated_by}
use Rattle.san_net.specs.declared.activity.ActKind.{ActKind}
use Rattle.san_net.specs.declared.activity.ActKind.TheVariants as kind
use Rattle.san_net.specs.declared.activity.Activity.{Activity}
use Rattle.san_net.specs.declared.first.FirstInstant.{FirstInstant}
use Rattle.san_net.specs.declared.first.FirstInstant.TheVariants as first
use Rattle.san_net.specs.declared.atomic.Atomic.{Atomic}
use Rattle.san_net.specs.declared.atomic.RateTerm.{RateTerm}
use Rattle.san_net.specs.declared.atomic.ImpulseTerm.{ImpulseTerm}
use Rattle.san_net.specs.declared.part.Part.{Part}
use Rattle.san_net.specs.declared.part.Slot.{Slot}
use Rattle.san_net.specs.declared.part.Slot.TheVariants as slot

abbrev pub answer_by : Result Bool Trap → leaf.Answer
answer_by (Ok true) = leaf.Yes
answer_by (Ok false) = leaf.No
answer_by (Err trap) = leaf.Traps trap

-- whether an activity is enabled in a leaf's values
abbrev pub enabled_in : Activity → List ℕ → leaf.Answer
enabled_in a v = answer_by (enabled_of a v).answer

-- whether a predicate holds in them
abbrev pub holds_in : Expr → List ℕ → leaf.Answer
holds_in e v = answer_by (truth_of e v).answer

abbrev pub effected_by : Evaluation ℕ → Result ℕ Trap → Result leaf.Effected Trap
effected_by o (Err trap) = Err trap
effected_by o (Ok case) = Ok (record { case = case; values = o.left; sets = o.sets })

-- a completion with a case draw: the case, the values that it leaves, the cells that it assigned
abbrev pub completed_in : Activity → ℕ → List ℕ → Result leaf.Effected Trap
completed_in a u v = effected_by (completion_of u a v) (completion_of u a v).answer

-- activation and reactivation predicate
abbrev pub pair_in : Option (Expr × Expr) → Option leaf.Pair
pair_in None = None
pair_in (Some p) = Some (record { activation = holds_in p.0; reactivation = holds_in p.1 })

-- a delay is by a draw in a leaf's values
abbrev pub kind_in : ActKind → leaf.ActKind
kind_in (kind.Timed delay pair) = leaf.Timed (λ u v. (delay_of delay u v).answer) (pair_in pair)
kind_in (kind.Instant priority) = leaf.Instant priority

-- a term's value as it is counted
abbrev pub rate_in : List ℕ → RateTerm → net.Rated
rate_in v t = rated_by (value_of t.expr v).answer

abbrev pub impulse_in : List ℕ → ImpulseTerm → net.Impulse
impulse_in v t = record { reward = t.reward; rated = rated_by (value_of t.expr v).answer }

-- an activity's impulse terms, in the atomic's order
abbrev pub impulses_in : List ImpulseTerm → ℕ → List ℕ → List net.Impulse
impulses_in terms k v = map (impulse_in v) (filter (λ t. nat_eq t.act k) terms)

-- an activity by its number in the atomic
abbrev pub activity_in : List ImpulseTerm → ℕ → Activity → leaf.Activity
activity_in terms k a = record { kind = kind_in a.kind; enabled = enabled_in a; complete = completed_in a; impulses = impulses_in terms k }

-- the activities, numbered from k on
abbrev pub activities_from : List ImpulseTerm → ℕ → List Named → List leaf.Activity
activities_from terms k [] = []
activities_from terms k (a ∷ acts) = activity_in terms k a.1 ∷ activities_from terms (suc k) acts

abbrev pub slot_in : Slot → net.Slot
slot_in (slot.Private place) = net.Private place.0
slot_in (slot.Shared place) = net.Shared place.0

-- a part as a leaf of the law
abbrev pub leaf_of : Part → leaf.Part
leaf_of p = record {
  slots = map slot_in p.slots;
  first = p.first.0;
  activities = activities_from p.atomic.impulses 0 p.atomic.acts;
  rates = λ v. map (rate_in v) p.atomic.rates;
  terms = map (λ t. t.reward) p.atomic.rates;
}

-- what stands first, as the law says it
abbrev pub found_by : Result FirstInstant Trap → net.Found
found_by (Ok first.None) = net.Nothing
found_by (Ok (first.Enabled k)) = net.Enabled k
found_by (Ok (first.Trapped k trap)) = net.Broken k trap
found_by (Err trap) = net.Nothing

-- an atomic's first instantaneous activity in a leaf's values
abbrev pub first_in : Atomic → List ℕ → net.Found
first_in a v = found_by (first_of a v).answer
