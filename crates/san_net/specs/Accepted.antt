-- An atomic as the checks of a model's text accept it.
use Rattle.std.specs.Prelude.{ℕ, ◌++◌, ◌≡◌, ◌≤◌, ◌<◌, nat_eq, IsTrue, List, length, map, All}
use Rattle.std.specs.List.{count_by}
use Rattle.san_base.specs.declared.limits.TheConstants.{MAX_CELLS, MAX_PRIORITY, MAX_TOKENS}
use Rattle.san_delay.specs.Sound.{IsSoundDelay}
use Rattle.san_expr.specs.Below.{places_below}
use Rattle.san_expr.specs.declared.expr.Expr.{Expr}
use Rattle.san_net.specs.Apart.{AreApart}
use Rattle.san_net.specs.Below.{activity_below}
use Rattle.san_net.specs.Instants.{instants_of}
use Rattle.san_net.specs.Lengths.{activity_has_lengths, has_lengths}
use Rattle.san_base.specs.Names.{is_name}
use Rattle.san_net.specs.declared.activity.TheConstants.{MAX_CASES}
use Rattle.san_net.specs.declared.atomic.TheConstants.{MAX_ATOMIC_ACTS, MAX_TERMS}
use Rattle.san_net.specs.declared.activity.Input.{Input}
use Rattle.san_net.specs.declared.activity.Input.TheVariants as input
use Rattle.san_net.specs.declared.activity.Output.{Output}
use Rattle.san_net.specs.declared.activity.Output.TheVariants as output
use Rattle.san_net.specs.declared.activity.ActKind.{ActKind}
use Rattle.san_net.specs.declared.activity.ActKind.TheVariants as kind
use Rattle.san_net.specs.declared.activity.Activity.{Activity}
use Rattle.san_net.specs.declared.atomic.Atomic.{Atomic}

-- the weight of an arc
abbrev pub IsWeight : ℕ → Type 0
IsWeight w = (1 ≤ w) × (w ≤ MAX_TOKENS)

abbrev pub IsAcceptedInput : Input → Type 0
IsAcceptedInput (input.Arc p w) = IsWeight w
IsAcceptedInput (input.Gate e body) = Unit {0}

abbrev pub IsAcceptedOutput : Output → Type 0
IsAcceptedOutput (output.Arc p w) = IsWeight w
IsAcceptedOutput (output.Body body) = Unit {0}

-- the constants of a delay, or the priority
abbrev pub IsAcceptedKind : ActKind → Type 0
IsAcceptedKind (kind.Timed delay pair) = IsSoundDelay delay
IsAcceptedKind (kind.Instant priority) = priority ≤ MAX_PRIORITY

-- an activity in an atomic of so many cells
pub record IsAcceptedActivity (cells : ℕ) (a : Activity) : Type 0 where
  -- each cell that it names is the atomic's, and each array has one
  pub places : IsTrue (activity_below a cells)
  pub lengths : IsTrue (activity_has_lengths a)
  pub kind : IsAcceptedKind a.kind
  pub inputs : All IsAcceptedInput a.inputs
  pub outputs : All (λ c. All IsAcceptedOutput c.outputs) a.cases
  -- a case, and no more of them than have numbers
  pub some : 1 ≤ length a.cases
  pub numbered : length a.cases ≤ MAX_CASES

-- a reward's term in an atomic of so many cells
pub record IsAcceptedTerm (cells : ℕ) (e : Expr) : Type 0 where
  pub places : IsTrue (places_below e cells)
  pub lengths : IsTrue (has_lengths e)

-- the rewards of an atomic's terms, one for each term
abbrev pub rewards_of : Atomic → List ℕ
rewards_of a = map (λ t. t.reward) a.rates ++ map (λ t. t.reward) a.impulses

pub record IsAccepted (a : Atomic) : Type 0 where
  pub cells : length a.initial ≤ MAX_CELLS
  pub initial : All (λ v. v ≤ MAX_TOKENS) a.initial
  pub few : length a.acts ≤ MAX_ATOMIC_ACTS
  pub names : All (λ x. IsTrue (is_name x.0)) a.acts
  pub apart : AreApart (map (λ x. x.0) a.acts)
  pub activities : All (λ x. IsAcceptedActivity (length a.initial) x.1) a.acts
  -- the instantaneous ones in the order of testing
  pub instants : a.instants ≡ instants_of a.acts
  pub rates : All (λ t. IsAcceptedTerm (length a.initial) t.expr) a.rates
  pub impulses : All (λ t. (t.act < length a.acts) × IsAcceptedTerm (length a.initial) t.expr) a.impulses
  -- a reward has at most `MAX_TERMS` terms
  pub terms : (r : ℕ) → count_by (nat_eq r) (rewards_of a) ≤ MAX_TERMS
