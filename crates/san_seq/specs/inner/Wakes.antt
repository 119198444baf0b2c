-- Which leaves a change of a place concerns.
use Rattle.std.specs.Prelude.{ℕ, ◌+◌, ◌≡◌, ◌≤◌, ◌<◌, ◌==◌, nat_le, nat_eq, if◌then◌else◌, List, [], length, Option, Some, None, All, IfSome, slice_get, slice_index_or}
use Rattle.san_base.specs.declared.numbers.LeafId.{LeafId}
use Rattle.san_expr.specs.Mentions.{mentions}
use Rattle.san_net.specs.Instants.{Named}
use Rattle.san_net.specs.Laid.{places_of}
use Rattle.san_net.specs.Network.{Network}
use Rattle.san_net.specs.declared.activity.ActKind.{ActKind}
use Rattle.san_net.specs.declared.activity.ActKind.TheVariants as kind
use Rattle.san_net.specs.declared.activity.Activity.{Activity}
use Rattle.san_net.specs.declared.activity.Input.{Input}
use Rattle.san_net.specs.declared.activity.Input.TheVariants as input
use Rattle.san_net.specs.declared.part.Part.{Part}
use Rattle.san_seq.specs.declared.concern.Concern.{Concern}
use Rattle.san_seq.specs.declared.concern.Concern.TheVariants as concern
use Rattle.san_seq.specs.declared.wakes.Band.{Band}

-- what of a value a weight sees: whether the value is as great; with 0 all of it
abbrev pub level : ℕ → ℕ → ℕ
level weight value = if weight == 0 then value else (if nat_le weight value then 1 else 0)

-- by which weight a predicate looks at a cell, if it does: an arc by its own, a gate at all of the value
abbrev pub weight_at : Input → ℕ → Option ℕ
weight_at (input.Arc p w) q = if nat_eq q p then Some w else None
weight_at (input.Gate e body) q = if mentions e q then Some 0 else None

-- a fact of each weight by which an activity's predicates look at a cell
abbrev pub EachOf : List Input → ℕ → (ℕ → Type 0) → Type 0
EachOf inputs q P = All (λ i. IfSome (weight_at i q) P) inputs

-- an instantaneous activity hangs on what its predicates look at
abbrev pub EachInstant : ActKind → Activity → ℕ → (ℕ → Type 0) → Type 0
EachInstant (kind.Timed delay pair) a q P = Unit {0}
EachInstant (kind.Instant priority) a q P = EachOf a.inputs q P

-- and so does the timer of one that is timed; with a pair it hangs on all values of the leaf
abbrev pub EachTimed : ActKind → Activity → ℕ → (ℕ → Type 0) → Type 0
EachTimed (kind.Timed delay None) a q P = EachOf a.inputs q P
EachTimed (kind.Timed delay (Some pair)) a q P = P 0
EachTimed (kind.Instant priority) a q P = Unit {0}

abbrev pub EachOfAct : Concern → Activity → ℕ → (ℕ → Type 0) → Type 0
EachOfAct concern.Instants a q P = EachInstant a.kind a q P
EachOfAct concern.Timers a q P = EachTimed a.kind a q P

-- a fact of each weight by which a leaf's activities hang on a cell
abbrev pub EachWeight : Concern → List Named → ℕ → (ℕ → Type 0) → Type 0
EachWeight x acts q P = All (λ a. EachOfAct x a.1 q P) acts

-- for each place the bands of the leaves that a change there concerns
pub record Woken : Type 0 where
  pub instants : List (List Band)
  pub timers : List (List Band)

abbrev pub bands_at : List (List Band) → ℕ → List Band
bands_at table q = slice_index_or table q []

-- a leaf stands in a band of this weight
pub record Stands (bands : List Band) (weight j : ℕ) : Type 0 where
  pub at : ℕ
  pub band : Band
  pub is : slice_get bands at ≡ Some band
  pub weighs : band.weight ≡ weight
  pub among : ℕ
  pub leaf : slice_get band.leaves.items among ≡ Some (record { 0 = j })

-- leaves by number, each below a bound
pub record AreOrdered (many : ℕ) (leaves : List LeafId) : Type 0 where
  pub within : (k : ℕ) (leaf : LeafId) → slice_get leaves k ≡ Some leaf → leaf.0 < many
  pub ordered : (i k : ℕ) (a b : LeafId) → i < k → slice_get leaves i ≡ Some a → slice_get leaves k ≡ Some b → a.0 ≤ b.0

abbrev pub EachOrdered : ℕ → List Band → Type 0
EachOrdered many bands = (b : ℕ) (band : Band) → slice_get bands b ≡ Some band → AreOrdered many band.leaves.items

-- a leaf went behind others, or was the last of them
pub record TakesIn (leaf : LeafId) (old new : List LeafId) : Type 0 where
  pub kept : (k : ℕ) (l : LeafId) → slice_get old k ≡ Some l → slice_get new k ≡ Some l
  pub at : ℕ
  pub there : slice_get new at ≡ Some leaf
  pub ordered : AreOrdered (leaf.0 + 1) old → AreOrdered (leaf.0 + 1) new

-- a leaf joined some bands, behind those that stood there
pub record Gains (leaf : LeafId) (old new : List Band) : Type 0 where
  pub kept : (weight j : ℕ) → Stands old weight j → Stands new weight j
  pub ordered : EachOrdered (leaf.0 + 1) old → EachOrdered (leaf.0 + 1) new

-- a leaf joined the bands of its places
pub record IsIndexed (x : Concern) (acts : List Named) (leaf : LeafId) (places : List ℕ) (old new : List (List Band)) : Type 0 where
  pub sized : length new ≡ length old
  pub gains : (q : ℕ) → Gains leaf (bands_at old q) (bands_at new q)
  pub there : (i q : ℕ) → slice_get places i ≡ Some q → EachWeight x acts i (λ w. Stands (bands_at new q) w leaf.0)

-- the first so many leaves stand in the bands of their places, by number, and no others
pub record IsIndex (x : Concern) (n : Network) (many : ℕ) (table : List (List Band)) : Type 0 where
  pub sized : length table ≡ length n.initial
  pub ordered : (q : ℕ) → EachOrdered many (bands_at table q)
  pub there : (j i q : ℕ) (p : Part) → j < many → slice_get n.parts j ≡ Some p → slice_get (places_of p) i ≡ Some q → EachWeight x p.atomic.acts i (λ w. Stands (bands_at table q) w j)

-- all leaves do
pub record AreWoken (n : Network) (w : Woken) : Type 0 where
  pub instants : IsIndex concern.Instants n (length n.parts) w.instants
  pub timers : IsIndex concern.Timers n (length n.parts) w.timers
