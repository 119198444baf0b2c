-- What flags that are down say: nothing on which a leaf's activities hang has changed since the last stable marking.
use Rattle.std.specs.Prelude.{ℕ, ◌≡◌, ◌≤◌, Bool, true, false, List, length, Some, slice_get, slice_index}
use Rattle.san_base.specs.declared.numbers.LeafId.{LeafId}
use Rattle.san_law.specs.Clocks.{IsSteady}
use Rattle.san_law.specs.Net as net
use Rattle.san_law.specs.State.{State, gather}
use Rattle.san_net.specs.Laid.{places_of}
use Rattle.san_net.specs.Leaf.{leaf_of}
use Rattle.san_net.specs.Network.{Network}
use Rattle.san_net.specs.declared.part.Part.{Part}
use Rattle.san_seq.specs.declared.concern.Concern.{Concern}
use Rattle.san_seq.specs.declared.concern.Concern.TheVariants as concern
use Rattle.san_seq.specs.declared.stale.Stale.{Stale}
use Rattle.san_seq.specs.inner.Nexts.{first_of_part}
use Rattle.san_seq.specs.inner.Renewals.{renewed_part}
use Rattle.san_seq.specs.inner.Rows.{row_at}
use Rattle.san_seq.specs.declared.wakes.Band.{Band}
use Rattle.san_seq.specs.inner.Wakes.{AreWoken, EachOrdered, EachWeight, Stands, Woken, bands_at, level}

-- a weight sees the same of a place in both markings
abbrev pub SeesSame : List ℕ → List ℕ → ℕ → ℕ → Type 0
SeesSame stable m q weight = level weight (slice_index stable q) ≡ level weight (slice_index m q)

-- the weights by which a leaf's activities hang on its cells see the same in both markings
abbrev pub AreSameOn : Concern → Part → List ℕ → List ℕ → Type 0
AreSameOn x p stable m = (i q : ℕ) → slice_get (places_of p) i ≡ Some q → EachWeight x p.atomic.acts i (SeesSame stable m q)

-- no leaf has anything to complete at once
abbrev pub AreSettled : List Part → List ℕ → Type 0
AreSettled parts m = (j : ℕ) (p : Part) → slice_get parts j ≡ Some p → first_of_part m p ≡ net.Nothing

-- a leaf has nothing, whatever values those of its places have that other leaves have too
abbrev pub IsAsleep : ℕ → Part → List ℕ → Type 0
IsAsleep shared p m = (v : List ℕ) → ((i q : ℕ) → slice_get (places_of p) i ≡ Some q → shared ≤ q → slice_index v q ≡ slice_index m q) → first_of_part v p ≡ net.Nothing

-- leaves that aren't awake are asleep
abbrev pub AreAsleep : Network → List Bool → List ℕ → Type 0
AreAsleep n awake m = (j : ℕ) (p : Part) → slice_get n.parts j ≡ Some p → slice_get awake j ≡ Some false → IsAsleep n.shared p m

-- a leaf's timers stand just where they are to
pub record IsAtRest (p : Part) (stable m : List ℕ) (r : net.Row) : Type 0 where
  pub steady : IsSteady (leaf_of p) (gather (places_of p) m) r
  pub same : AreSameOn concern.Timers p stable m

-- flags for each leaf, and for each place
pub record HasFlags (n : Network) (stale : Stale) : Type 0 where
  pub timers : length stale.timers ≡ length n.parts
  pub places : length stale.places ≡ length n.initial
  pub awake : length stale.awake ≡ length n.parts

-- places whose flags are down have the same values in both markings
abbrev pub HaveSame : List Bool → List ℕ → List ℕ → Type 0
HaveSame places stable m = (q : ℕ) → slice_get places q ≡ Some false → slice_index stable q ≡ slice_index m q

-- what the flags that are down say of a state
pub record AreIdle (n : Network) (w : Woken) (stale : Stale) (s : State) : Type 0 where
  pub woken : AreWoken n w
  pub flags : HasFlags n stale
  pub places : HaveSame stale.places s.stable s.marking
  pub settled : stale.settled ≡ true → AreSettled n.parts s.stable
  pub asleep : AreAsleep n stale.awake s.marking
  pub timers : (j : ℕ) (p : Part) → slice_get n.parts j ≡ Some p → slice_get stale.timers j ≡ Some false → IsAtRest p s.stable s.marking (row_at s.rows j)

-- leaves that aren't stale have nothing to renew at a time
abbrev pub AreFresh : (ℕ → ℕ → ℕ) → List Part → List Bool → ℕ → List ℕ → List ℕ → List net.Row → Type 0
AreFresh draw parts stale time stable m rows = (j : ℕ) (p : Part) → slice_get stale j ≡ Some false → slice_get parts j ≡ Some p → renewed_part draw p time stable m (row_at rows j) ≡ net.Fresh (row_at rows j)

-- flags that are down were down before
abbrev pub StayUp : List Bool → List Bool → Type 0
StayUp old new = (j : ℕ) → slice_get new j ≡ Some false → slice_get old j ≡ Some false

-- a leaf whose flag is still down has nothing in any marking
pub record WakesUp (n : Network) (leaf : ℕ) (old new : List Bool) : Type 0 where
  pub sized : length new ≡ length old
  pub kept : StayUp old new
  pub itself : (p : Part) → slice_get n.parts leaf ≡ Some p → slice_get new leaf ≡ Some false → (m : List ℕ) → IsAsleep n.shared p m

-- and those of some leaves are up
pub record Raised (leaves : List LeafId) (old new : List Bool) : Type 0 where
  pub sized : length new ≡ length old
  pub kept : StayUp old new
  pub raised : (k : ℕ) (leaf : LeafId) → slice_get leaves k ≡ Some leaf → slice_get new leaf.0 ≡ Some true

-- and those of the leaves whose band a change crosses are up
pub record AreRaised (bands : List Band) (was now : ℕ) (old new : List Bool) : Type 0 where
  pub sized : length new ≡ length old
  pub kept : StayUp old new
  pub equal : (b k : ℕ) (band : Band) (leaf : LeafId) → slice_get bands b ≡ Some band → slice_get band.leaves.items k ≡ Some leaf → slice_get new leaf.0 ≡ Some false → level band.weight was ≡ level band.weight now

-- and where a weight sees another value of one of some places than at the last stable point, those of all whom this wakes
pub record IsTouched (Wakes : ℕ → ℕ → ℕ → Type 0) (these stable m : List ℕ) (old new : List Bool) : Type 0 where
  pub sized : length new ≡ length old
  pub kept : StayUp old new
  pub equal : (k j q weight : ℕ) → slice_get these k ≡ Some q → slice_get new j ≡ Some false → Wakes q weight j → SeesSame stable m q weight

-- the leaves whose timers it concerns, and itself
pub record AreTouched (w : Woken) (these stable m : List ℕ) (old new : Stale) : Type 0 where
  pub settled : new.settled ≡ old.settled
  pub timers : IsTouched (λ q weight j. Stands (bands_at w.timers q) weight j) these stable m old.timers new.timers
  pub places : IsTouched (λ q weight j. (q ≡ j) × (weight ≡ 0)) these stable m old.places new.places

-- each leaf at a place has a flag, and each place has leaves
pub record HaveFlags (w : Woken) (stale : Stale) : Type 0 where
  pub timers : (q : ℕ) → EachOrdered (length stale.timers) (bands_at w.timers q)
  pub places : length w.timers ≡ length stale.places

-- at a stable marking the rows are those that renewal leaves
abbrev pub AreQuiet : List Part → List ℕ → List net.Row → Type 0
AreQuiet parts m rows = (j : ℕ) (p : Part) → slice_get parts j ≡ Some p → (first_of_part m p ≡ net.Nothing) × IsSteady (leaf_of p) (gather (places_of p) m) (row_at rows j)
