-- How rates follow from one marking to another: each leaf's are as they were, or those of its terms in the new one.
use Rattle.std.specs.Prelude.{ℕ, ◌≡◌, ◌≢◌, ◌⊎◌, nat_eq, Bool, IsTrue, not, List, [], length, Some, slice_get, slice_index, slice_index_or}
use Rattle.san_base.specs.declared.numbers.LeafId.{LeafId}
use Rattle.san_law.specs.Net.{Rated}
use Rattle.san_net.specs.Laid.{places_of}
use Rattle.san_net.specs.Network.{Network}
use Rattle.san_net.specs.declared.part.Part.{Part}
use Rattle.san_reward.specs.Running.{Running, rates_of, with_all_rates}
use Rattle.san_plain.specs.inner.Rated.{rate_cells}

abbrev pub rates_at : Running → ℕ → List Rated
rates_at t j = slice_index_or t.tally.rates j []

-- a leaf's rates are those of its terms
abbrev pub AreNew : Network → List ℕ → Running → ℕ → Type 0
AreNew n m t j = (p : Part) → slice_get n.parts j ≡ Some p → rates_at t j ≡ rates_of m p

pub record FollowsRates (n : Network) (m : List ℕ) (old new : Running) : Type 0 where
  pub kept : new ≡ with_all_rates old new.tally.rates
  pub sized : length new.tally.rates ≡ length old.tally.rates
  pub each : (j : ℕ) (p : Part) → slice_get n.parts j ≡ Some p → (rates_at new j ≡ rates_at old j) ⊎ (rates_at new j ≡ rates_of m p)

-- those of some leaves are new, but for one leaf
pub record FollowsAt (n : Network) (leaves : List LeafId) (except : ℕ) (m : List ℕ) (old new : Running) : Type 0 where
  pub follows : FollowsRates n m old new
  pub anew : (k : ℕ) (leaf : LeafId) → slice_get leaves k ≡ Some leaf → leaf.0 ≢ except → AreNew n m new leaf.0

-- where a place has another value, those of the leaves whose terms name a cell there
pub record FollowsPlace (n : Network) (place except : ℕ) (before m : List ℕ) (old new : Running) : Type 0 where
  pub follows : FollowsRates n m old new
  pub anew : slice_index before place ≢ slice_index m place → (j i : ℕ) (p : Part) → slice_get n.parts j ≡ Some p → slice_get (places_of p) i ≡ Some place → IsTrue (rate_cells p.atomic.rates i) → j ≢ except → rates_at new j ≡ rates_of m p

-- and where any of these places has
pub record FollowsPlaces (n : Network) (places : List ℕ) (except : ℕ) (before m : List ℕ) (old new : Running) : Type 0 where
  pub follows : FollowsRates n m old new
  pub anew : (k q : ℕ) → slice_get places k ≡ Some q → slice_index before q ≢ slice_index m q → (j i : ℕ) (p : Part) → slice_get n.parts j ≡ Some p → slice_get (places_of p) i ≡ Some q → IsTrue (rate_cells p.atomic.rates i) → j ≢ except → rates_at new j ≡ rates_of m p

-- a place has another value
abbrev pub differs_at : List ℕ → List ℕ → ℕ → Bool
differs_at before m q = not (nat_eq (slice_index before q) (slice_index m q))

-- outside of some places a marking is as it was
abbrev pub DiffersIn : List ℕ → List ℕ → List ℕ → Type 0
DiffersIn places before m = (q : ℕ) → (slice_index m q ≡ slice_index before q) ⊎ ((i : ℕ) × (slice_get places i ≡ Some q))
