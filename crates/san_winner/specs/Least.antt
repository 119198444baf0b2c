-- The least of a list of keys, by key and then by index.
use Rattle.std.specs.Prelude.{ℕ, zero, suc, ◌+◌, ◌-◌, ◌^◌, ◌≡◌, ◌<◌, ◌≤◌, ◌≢◌, nat_lt, List, [], ◌∷◌, Option, Some, None, if◌then◌else◌, slice_index_or, take, drop, length}
use Rattle.san_winner.specs.declared.matches.TheConstants.{MAX_SIZE}

-- a key and its index, or no key
abbrev pub Won : Type 0
Won = Option (ℕ × ℕ)

-- the lesser key, of equal keys the first
abbrev pub sooner : Won → Won → Won
sooner None b = b
sooner (Some a) None = Some a
sooner (Some a) (Some b) = if nat_lt b.0 a.0 then Some b else Some a

-- the key at an index
abbrev pub leaf : ℕ → Option ℕ → Won
leaf i None = None
leaf i (Some k) = Some (k, i)

-- the least of these keys, the first of which stands at i
unfoldable pub least_from : ℕ → List (Option ℕ) → Won
least_from i [] = None
least_from i (x ∷ xs) = sooner (leaf i x) (least_from (suc i) xs)

-- the least of n nodes from i on
unfoldable pub span : (ℕ → Won) → ℕ → ℕ → Won
span f i zero = None
span f i (suc n) = sooner (f i) (span f (suc i) n)

-- the least of the keys from lo to hi
abbrev pub least_between : ℕ → ℕ → List (Option ℕ) → Won
least_between lo hi keys = least_from lo (take (hi - lo) (drop lo keys))

-- a node has the winner of the two below it
abbrev pub IsWon : List Won → ℕ → Type 0
IsWon nodes v = slice_index_or nodes v None ≡ sooner (slice_index_or nodes (v + v) None) (slice_index_or nodes (v + v + 1) None)

abbrev pub AreWon : ℕ → List Won → Type 0
AreWon size nodes = (v : ℕ) → 0 < v → v < size → IsWon nodes v

-- all but one node are right
abbrev pub AreWonBut : ℕ → ℕ → List Won → Type 0
AreWonBut at size nodes = (v : ℕ) → 0 < v → v < size → v ≢ at → IsWon nodes v

-- the lowest nodes have the keys
abbrev pub HasLeaves : ℕ → List Won → List (Option ℕ) → Type 0
HasLeaves size nodes keys = (k : ℕ) → k < size → slice_index_or nodes (size + k) None ≡ leaf k (slice_index_or keys k None)

abbrev pub IsPower : ℕ → Type 0
IsPower size = (h : ℕ) × (size ≡ 2 ^ h)

-- a tree of so many lowest nodes over these keys
pub record TreeStands (size : ℕ) (keys : List (Option ℕ)) (nodes : List Won) : Type 0 where
  pub power : IsPower size
  pub small : size < MAX_SIZE
  pub room : length keys ≤ size
  pub sized : length nodes ≡ size + size
  pub tree : AreWon size nodes
  pub leaves : HasLeaves size nodes keys
