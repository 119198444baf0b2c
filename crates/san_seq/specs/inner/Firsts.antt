-- The first leaf that has something, as it is searched.
use Rattle.std.specs.Prelude.{ℕ, ◌≡◌, ◌≤◌, ◌<◌, ◌⊎◌, List, length, Some, slice_get, slice_index}
use Rattle.san_base.specs.declared.numbers.LeafId.{LeafId}
use Rattle.san_law.specs.Net as net
use Rattle.san_law.specs.Next as law
use Rattle.san_net.specs.declared.part.Part.{Part}
use Rattle.san_seq.specs.declared.next.First.{First}
use Rattle.san_seq.specs.inner.Nexts.{first_by, next_in}
use Rattle.san_seq.specs.declared.wakes.Band.{Band}
use Rattle.san_seq.specs.inner.Wakes.{Stands, Woken, bands_at, level}

-- a leaf has what its search found; after all leaves there is nothing
pub record IsFirst (parts : List Part) (m : List ℕ) (f : First) : Type 0 where
  pub within : f.leaf.0 ≤ length parts
  pub some : f.leaf.0 < length parts → (rest : law.Next) → law.found_at f.leaf.0 (first_by m (slice_get parts f.leaf.0)) rest ≡ next_in f.next
  pub none : length parts ≤ f.leaf.0 → next_in f.next ≡ law.Stable

-- no leaf before it has anything
pub record IsFound (parts : List Part) (m : List ℕ) (most : ℕ) (f : First) : Type 0 where
  pub first : IsFirst parts m f
  pub sooner : f.leaf.0 ≤ most
  pub none : (j : ℕ) → j < f.leaf.0 → first_by m (slice_get parts j) ≡ net.Nothing

-- those of some leaves that come before a number have nothing
abbrev pub AreEarlier : List Part → List ℕ → List LeafId → ℕ → Type 0
AreEarlier parts m leaves many = (k : ℕ) (leaf : LeafId) → slice_get leaves k ≡ Some leaf → leaf.0 < many → first_by m (slice_get parts leaf.0) ≡ net.Nothing

-- a band's weight sees the same in both values of its place, or those of its leaves that come before a number have nothing
abbrev pub AreEarlierBy : List Part → Band → ℕ → ℕ → List ℕ → ℕ → Type 0
AreEarlierBy parts band was now m many = (level band.weight was ≡ level band.weight now) ⊎ AreEarlier parts m band.leaves.items many

abbrev pub EachEarlier : List Part → List Band → ℕ → ℕ → List ℕ → ℕ → Type 0
EachEarlier parts bands was now m many = (b : ℕ) (band : Band) → slice_get bands b ≡ Some band → AreEarlierBy parts band was now m many

-- each weight by which a leaf hangs on a place sees the same as in the last stable marking, or the leaf has nothing, where it comes before a number
abbrev pub IsEarlier : List Part → Woken → List ℕ → List ℕ → ℕ → ℕ → Type 0
IsEarlier parts w stable m many q = (weight j : ℕ) → Stands (bands_at w.instants q) weight j → j < many → (level weight (slice_index stable q) ≡ level weight (slice_index m q)) ⊎ (first_by m (slice_get parts j) ≡ net.Nothing)
