-- What is asked of a network: its places are laid out apart, and its leaves keep to themselves.
use Rattle.san_base.specs.declared.limits.TheConstants.{MAX_EVENT_IMPULSES}
use Rattle.std.specs.Prelude.{ℕ, ◌<◌, ◌≤◌, ◌≡◌, ◌≢◌, List, [], ◌∷◌, length, Some, None, Ok, true, false, slice_index}
use Rattle.san_law.specs.Net.{Done, Fresh, Local, Net, Private, Row, Shared, Slot, is_bare, least_timer}
use Rattle.san_law.specs.State.{index_of, part_of, slots_of}

-- the places of a leaf are of the marking, each once
abbrev pub AllBelow : List ℕ → ℕ → Type 0
AllBelow [] n = Unit {0}
AllBelow (s ∷ ss) n = (s < n) × AllBelow ss n

-- no number stands twice
abbrev pub AreDistinct : List ℕ → Type 0
AreDistinct [] = Unit {0}
AreDistinct (s ∷ ss) = (index_of s ss ≡ None) × AreDistinct ss

-- shared places come first, and a private one is of no other leaf
abbrev pub AllApart : ℕ → (ℕ → Type 0) → List Slot → Type 0
AllApart n IsOthers [] = Unit {0}
AllApart n IsOthers (Private p ∷ ss) = (n ≤ p) × IsOthers p × AllApart n IsOthers ss
AllApart n IsOthers (Shared q ∷ ss) = (q < n) × AllApart n IsOthers ss

-- how the leaves lie over a marking of so many places
pub record IsLaid (net : Net) (m : ℕ) : Type 0 where
  pub below : (j : ℕ) → AllBelow (slots_of net j) m
  pub distinct : (j : ℕ) → AreDistinct (slots_of net j)
  pub apart : (i j : ℕ) → j ≢ i → AllApart net.shared (λ p. index_of p (slots_of net j) ≡ None) (part_of net i)

-- no timer is due before a time
abbrev pub IsLate : ℕ → Row → Type 0
IsLate t r = (x : ℕ × ℕ) → least_timer r ≡ Some x → t ≤ x.0

-- what the leaves' own functions keep
pub record IsLawful (net : Net) : Type 0 where
  -- a completion leaves as many values, those that it doesn't assign, and all timers, and it tells at most 1,024 impulses
  pub keeps : (j k : ℕ) (l : Local) (d : Done) → net.done j k l ≡ Ok d → length d.left.values ≡ length l.values
  pub sets : (j k : ℕ) (l : Local) (d : Done) → net.done j k l ≡ Ok d → (p : ℕ) → d.sets p ≡ false → slice_index d.left.values p ≡ slice_index l.values p
  pub timers : (j k : ℕ) (l : Local) (d : Done) → net.done j k l ≡ Ok d → d.left.row.timers ≡ l.row.timers
  pub few : (j k : ℕ) (l : Local) (d : Done) → net.done j k l ≡ Ok d → length d.impulses ≤ MAX_EVENT_IMPULSES
  -- where no activity has a timer, or none a pair, renewal doesn't look at what was seen
  pub bare : (j t : ℕ) (a b : List ℕ) (l : Local) → is_bare l.row ≡ true → net.renewed j t a l ≡ net.renewed j t b l
  pub unpaired : (j t : ℕ) (a b : List ℕ) (l : Local) → net.paired j ≡ false → net.renewed j t a l ≡ net.renewed j t b l
  -- renewal gives no timer for an earlier time
  pub renewed_late : (j t : ℕ) (a : List ℕ) (l : Local) (r : Row) → net.renewed j t a l ≡ Fresh r → IsLate t l.row → IsLate t r
  -- what was renewed stays at any time, the values being those last seen
  pub again : (j t u : ℕ) (a : List ℕ) (l : Local) (r : Row) → net.renewed j t a l ≡ Fresh r → net.renewed j u l.values (record { values = l.values; row = r }) ≡ Fresh r
