-- A place's versions in order, and the value that a stamp sees.
use Rattle.std.specs.Prelude.{ℕ, nat_lt, nat_le, nat_eq, ◌&&◌, ◌||◌, not, List, [], ◌∷◌, Option, Some, None, Bool, true, false}
use Rattle.std.specs.List.{filter}
use Rattle.san_base.specs.declared.numbers.LeafId.{LeafId}
use Rattle.san_base.specs.declared.numbers.Tick.{Tick}
use Rattle.san_base.specs.declared.piece.Stamp.{Stamp}
use Rattle.san_line.specs.declared.version.Version.{Version}

-- less by the first number, or equal there and less by what follows
abbrev pub first_by : ℕ → ℕ → Bool → Bool
first_by a b rest = nat_lt a b || (nat_eq a b && rest)

-- a version comes before another: by time, then leaf, then the number of its piece
abbrev pub before : Version → Version → Bool
before v w = first_by v.time.0 w.time.0 (first_by v.leaf.0 w.leaf.0 (nat_lt v.pos w.pos))

abbrev pub is_key : ℕ → ℕ → Version → Bool
is_key leaf pos v = nat_eq v.leaf.0 leaf && nat_eq v.pos pos

-- at the stamp's time
abbrev pub sees_now : Bool → Stamp → Version → Bool
sees_now true s v = nat_lt v.pos s.pos
sees_now false s v = s.all || nat_lt v.leaf.0 s.leaf.0

abbrev pub sees : Stamp → Version → Bool
sees s v = first_by v.time.0 s.time.0 (sees_now (nat_eq v.leaf.0 s.leaf.0) s v)

abbrev pub value_or : Bool → ℕ → ℕ → ℕ
value_or true v c = v
value_or false v c = c

-- the value of the last version that is seen
abbrev pub value_at : Stamp → ℕ → List Version → ℕ
value_at s c [] = c
value_at s c (v ∷ vs) = value_at s (value_or (sees s v) v.value c) vs

abbrev pub inserted_by : Bool → Version → Version → List Version → List Version → List Version
inserted_by true v x xs more = v ∷ (x ∷ xs)
inserted_by false v x xs more = x ∷ more

abbrev pub inserted : Version → List Version → List Version
inserted v [] = v ∷ []
inserted v (x ∷ xs) = inserted_by (before v x) v x xs (inserted v xs)

-- without those whose leaf and pos are gone
abbrev pub without_all : (ℕ → ℕ → Bool) → List Version → List Version
without_all gone xs = filter (λ v. not (gone v.leaf.0 v.pos)) xs

-- without one version
abbrev pub without : ℕ → ℕ → List Version → List Version
without leaf pos xs = without_all (λ l p. nat_eq l leaf && nat_eq p pos) xs

-- without a leaf's versions from a pos on
abbrev pub withdrawn : ℕ → ℕ → List Version → List Version
withdrawn leaf from xs = without_all (λ l p. nat_eq l leaf && nat_le from p) xs

abbrev pub found_by : Bool → Version → Option Version → Option Version
found_by true x rest = Some x
found_by false x rest = rest

abbrev pub find : ℕ → ℕ → List Version → Option Version
find leaf pos [] = None
find leaf pos (x ∷ xs) = found_by (is_key leaf pos x) x (find leaf pos xs)

abbrev pub next_by : Bool → Version → Option (Tick × LeafId) → Option (Tick × LeafId)
next_by true x rest = Some (x.time, x.leaf)
next_by false x rest = rest

-- the first (time, leaf) of another leaf above a time
abbrev pub next_after : ℕ → ℕ → List Version → Option (Tick × LeafId)
next_after leaf after [] = None
next_after leaf after (x ∷ xs) = next_by (not (nat_eq x.leaf.0 leaf) && nat_lt after x.time.0) x (next_after leaf after xs)

-- the committed value, the versions over it, and how many more find room without memory
pub record LineValue : Type 0 where
  pub committed : ℕ
  pub versions : List Version
  pub spare : ℕ

-- the value of a version that was found, or another
abbrev pub value_in : ℕ → Option Version → ℕ
value_in c None = c
value_in c (Some v) = v.value
