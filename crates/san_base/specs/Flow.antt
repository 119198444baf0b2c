-- What sources and sinks say: what is left, what is held, and when a fault counts.
use Rattle.std.specs.Prelude.{◌≡◌, ◌+◌, ◌-◌, ◌^◌, ◌<◌, ◌≤◌, ◌++◌, ℕ, List, [], min, length, take, drop, Some, None, Option}
use Rattle.san_base.specs.declared.sink.Put.{Put}
use Rattle.san_base.specs.declared.source.Read.{Read}
use Rattle.san_base.specs.declared.source.Read.TheVariants as read
use Rattle.san_base.specs.declared.sink.Put.TheVariants as put

-- a count of faults rose, or stands at its type's greatest number, where it stays
abbrev pub CountRose : ℕ → ℕ → Type 0
CountRose before now = min (before + 1) (2 ^ 64 - 1) ≤ now

-- where what is held is known, these bytes now stand after it
abbrev pub Appends : Option (List ℕ) → Option (List ℕ) → List ℕ → Type 0
Appends None new bytes = new ≡ None
Appends (Some held) new bytes = new ≡ Some (held ++ bytes)

-- the same of a prefix of these bytes
abbrev pub AppendsPrefix : Option (List ℕ) → Option (List ℕ) → List ℕ → Type 0
AppendsPrefix old new bytes = (part : List ℕ) × (rest : List ℕ) × (part ++ rest ≡ bytes) × Appends old new part

-- what a put of a piece does
abbrev pub Puts : Put → Option (List ℕ) → Option (List ℕ) → List ℕ → ℕ → ℕ → Type 0
Puts (put.Took count) old new piece before now = (0 < count) × (count ≤ length piece) × Appends old new (take count piece)
Puts put.Failed old new piece before now = CountRose before now × (new ≡ old)

-- where what is left is known, these bytes are gone from its front
abbrev pub Takes : Option (List ℕ) → Option (List ℕ) → List ℕ → Type 0
Takes None new bytes = new ≡ None
Takes (Some left) new bytes = (rest : List ℕ) × (left ≡ bytes ++ rest) × (new ≡ Some rest)

-- where what is left is known, it had so many bytes, which are gone from its front
abbrev pub TakesFirst : Option (List ℕ) → Option (List ℕ) → ℕ → Type 0
TakesFirst None new count = new ≡ None
TakesFirst (Some left) new count = (count ≤ length left) × (new ≡ Some (drop count left))

abbrev pub TakesUpTo : Option (List ℕ) → Option (List ℕ) → ℕ → Type 0
TakesUpTo old new most = (count : ℕ) × (count ≤ most) × TakesFirst old new count

-- where what is left is known, that is nothing
abbrev pub IsUsedUp : Option (List ℕ) → Type 0
IsUsedUp None = Unit {0}
IsUsedUp (Some left) = left ≡ []

-- where what is left is known, its first so many bytes are gone and stand in front in the buffer
abbrev pub Gives : Option (List ℕ) → Option (List ℕ) → List ℕ → ℕ → Type 0
Gives None new buf count = new ≡ None
Gives (Some left) new buf count = (count ≤ length left) × (take count buf ≡ take count left) × (new ≡ Some (drop count left))

-- what a read does to what is left and to the buffer
abbrev pub Reads : Read → Option (List ℕ) → Option (List ℕ) → List ℕ → ℕ → ℕ → Type 0
Reads (read.Took count) old new buf before now = (0 < count) × (count ≤ length buf) × Gives old new buf count
Reads read.End old new buf before now = IsUsedUp old × (new ≡ old)
Reads read.Failed old new buf before now = CountRose before now × (new ≡ old)
