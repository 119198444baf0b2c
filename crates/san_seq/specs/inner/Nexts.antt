-- Which instantaneous activity completes next, by the parts of a network.
use Rattle.std.specs.Prelude.{ℕ, suc, List, [], ◌∷◌, Option, Some, None, slice_get}
use Rattle.san_law.specs.Net as net
use Rattle.san_law.specs.Next as law
use Rattle.san_law.specs.State.{gather}
use Rattle.san_net.specs.Laid.{places_of}
use Rattle.san_net.specs.Leaf.{first_in}
use Rattle.san_net.specs.declared.part.Part.{Part}
use Rattle.san_seq.specs.declared.next.Next.{Next}
use Rattle.san_seq.specs.declared.next.Next.TheVariants as next

-- what the law calls it
abbrev pub next_in : Next → law.Next
next_in next.Stable = law.Stable
next_in (next.Completes leaf act) = law.Completes leaf.0 act
next_in (next.Traps leaf act trap) = law.TrapsAt leaf.0 act trap

-- what stands first in a part's cells of a marking
abbrev pub first_of_part : List ℕ → Part → net.Found
first_of_part m p = first_in p.atomic (gather (places_of p) m)

-- the parts in order, the first of which has a number
unfoldable pub first_from : ℕ → List ℕ → List Part → law.Next
first_from j m [] = law.Stable
first_from j m (p ∷ ps) = law.found_at j (first_of_part m p) (first_from (suc j) m ps)

abbrev pub first_by : List ℕ → Option Part → net.Found
first_by m None = net.Nothing
first_by m (Some p) = first_of_part m p

-- the part that completed last goes first, then the parts in order
abbrev pub next_among : List Part → Option ℕ → List ℕ → law.Next
next_among parts None m = first_from 0 m parts
next_among parts (Some j) m = law.found_at j (first_by m (slice_get parts j)) (first_from 0 m parts)
