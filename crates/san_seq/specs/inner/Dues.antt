-- The timer that is due first, as the law says it.
use Rattle.std.specs.Prelude.{ℕ, ◌≡◌, ◌<◌, List, length, map, Option, Some, None, slice_set}
use Rattle.std.specs.Option.{option_map}
use Rattle.san_base.specs.declared.numbers.LeafId.{LeafId}
use Rattle.san_law.specs.Net.{Row, least_timer}
use Rattle.san_law.specs.Renewal as law
use Rattle.san_seq.specs.declared.rows.Due.{Due}
use Rattle.san_seq.specs.inner.Rows.{row_at}

abbrev pub due_in : Due → law.Due
due_in d = record { time = d.time; leaf = d.leaf.0; act = d.act }

-- when a row's least timer is due
abbrev pub first_due : Row → Option ℕ
first_due r = option_map (λ d. d.0) (least_timer r)

-- the keys are when the rows' least timers are due, but for a leaf whose key is still to be set
abbrev pub AreDues : Option LeafId → List (Option ℕ) → List Row → Type 0
AreDues None dues rows = dues ≡ map first_due rows
AreDues (Some leaf) dues rows = (leaf.0 < length rows) × (slice_set dues leaf.0 (first_due (row_at rows leaf.0)) ≡ map first_due rows)
