-- What a view of the shared places records.
use Rattle.std.specs.Prelude.{ℕ, ◌≡◌, List, Option, Some, None, slice_index}

-- a marking's value, where it is shown
abbrev pub Shows : Option (List ℕ) → ℕ → ℕ → Type 0
Shows None q v = Unit {0}
Shows (Some m) q v = slice_index m q ≡ v
