-- Passes of a board for tests.
use Rattle.std.specs.Prelude.{ℕ, ◌≡◌, ◌<◌, List, length, Some, slice_get}
use Rattle.san_speculation.specs.Boards.{PassValue}
use Rattle.san_board.specs.declared.fake.FakePass.{FakePass}

abbrev pub pass_of : FakePass → PassValue
pass_of p = record { number = p.worker; asked = p.asked; ends = p.ends }

-- so many that have asked for nothing, in the order of their numbers
pub record AreFakes (count : ℕ) (ps : List FakePass) : Type 0 where
  pub long : length ps ≡ count
  pub each : (k : ℕ) → k < count → slice_get ps k ≡ Some (record { worker = k; asked = 0; ends = 0 })
