-- How great the numbers of a tally get.
use Rattle.std.specs.Prelude.{ℕ, ◌^◌}

-- a rate or an impulse, which has 64 bits
abbrev pub MAX_AMOUNT : ℕ
MAX_AMOUNT = 2 ^ 63

-- the present rates of a reward: of each leaf at most 16 terms
abbrev pub MAX_PRESENT : ℕ
MAX_PRESENT = 2 ^ 79

-- a sum that a horizon's ticks and the impulses of all events leave
abbrev pub MAX_SUM : ℕ
MAX_SUM = 2 ^ 120
