-- What a worker's turns do to a pass.
use Rattle.std.specs.Prelude.{ℕ, ◌+◌, ◌-◌, ◌^◌, ◌≡◌, ◌≤◌, ◌⊎◌}

-- a count rose by so many, or came to the greatest number of 64 bits, where it stays
abbrev pub IsRaisedBy : ℕ → ℕ → ℕ → Type 0
IsRaisedBy old n new = (new ≡ old + n) ⊎ ((new ≡ 2 ^ 64 - 1) × (2 ^ 64 - 1 ≤ old + n))
