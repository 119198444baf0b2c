-- What a draw comes to, a number below 2 ^ 64.
use Rattle.std.specs.Prelude.{ℕ, suc, ◌+◌, ◌*◌, ◌/◌, ◌^◌, nat_lt, List, [], ◌∷◌, sum, if◌then◌else◌}

-- a number below w
abbrev pub pick : ℕ → ℕ → ℕ
pick u w = u * w / 2 ^ 64

-- the first entry whose cumulative weight exceeds a number, with the weight of what stands before
abbrev pub first_above : ℕ → List ℕ → ℕ → ℕ
first_above before [] n = 0
first_above before (w ∷ weights) n = if nat_lt n (before + w) then 0 else suc (first_above (before + w) weights n)

-- the entry that a draw chooses by weight
abbrev pub weighted_choice : ℕ → List ℕ → ℕ
weighted_choice u weights = first_above 0 weights (pick u (sum weights))
