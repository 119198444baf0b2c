-- How the weights are summed, and how a case is found in a second walk, with no list of weights kept.
use Rattle.std.specs.Prelude.{ℕ, suc, ◌+◌, ◌-◌, ◌^◌, nat_lt, List, [], ◌∷◌, Option, Some, None, Ok, Err, if◌then◌else◌}
use Rattle.san_base.specs.Draws.{pick}
use Rattle.san_base.specs.declared.ending.Trap.TheVariants.{Weight}
use Rattle.san_expr.specs.Meaning.{Meaning, settled, then_do}
use Rattle.san_net.specs.Choice.{is_total, weight_of}
use Rattle.san_net.specs.declared.activity.Case.{Case}

-- none where a weight was negative, or the sum is no `u64`
abbrev pub weigh : Option ℕ → Option ℕ → Option ℕ
weigh None y = None
weigh (Some n) None = None
weigh (Some n) (Some k) = if nat_lt (n + k) (2 ^ 64) then Some (n + k) else None

abbrev pub total_from : Option ℕ → List Case → Meaning (Option ℕ)
total_from n [] = settled (Ok n)
total_from n (c ∷ cases) = then_do (weight_of c) (λ y. total_from (weigh n y) cases)

-- what is left of a number after a weight, or none where the weight exceeds it
abbrev pub passed : ℕ → Option ℕ → Option ℕ
passed left None = Some left
passed left (Some k) = if nat_lt left k then None else Some (left - k)

abbrev pub stop_or : ℕ → (ℕ → Meaning ℕ) → Option ℕ → Meaning ℕ
stop_or at go None = settled (Ok at)
stop_or at go (Some left) = go left

-- the first case, from a number on, whose weight exceeds what is left
abbrev pub found_from : ℕ → ℕ → List Case → Meaning ℕ
found_from left at [] = settled (Ok at)
found_from left at (c ∷ cases) = then_do (weight_of c) (λ y. stop_or at (λ l. found_from l (suc at) cases) (passed left y))

-- what the sum calls for
abbrev pub by_total : ℕ → List Case → Option ℕ → Meaning ℕ
by_total u cases None = settled (Err Weight)
by_total u cases (Some n) = if is_total n then found_from (pick u n) 0 cases else settled (Err Weight)
