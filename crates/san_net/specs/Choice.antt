-- The case that a draw chooses.
use Rattle.std.specs.Prelude.{ℕ, ℤ, pos, negsuc, ◌^◌, nat_le, Bool, ◌&&◌, List, [], ◌∷◌, sum, Option, Some, None, Result, Ok, Err, if◌then◌else◌}
use Rattle.san_base.specs.Draws.{weighted_choice}
use Rattle.san_base.specs.declared.ending.Trap.{Trap}
use Rattle.san_base.specs.declared.ending.Trap.TheVariants.{Weight}
use Rattle.san_expr.specs.Meaning.{Meaning, settled, then_do}
use Rattle.san_expr.specs.Value.{value_of}
use Rattle.san_net.specs.declared.activity.Case.{Case}

abbrev pub natural : ℤ → Option ℕ
natural (pos n) = Some n
natural (negsuc n) = None

-- a case's weight, or none where it is negative
abbrev pub weight_of : Case → Meaning (Option ℕ)
weight_of c = then_do (value_of c.weight) (λ x. settled (Ok (natural x)))

-- all weights, in case order
abbrev pub weights_of : List Case → Meaning (List (Option ℕ))
weights_of [] = settled (Ok [])
weights_of (c ∷ cases) = then_do (weight_of c) (λ y. then_do (weights_of cases) (λ ys. settled (Ok (y ∷ ys))))

abbrev pub put_before : ℕ → Option (List ℕ) → Option (List ℕ)
put_before n None = None
put_before n (Some ns) = Some (n ∷ ns)

-- none where one is negative
abbrev pub all_natural : List (Option ℕ) → Option (List ℕ)
all_natural [] = Some []
all_natural (None ∷ ys) = None
all_natural (Some n ∷ ys) = put_before n (all_natural ys)

abbrev pub is_total : ℕ → Bool
is_total n = nat_le 1 n && nat_le n (2 ^ 32)

-- no weight may be negative, and their sum is from 1 to 4294967296
abbrev pub chosen : ℕ → Option (List ℕ) → Result ℕ Trap
chosen u None = Err Weight
chosen u (Some ns) = if is_total (sum ns) then Ok (weighted_choice u ns) else Err Weight

-- all weights are evaluated before the first of them is tested
abbrev pub case_of : ℕ → List Case → Meaning ℕ
case_of u cases = then_do (weights_of cases) (λ ys. settled (chosen u (all_natural ys)))
