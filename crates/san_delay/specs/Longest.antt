-- The greatest delay that some draw gives, or the trap that each draw ends with.
use Rattle.std.specs.Prelude.{ℕ, ◌≡◌, ◌≤◌, ◌<◌, ◌^◌, nat_le, nat_eq, max, List, [], ◌∷◌, Ok, Err, if◌then◌else◌}
use Rattle.san_base.specs.declared.ending.Trap.TheVariants as trap
use Rattle.san_expr.specs.Delay.{Ticks, ticks_of, geometric}
use Rattle.san_expr.specs.Meaning.{Meaning, settled, then_do}
use Rattle.san_expr.specs.Value.{value_of}
use Rattle.san_expr.specs.declared.dist.Dist.{Dist}
use Rattle.san_expr.specs.declared.dist.Dist.TheVariants as dist

-- the upper of two bounds
abbrev pub upper : Ticks → Ticks → Ticks
upper (Err t) high = Err t
upper (Ok a) (Err t) = Err t
upper (Ok a) (Ok b) = if nat_le a b then Ok b else Err trap.Delay

-- the greatest delay that has a weight
abbrev pub greatest : List (ℕ × ℕ) → ℕ
greatest [] = 0
greatest (e ∷ entries) = if nat_eq e.1 0 then greatest entries else max e.0 (greatest entries)

-- a geometric delay is longest at the least draw
abbrev pub longest_of : Dist → Meaning ℕ
longest_of (dist.Det e) = then_do (value_of e) (λ x. settled (ticks_of x))
longest_of (dist.Uniform low high) = then_do (value_of low) (λ x. then_do (value_of high) (λ y. settled (upper (ticks_of x) (ticks_of y))))
longest_of (dist.Geom p q) = settled (Ok (geometric p q 0))
longest_of (dist.Table entries) = settled (Ok (greatest entries))

-- at most as long, or the same trap
abbrev pub IsNoLonger : Ticks → Ticks → Type 0
IsNoLonger (Ok a) (Ok b) = a ≤ b
IsNoLonger (Ok a) (Err t) = ⊥
IsNoLonger (Err t) (Ok b) = ⊥
IsNoLonger (Err s) (Err t) = s ≡ t

-- of all draws' answers the greatest, which one of them gives
pub record IsLongest (answers : ℕ → Ticks) (longest : Ticks) : Type 0 where
  pub most : (u : ℕ) → u < 2 ^ 64 → IsNoLonger (answers u) longest
  pub given : (u : ℕ) × (u < 2 ^ 64) × (answers u ≡ longest)
