-- The delay of a distribution for a draw and a marking, or the trap that ends it.
use Rattle.std.specs.Prelude.{ℕ, zero, suc, ◌+◌, ◌-◌, ◌*◌, ◌/◌, ◌^◌, nat_le, Bool, ◌&&◌, map, slice_index, Result, Ok, Err, ℤ, pos, negsuc, if◌then◌else◌}
use Rattle.san_base.specs.declared.limits.TheConstants.{MAX_DELAY}
use Rattle.san_base.specs.declared.ending.Trap.{Trap}
use Rattle.san_base.specs.declared.ending.Trap.TheVariants as trap
use Rattle.san_base.specs.Draws.{pick, weighted_choice}
use Rattle.san_expr.specs.Meaning.{Meaning, settled, then_do}
use Rattle.san_expr.specs.Value.{value_of}
use Rattle.san_expr.specs.declared.dist.Dist.{Dist}
use Rattle.san_expr.specs.declared.dist.Dist.TheVariants as dist

abbrev pub Ticks : Type 0
Ticks = Result ℕ Trap

-- a number that a delay can be
abbrev pub ticks_of : ℤ → Ticks
ticks_of (pos n) = if nat_le 1 n && nat_le n MAX_DELAY then Ok n else Err trap.Delay
ticks_of (negsuc n) = Err trap.Delay

-- the number that a draw gives between two bounds
abbrev pub between : ℕ → Ticks → Ticks → Ticks
between u (Err t) high = Err t
between u (Ok a) (Err t) = Err t
between u (Ok a) (Ok b) = if nat_le a b then Ok (a + pick u (b - a + 1)) else Err trap.Delay

-- the chance, out of 2 ^ 64, that so many ticks don't end the delay, where each ends it with p out of q
abbrev pub chance_left : ℕ → ℕ → ℕ → ℕ
chance_left p q zero = 2 ^ 64
chance_left p q (suc k) = chance_left p q k * (q - p) / q

-- the least number from n on that passes a test, among so many
unfoldable pub least_from : (ℕ → Bool) → ℕ → ℕ → ℕ
least_from test zero n = n
least_from test (suc more) n = if test n then n else least_from test more (suc n)

-- the least number of ticks, at least 1, whose chance is at most the draw; the chance falls with every tick, so that
-- 2 ^ 64 ticks are enough
unfoldable pub geometric : ℕ → ℕ → ℕ → ℕ
geometric p q u = least_from (λ d. nat_le (chance_left p q d) u) (2 ^ 64) 1

abbrev pub delay_of : Dist → ℕ → Meaning ℕ
delay_of (dist.Det e) u = then_do (value_of e) (λ x. settled (ticks_of x))
delay_of (dist.Uniform low high) u = then_do (value_of low) (λ x. then_do (value_of high) (λ y. settled (between u (ticks_of x) (ticks_of y))))
delay_of (dist.Geom p q) u = settled (Ok (geometric p q u))
delay_of (dist.Table entries) u = settled (Ok (slice_index (map (λ e. e.0) entries) (weighted_choice u (map (λ e. e.1) entries))))
