-- The constants of a distribution that a legal network has.
use Rattle.std.specs.Prelude.{ℕ, ◌≤◌, List, length, map, sum, All}
use Rattle.san_base.specs.declared.limits.TheConstants.{MAX_DELAY, MAX_WEIGHT}
use Rattle.san_delay.specs.declared.geometric.TheConstants.{MAX_PARTS}
use Rattle.san_delay.specs.declared.weighted.TheConstants.{MAX_ENTRIES}
use Rattle.san_expr.specs.declared.dist.Dist.{Dist}
use Rattle.san_expr.specs.declared.dist.Dist.TheVariants as dist

-- a number that a delay can be
abbrev pub IsDelay : ℕ → Type 0
IsDelay n = (1 ≤ n) × (n ≤ MAX_DELAY)

-- a chance of p in q
pub record IsChance (p q : ℕ) : Type 0 where
  pub some : 1 ≤ p
  pub most : p ≤ q
  pub parts : q ≤ MAX_PARTS

-- delays and their weights, which are not all 0
pub record IsTable (entries : List (ℕ × ℕ)) : Type 0 where
  pub size : (1 ≤ length entries) × (length entries ≤ MAX_ENTRIES)
  pub delays : All (λ e. IsDelay e.0) entries
  pub weights : (1 ≤ sum (map (λ e. e.1) entries)) × (sum (map (λ e. e.1) entries) ≤ MAX_WEIGHT)

abbrev pub IsSoundDelay : Dist → Type 0
IsSoundDelay (dist.Det e) = Unit {0}
IsSoundDelay (dist.Uniform low high) = Unit {0}
IsSoundDelay (dist.Geom p q) = IsChance p q
IsSoundDelay (dist.Table entries) = IsTable entries
