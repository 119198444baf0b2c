-- Two small values are a marking.
use Rattle.std.proofs.Common.{ℕ, zero, suc, ◌≤◌, ◌∷◌, [], List, refl, arith, slice_index}
use Rattle.san_probe.specs.Markings.{IsMarkingOf}
use Rattle.san_expr.specs.Concerns.{IsMarking}

pub pair_is_marking : (a b : ℕ) → a ≤ 2147483647 → b ≤ 2147483647 → IsMarkingOf 2 (a ∷ b ∷ [])
pair_is_marking a b h k = record { sized = refl; values = each }
  where
    each : (q : ℕ) → slice_index (a ∷ b ∷ []) q ≤ 2147483647
    each zero = h
    each (suc zero) = k
    each (suc (suc q)) = omega arith
