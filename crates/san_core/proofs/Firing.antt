-- A fired piece's completions that are let through.
use Rattle.std.proofs.Common.{ℕ, zero, suc, ◌+◌, ◌-◌, ◌≡◌, ◌≢◌, ◌∙◌, ap, refl, arith, Option}
use Rattle.san_law.specs.Block.{Fault}
use Rattle.san_law.specs.Step.{Ending}
use Rattle.san_core.specs.inner.Admits.{admits_rest, admits_settled, one_more}

pub rest_is : (most limit j count n : ℕ) (fault : Option Fault) (passed : ℕ) (over : Option Ending) → n ≢ 0 → (passed, over) ≡ admits_settled most limit j 0 (count + 1) fault (n - 1) → (passed + 1, over) ≡ admits_rest most limit j count fault n
rest_is most limit j count zero fault passed over some is = absurd (some refl)
rest_is most limit j count (suc n) fault passed over some is =
    ap (λ (m : ℕ). (m, over)) (next passed) ∙ (ap one_more is ∙ ap (λ (m : ℕ). one_more (admits_settled most limit j 0 (count + 1) fault m)) (less n))
  where
    next : (m : ℕ) → m + 1 ≡ suc m
    next m = omega arith

    less : (n : ℕ) → suc n - 1 ≡ n
    less n = omega arith
