-- What the type of a tally keeps.
use Rattle.std.specs.Prelude.{ℕ, ◌+◌, ◌*◌, ◌^◌, ◌≤◌, ◌<◌, ◌≡◌, All, List, map, length}
use Rattle.san_base.specs.declared.limits.TheConstants.{MAX_HORIZON, MAX_IMPULSES, MAX_LEAVES}
use Rattle.san_law.specs.Tally.{sum_of}
use Rattle.san_reward.specs.Running.{Running}
use Rattle.san_reward.specs.Smallness.{IsAtMost}
use Rattle.san_reward.specs.declared.present.Present.{Present}
use Rattle.san_reward.specs.inner.Present.{present_at, present_of, terms_of}
use Rattle.san_reward.specs.inner.Bounds.{MAX_AMOUNT, MAX_PRESENT}

-- what is kept of a tally: the sums of each reward's present rates are at hand, and all sums are small
pub record HasSums (t : Running) (present : List Present) : Type 0 where
  pub horizon : t.horizon ≤ MAX_HORIZON
  pub time : t.time ≤ t.horizon
  pub impulses : t.tally.impulses ≤ MAX_IMPULSES
  pub sums : length t.tally.sums ≡ length t.spans
  pub sized : length present ≡ length t.spans
  pub each : (r : ℕ) → r < length t.spans → present_at present r ≡ present_of r t.terms t.tally.rates
  pub small : (r : ℕ) → IsAtMost (t.time * MAX_PRESENT + t.tally.impulses * MAX_AMOUNT) (sum_of t.tally r)
  pub spanned : All (λ s. s.to ≤ MAX_HORIZON + 1) t.spans
  pub few : (r : ℕ) → terms_of r t.terms ≤ MAX_LEAVES * 16
  pub known : All (All (λ q. q < length t.spans)) t.terms
  pub shaped : map length t.tally.rates ≡ map length t.terms
  pub bounded : All (All (IsAtMost MAX_AMOUNT)) t.tally.rates
