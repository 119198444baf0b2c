-- The ranges of the bounds that a run is given.
use Rattle.std.specs.Prelude.{ℕ, ◌≤◌}
use Rattle.san_base.specs.declared.limits.Limits.{Limits}
use Rattle.san_base.specs.declared.limits.TheConstants.{MAX_HORIZON, MAX_BURST, MAX_EVENTS, MAX_WINDOW, MAX_ROLLBACKS}

abbrev pub IsBetween : ℕ → ℕ → ℕ → Type 0
IsBetween least most n = (least ≤ n) × (n ≤ most)

pub record IsInRange (limits : Limits) : Type 0 where
  pub horizon_in_range : limits.horizon.0 ≤ MAX_HORIZON
  pub burst_in_range : IsBetween 1 MAX_BURST limits.burst
  pub events_in_range : IsBetween 1 MAX_EVENTS limits.events
  pub window_in_range : IsBetween 1 MAX_WINDOW limits.window
  pub rollbacks_in_range : limits.rollbacks ≤ MAX_ROLLBACKS
