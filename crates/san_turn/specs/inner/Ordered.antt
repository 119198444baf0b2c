-- What an order keeps.
use Rattle.std.specs.Prelude.{◌≡◌, ◌<◌, ◌^◌, List, Bool, length}
use Rattle.san_turn.specs.inner.Timed.{TimersValue}

-- two flags and a timer for each leaf
pub record HasEachLeaf (unsettled stale : List Bool) (timers : TimersValue) : Type 0 where
  pub settled_each : length unsettled ≡ length timers.firsts
  pub fresh_each : length stale ≡ length timers.firsts
  pub timed_each : length timers.dues ≡ length timers.firsts
  pub few : length timers.firsts < 2 ^ 32
