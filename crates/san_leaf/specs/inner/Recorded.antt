-- What a piece records of its completions, as it goes on.
use Rattle.std.specs.Prelude.{ℕ, ◌≤◌, ◌<◌, All, List, [], ◌∷◌, ◌++◌, length}
use Rattle.san_base.specs.declared.limits.TheConstants.{MAX_ACTS}
use Rattle.san_law.specs.Block.{Completion}
use Rattle.san_law.specs.Net as net
use Rattle.san_leaf.specs.declared.recorder.Impulse.{Impulse}
use Rattle.san_leaf.specs.Events.{completions_from, impulses_at}

-- the completions, and the impulses of the one that comes next
pub record Recorded : Type 0 where
  pub completions : List Completion
  pub pending : List net.Impulse

abbrev pub recorded_of : List (ℕ × ℕ) → List Impulse → Recorded
recorded_of events impulses = record { completions = completions_from 0 events impulses; pending = impulses_at (length events) impulses }

-- at most 64 completions, of activities of a network, and no impulse of a later one
pub record AreWellRecorded (events : List (ℕ × ℕ)) (impulses : List Impulse) : Type 0 where
  pub few : length events ≤ 64
  pub acts : All (λ e. e.0 < MAX_ACTS) events
  pub early : All (λ x. x.event ≤ length events) impulses

abbrev pub with_impulse : Recorded → net.Impulse → Recorded
with_impulse t x = record { completions = t.completions; pending = t.pending ++ x ∷ [] }

abbrev pub with_impulses : Recorded → List net.Impulse → Recorded
with_impulses t xs = record { completions = t.completions; pending = t.pending ++ xs }

-- the next event has the impulses that came for it
abbrev pub with_event : Recorded → ℕ → ℕ → Recorded
with_event t act case = record { completions = t.completions ++ record { act = act; case = case; impulses = t.pending } ∷ []; pending = [] }
