-- Runs in which each step takes any draws.
use Rattle.std.specs.Prelude.{ℕ, ◌+◌, ◌<◌, ◌≡◌, ◌↔◌, List, [], ◌∷◌, length}
use Rattle.san_law.specs.Network.{Limits, Network, net_of, part_at}
use Rattle.san_law.specs.State.{State}
use Rattle.san_law.specs.Step.{Event, Happened, Stepped, step}
use Rattle.san_law.specs.Trajectory.{Runs}
use Rattle.san_legal.specs.Draws.{AreDraws}
use Rattle.san_legal.specs.Locality.{IsSized}

-- the number of an activity among all tells its leaf and its number there, so that no two have a stream in common
pub record HasOwnStreams (network : Network) : Type 0 where
  pub leaf_of : ℕ → ℕ
  pub act_of : ℕ → ℕ
  pub leaf : (j k : ℕ) → k < length (part_at network j).activities → leaf_of ((part_at network j).first + k) ≡ j
  pub act : (j k : ℕ) → k < length (part_at network j).activities → act_of ((part_at network j).first + k) ≡ k

-- a step with some draws
pub record IsFreeStep (network : Network) (limits : Limits) (s : State) (x : Stepped × State) : Type 0 where
  pub draw : ℕ → ℕ → ℕ
  pub words : AreDraws draw
  pub is : step (net_of draw network limits) s ≡ x

-- steps, each with draws of its own, from a state with just these events to another
abbrev pub FreeRuns : Network → Limits → State → List Event → State → Type 0
FreeRuns network limits s [] t = s ≡ t
FreeRuns network limits s (e ∷ es) t = (u : State) × IsFreeStep network limits s (Happened e, u) × FreeRuns network limits u es t

-- with some draws a run has these events, comes to this state, and there its next step comes to this
pub record IsOfDraws (network : Network) (limits : Limits) (s : State) (es : List Event) (t : State) (x : Stepped × State) : Type 0 where
  pub draw : ℕ → ℕ → ℕ
  pub words : AreDraws draw
  pub runs : Runs (net_of draw network limits) s es t
  pub next : step (net_of draw network limits) t ≡ x

-- free runs are those of some draws, the same for all steps
abbrev pub FreeRunsAreOfDraws : Network → Type 0
FreeRunsAreOfDraws network = (limits : Limits) (s t : State) (es : List Event) (x : Stepped × State) → IsSized network s
    → (FreeRuns network limits s es t × IsFreeStep network limits t x) ↔ IsOfDraws network limits s es t x
