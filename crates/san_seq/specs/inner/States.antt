-- The completion of a leaf's activity in a state, as the law says it.
use Rattle.std.specs.Prelude.{ℕ, ◌+◌}
use Rattle.san_law.specs.Network.{Limits}
use Rattle.san_law.specs.State.{State, local_of}
use Rattle.san_law.specs.Step as law
use Rattle.san_net.specs.Network.{Network, net_of}

-- the law's completion of a leaf's activity in a state
abbrev pub complete_in : Network → (ℕ → ℕ → ℕ) → Limits → State → ℕ → ℕ → ℕ → law.Stepped × State
complete_in n draw limits s burst j k = law.complete (net_of n draw limits) s burst j k ((net_of n draw limits).done j k (local_of (net_of n draw limits) s j))

-- the law's completion of an instantaneous activity within both limits
abbrev pub instant_in : Network → (ℕ → ℕ → ℕ) → Limits → State → ℕ → ℕ → law.Stepped × State
instant_in n draw limits s j k = law.unless_over s (law.limit_at (net_of n draw limits) s.burst s.count) (complete_in n draw limits s (s.burst + 1) j k)
