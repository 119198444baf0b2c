-- A network of parts, and the net of the law that it is for given draws and limits.
use Rattle.std.specs.Prelude.{ℕ, ◌+◌, false, true, List, map}
use Rattle.san_law.specs.Net.{Net}
use Rattle.san_law.specs.Net as net
use Rattle.san_law.specs.Network as law
use Rattle.san_net.specs.Leaf.{leaf_of}
use Rattle.san_net.specs.declared.part.Part.{Part}
use Rattle.san_net.specs.declared.part.Reward.{Reward}
use Rattle.san_net.specs.declared.part.Span.{Span}
use Rattle.san_net.specs.declared.part.Span.TheVariants as span

-- the leaves in order with their paths, the places' initial values, the number of shared places, the rewards
pub record Network : Type 0 where
  pub parts : List Part
  pub paths : List (List ℕ)
  pub initial : List ℕ
  pub shared : ℕ
  pub rewards : List Reward

abbrev pub network_of : List Part → List (List ℕ) → List ℕ → ℕ → List Reward → Network
network_of parts paths initial shared rewards = record { parts = parts; paths = paths; initial = initial; shared = shared; rewards = rewards }

-- from the first tick to before the second; `At` counts one tick
abbrev pub span_in : Span → net.Span
span_in (span.Over from to) = record { from = from.0; to = to.0; mean = false }
span_in (span.Mean from to) = record { from = from.0; to = to.0; mean = true }
span_in (span.At tick) = record { from = tick.0; to = tick.0 + 1; mean = false }

abbrev pub network_in : Network → law.Network
network_in n = record { parts = map leaf_of n.parts; shared = n.shared; initial = n.initial; spans = map (λ r. span_in r.span) n.rewards }

-- the network's run, its pieces and their law are those of this net, for draws by stream and number
abbrev pub net_of : Network → (ℕ → ℕ → ℕ) → law.Limits → Net
net_of n draw limits = law.net_of draw (network_in n) limits
