-- The network of leaves with activities, for given draws and limits.
use Rattle.std.specs.Prelude.{ℕ, List, [], map, length, slice_index_or}
use Rattle.san_law.specs.Net.{Net, Span}
use Rattle.san_law.specs.Lawful.{IsLawful}
use Rattle.san_law.specs.Activity.{IsMade, Part, activity_of, completed, first_instant}
use Rattle.san_law.specs.Clocks.{renewed_row, some_pair}

-- the leaves in order, the number of shared places, the initial marking, and the rewards' intervals
pub record Network : Type 0 where
  pub parts : List Part
  pub shared : ℕ
  pub initial : List ℕ
  pub spans : List Span

-- the last tick, and the limits of the burst and of the events
pub record Limits : Type 0 where
  pub horizon : ℕ
  pub burst : ℕ
  pub events : ℕ

-- a part that is not there
abbrev pub no_part : Part
no_part = record { slots = []; first = 0; activities = []; rates = λ v. []; terms = [] }

-- a leaf's part by number
abbrev pub part_at : Network → ℕ → Part
part_at network j = slice_index_or network.parts j no_part

-- draws are given by stream and number
abbrev pub net_of : (ℕ → ℕ → ℕ) → Network → Limits → Net
net_of draw network limits = record {
  parts = map (λ (p : Part). p.slots) network.parts;
  acts = λ j. length (part_at network j).activities;
  shared = network.shared;
  initial = network.initial;
  first = λ j. first_instant (part_at network j);
  done = λ j. completed draw (part_at network j);
  renewed = λ j. renewed_row draw (part_at network j);
  paired = λ j. some_pair (part_at network j).activities;
  rates = λ j. (part_at network j).rates;
  terms = λ j. (part_at network j).terms;
  spans = network.spans;
  horizon = limits.horizon;
  burst = limits.burst;
  limit = limits.events;
}

-- all activities of all leaves are made so
abbrev pub AllMade : Network → Type 0
AllMade network = (j k : ℕ) → IsMade (activity_of (part_at network j) k)

-- what the law asks of leaves, whatever the draws
abbrev pub LeavesAreLawful : Network → Type 0
LeavesAreLawful network = AllMade network → (draw : ℕ → ℕ → ℕ) (limits : Limits) → IsLawful (net_of draw network limits)
