-- What an order answers, and what a piece is made from.
use Rattle.std.specs.Prelude.{ℕ, ◌≡◌, List, Option, Some, None, slice_get}
use Rattle.san_law.specs.Core.{leaf_of}
use Rattle.san_law.specs.Order.{Order, need_of}
use Rattle.san_law.specs.Step.{Ending}
use Rattle.san_leaf.specs.Claimed.{Claimed}
use Rattle.san_leaf.specs.Pieces.{AgreesWith, PieceValue}
use Rattle.san_net.specs.Network.{Network}
use Rattle.san_net.specs.declared.part.Part.{Part}
use Rattle.san_turn.specs.Needs.{need_in}
use Rattle.san_turn.specs.declared.need.Need.{Need}
use Rattle.san_turn.specs.declared.need.Need.TheVariants as need
use Rattle.san_core.specs.Committed.{CommittedValue}
use Rattle.san_core.specs.declared.admission.Taking.{Taking}

-- what an order answers, unless there is a stop
abbrev pub need_given : List ℕ → ℕ → Order → Option Ending → Need
need_given firsts horizon order (Some e) = need.End
need_given firsts horizon order None = need_in firsts (need_of horizon order)

-- what the needed piece is claimed from
abbrev pub claim_from : CommittedValue → ℕ → Taking → Part → Claimed
claim_from v seed t p = record { part = p; seed = seed; kind = t.kind; base = leaf_of v.core t.leaf.0; time = t.time.0 }

-- a piece that was made from the committed part
pub record IsMadeFrom (n : Network) (v : CommittedValue) (seed : ℕ) (t : Taking) (p : PieceValue) : Type 0 where
  pub seed_is : p.seed ≡ seed
  pub part : slice_get n.parts t.leaf.0 ≡ Some p.part
  pub kind_is : p.kind ≡ t.kind
  pub base : p.base ≡ leaf_of v.core t.leaf.0
  pub time_is : p.time ≡ t.time.0
  pub log : AgreesWith p.log v.core.shared
