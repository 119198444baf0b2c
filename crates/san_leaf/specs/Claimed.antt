-- What a piece is made from, and what its log has of a marking that is read.
use Rattle.std.specs.Prelude.{ℕ, ◌≡◌, List, Option, Some, None}
use Rattle.san_base.specs.declared.piece.Kind.{Kind}
use Rattle.san_law.specs.Piece.{LeafState}
use Rattle.san_net.specs.declared.part.Part.{Part}
use Rattle.san_leaf.specs.Pieces.{AgreesWith, PieceValue}

-- a log has the values of a marking that is read
abbrev pub IsReadFrom : Option (List ℕ) → List (ℕ × ℕ) → Type 0
IsReadFrom None log = Unit {0}
IsReadFrom (Some m) log = AgreesWith log m

-- a claim, as contracts see it
pub record Claimed : Type 0 where
  pub part : Part
  pub seed : ℕ
  pub kind : Kind
  pub base : LeafState
  pub time : ℕ

pub record IsMadeFor (c : Claimed) (p : PieceValue) : Type 0 where
  pub part : p.part ≡ c.part
  pub seed : p.seed ≡ c.seed
  pub kind : p.kind ≡ c.kind
  pub base : p.base ≡ c.base
  pub time : p.time ≡ c.time

-- what a piece was made for
abbrev pub claim_of : PieceValue → Claimed
claim_of p = record { part = p.part; seed = p.seed; kind = p.kind; base = p.base; time = p.time }
