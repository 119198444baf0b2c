-- A place's value and a piece's kind in code, as the law says them.
use Rattle.std.specs.Prelude.{ℕ, ◌-◌}
use Rattle.san_base.specs.declared.numbers.PlaceId.{PlaceId}
use Rattle.san_base.specs.declared.piece.Kind.{Kind}
use Rattle.san_base.specs.declared.piece.Kind.TheVariants as kind
use Rattle.san_law.specs.Piece as law

abbrev pub pair_in : PlaceId × ℕ → ℕ × ℕ
pair_in x = (x.0.0, x.1)

-- a leaf numbers its activities from 0 on, a network from its first one's number
abbrev pub kind_in : ℕ → Kind → law.Kind
kind_in first (kind.Fire act) = law.Fire (act.0 - first)
kind_in first kind.Settle = law.Settle
kind_in first kind.Refresh = law.Refresh
