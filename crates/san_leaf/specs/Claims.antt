-- A claim as contracts see it.
use Rattle.san_leaf.specs.Claimed.{Claimed}
use Rattle.san_leaf.specs.declared.piece.Claim.{Claim}

abbrev pub claimed : Claim → Claimed
claimed c = record { part = c.part; seed = c.seed; kind = c.kind; base = c.base; time = c.time.0 }
