-- A leaf's places in a marking.
use Rattle.std.specs.Prelude.{ℕ, List, length}
use Rattle.san_law.specs.Lawful.{AllBelow, AreDistinct}

-- the leaf's places are different ones of the marking
pub record LiesOver (places marking : List ℕ) : Type 0 where
  pub apart : AreDistinct places
  pub within : AllBelow places (length marking)
