-- What writing pieces into a sink does, and what its answers mean.
use Rattle.std.specs.Prelude.{ℕ, ◌<◌, ◌≤◌, Bool, List, Option, MatchBool}
use Rattle.san_base.specs.Flow.{Appends, AppendsPrefix, CountRose}
use Rattle.san_base.specs.declared.ending.Ending.{Ending}
use Rattle.san_base.specs.declared.ending.Ending.TheVariants as ending
use Rattle.san_base.specs.declared.ending.Stop.{Stop}
use Rattle.san_base.specs.declared.ending.Stop.TheVariants as stop
use Rattle.san_net.specs.Laid.{acts_of}
use Rattle.san_net.specs.Network.{Network}

-- all of these bytes were appended, or a prefix of them was and the count of faults rose
pub record Wrote (done : Bool) (old new : Option (List ℕ)) (before now : ℕ) (bytes : List ℕ) : Type 0 where
  pub bytes_put : MatchBool done (Appends old new bytes) (AppendsPrefix old new bytes)
  pub cause : MatchBool done (Unit {0}) (CountRose before now)
  pub later : before ≤ now

-- a trap is one of the network's activities
abbrev pub StopsIn : Network → Stop → Type 0
StopsIn n (stop.Unstable time) = Unit {0}
StopsIn n (stop.Events time) = Unit {0}
StopsIn n (stop.Trap kind time act) = act.0 < acts_of n.parts

abbrev pub EndsIn : Network → Ending → Type 0
EndsIn n (ending.End horizon) = Unit {0}
EndsIn n (ending.Stop why) = StopsIn n why
