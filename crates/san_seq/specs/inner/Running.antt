-- What holds of a run's state between its steps, and what a step comes to.
use Rattle.std.specs.Prelude.{ℕ, ◌≡◌, ◌≤◌, ◌<◌, List, length, Some, Result, All, IfOk}
use Rattle.san_base.specs.declared.ending.Ending.{Ending}
use Rattle.san_base.specs.declared.ending.Event.{Event}
use Rattle.san_base.specs.declared.limits.Limits.{Limits}
use Rattle.san_law.specs.Net.{Row}
use Rattle.san_law.specs.State.{State}
use Rattle.san_law.specs.Step as law
use Rattle.san_net.specs.Network.{Network}
use Rattle.san_seq.specs.inner.Rows.{AreDrawn, AreRows, row_at}
use Rattle.san_seq.specs.Outcomes.{event_or_ending}

-- no case draw's number is greater
abbrev pub AreCounted : ℕ → List Row → Type 0
AreCounted most rows = (j : ℕ) → All (λ n. n ≤ most) (row_at rows j).cases

-- a state of a run of a network, whose delay draws have numbers of at most so much
pub record IsDrawn (n : Network) (limits : Limits) (most : ℕ) (s : State) : Type 0 where
  pub rows : AreRows n.parts s.rows
  pub delays : AreDrawn most s.rows
  pub cases : AreCounted s.count s.rows
  pub marking : length s.marking ≡ length n.initial
  pub stable : length s.stable ≡ length n.initial
  pub time : s.time ≤ limits.horizon.0
  pub burst : s.burst ≤ limits.burst
  pub count : s.count ≤ limits.events
  pub last : (j : ℕ) → s.last ≡ Some j → j < length n.parts

-- between steps no activity took more draws than there were events
abbrev pub IsRunning : Network → Limits → State → Type 0
IsRunning n limits s = IsDrawn n limits s.count s

-- a state with other rows
abbrev pub with_rows : List Row → State → State
with_rows rows s = record { time = s.time; marking = s.marking; stable = s.stable; rows = rows; burst = s.burst; last = s.last; count = s.count }

-- what is answered and left is that of the law; of a run that is over the marking is left
pub record Steps (n : Network) (now : Result Event Ending) (left : State) (is : law.Stepped × State) : Type 0 where
  pub answered : now ≡ event_or_ending n is.0
  pub leaves : IfOk now (λ e. left ≡ is.1)
  pub marking : left.marking ≡ is.1.marking
