-- What a block of completions leaves recorded, and the numbers of the activities that it names.
use Rattle.std.specs.Prelude.{ℕ, ◌≡◌, ◌<◌, ◌++◌, ◌∷◌, List, [], Ok, Option, Some, None}
use Rattle.san_expr.specs.Meaning.{Meaning}
use Rattle.san_expr.specs.Meets.{Meets}
use Rattle.san_expr.specs.View.{ViewState}
use Rattle.san_net.specs.declared.first.FirstInstant.{FirstInstant}
use Rattle.san_law.specs.Block as law
use Rattle.san_law.specs.Net.{Row}
use Rattle.san_net.specs.declared.first.FirstInstant.TheVariants as instant
use Rattle.san_leaf.specs.Blocks.{Made, made_before}
use Rattle.san_leaf.specs.inner.Recorded.{Recorded}
use Rattle.san_leaf.specs.declared.block.Close.{Close}
use Rattle.san_leaf.specs.declared.block.Close.TheVariants as close

abbrev pub close_in : Close → law.Close
close_in close.Rests = law.Rests
close_in close.More = law.More
close_in (close.FailsTest k trap) = law.FailsTest k trap
close_in (close.FailsDone k trap) = law.FailsDone k trap

-- the activity that traps has a number below another
abbrev pub ClosesWithin : ℕ → Close → Type 0
ClosesWithin n close.Rests = Unit {0}
ClosesWithin n close.More = Unit {0}
ClosesWithin n (close.FailsTest k trap) = k < n
ClosesWithin n (close.FailsDone k trap) = k < n

-- what is found has one, if anything is
abbrev pub FoundWithin : ℕ → FirstInstant → Type 0
FoundWithin n instant.None = Unit {0}
FoundWithin n (instant.Enabled k) = k < n
FoundWithin n (instant.Trapped k trap) = k < n

-- a row with other numbers of case draws
abbrev pub with_cases : Row → List ℕ → Row
with_cases row cases = record { timers = row.timers; delays = row.delays; cases = cases }

-- completions were made over a view, and recorded
pub record MakesRecorded (block : Meaning Made) (was now : Recorded) (row after : Row) (old new : ViewState) (end : Close) : Type 0 where
  pub made : Made
  pub meets : Meets old new block (Ok made)
  pub recorded : now ≡ record { completions = was.completions ++ made.completions; pending = [] }
  pub counted : after ≡ with_cases row made.cases
  pub closed : close_in end ≡ made.close

-- one completion was made and recorded, and then the block goes on
pub record CompletesOnce (block : (List ℕ → Meaning Made) → Meaning Made) (was now : Recorded) (row after : Row) (old mid : ViewState) : Type 0 where
  pub completion : law.Completion
  pub recorded : now ≡ record { completions = was.completions ++ completion ∷ []; pending = [] }
  pub counted : after ≡ with_cases row after.cases
  pub meets : (go : List ℕ → Meaning Made) (new : ViewState) (made : Made) → Meets mid new (go after.cases) (Ok made) → Meets old new (block go) (Ok (made_before completion made))

-- a turn ends the block, or makes a completion
abbrev pub TakesTurn : ((List ℕ → Meaning Made) → Meaning Made) → Recorded → Recorded → Row → Row → ViewState → ViewState → Option Close → Type 0
TakesTurn block was now row after old new None = CompletesOnce block was now row after old new
TakesTurn block was now row after old new (Some end) = (go : List ℕ → Meaning Made) → MakesRecorded (block go) was now row after old new end
