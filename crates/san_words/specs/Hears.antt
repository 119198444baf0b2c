-- What is heard of words.
use Rattle.std.specs.Prelude.{◌≡◌, ◌<◌, ◌≤◌, ◌+◌, ◌^◌, ℕ, Bool, List, min, max, Option, None, Some, IfSome, is_some}
use Rattle.std.specs.Str.Parse.{digits_value, without_leading_plus, IsNumeral}
use Rattle.clap.specs.Simple.{App, matches_of}
use Rattle.clap.specs.Walk.{Text, one_of}
use Rattle.san_base.specs.Limits.{IsInRange}
use Rattle.san_base.specs.declared.limits.Limits.{Limits}
use Rattle.san_base.specs.declared.limits.TheConstants.{MAX_TOKENS, MAX_WORKERS}
use Rattle.san_gen.specs.declared.model.TheConstants.{MAX_COPIES, MIN_COPIES}
use Rattle.san_summary.specs.declared.batch.TheConstants.{MAX_RUNS}
use Rattle.san_words.specs.Commands.{IsTaken, batch_app, first_app}
use Rattle.san_words.specs.Options.{Row, default_in, kind_of, least_of, most_of, row_of}
use Rattle.san_words.specs.declared.options.NumberOption.{NumberOption}
use Rattle.san_words.specs.declared.options.NumberOption.TheVariants.{BatchWorkers, Burst, Events, FirstRuns, Horizon, Kind, Least, Make, Place, Rollbacks, Runs, Seed, Window, Workers}
use Rattle.san_words.specs.declared.orders.BatchOrders.{BatchOrders}
use Rattle.san_words.specs.declared.orders.FirstOrders.{FirstOrders}
use Rattle.san_words.specs.declared.orders.Made.{Made}
use Rattle.san_words.specs.declared.orders.Orders.{Orders}
use Rattle.san_words.specs.declared.orders.Heard.{Heard}
use Rattle.san_words.specs.declared.orders.Heard.TheVariants.{Run, Refused, NoMemory}
use Rattle.san_words.specs.declared.orders.HeardBatch.{HeardBatch}
use Rattle.san_words.specs.declared.orders.HeardBatch.TheVariants as batch
use Rattle.san_words.specs.declared.orders.HeardFirst.{HeardFirst}
use Rattle.san_words.specs.declared.orders.HeardFirst.TheVariants as first

-- digits, perhaps behind a plus, that write a number of 64 bits
abbrev pub IsWritten : Text → Type 0
IsWritten text = IsNumeral 10 (without_leading_plus text) × (digits_value 10 (without_leading_plus text) < 2 ^ 64)

-- the number that is written, or the other one where none is
abbrev pub Says : ℕ → Option Text → ℕ → Type 0
Says other None n = n ≡ other
Says other (Some text) n = (IsWritten text → n ≡ digits_value 10 (without_leading_plus text)) × ((IsWritten text → ⊥) → n ≡ other)

-- a number from the least to the most; a command takes no text that says another
pub record SaysWithin (least most other : ℕ) (text : Option Text) (n : ℕ) : Type 0 where
  pub said : ℕ
  pub says : Says other text said
  pub within : n ≡ max least (min said most)

-- what an option's text is
abbrev pub Texts : Type 0
Texts = Text → Option Text

-- a number that an option sets, by its row
abbrev pub SetsBy : Texts → Row → ℕ → Type 0
SetsBy texts row n = SaysWithin (least_of row.range) (most_of row.range) (default_in row) (texts row.name) n

abbrev pub SetsNumber : Texts → NumberOption → ℕ → Type 0
SetsNumber texts option n = SetsBy texts (row_of option) n

-- the seed and the bounds of a run
pub record BoundsSay (texts : Texts) (seed : ℕ) (limits : Limits) : Type 0 where
  pub seed_said : SetsNumber texts Seed seed
  pub horizon_said : SetsNumber texts Horizon limits.horizon.0
  pub burst_said : SetsNumber texts Burst limits.burst
  pub events_said : SetsNumber texts Events limits.events

-- a model that is generated
pub record MadeSay (texts : Texts) (m : Made) : Type 0 where
  pub copies_said : SetsNumber texts Make m.copies
  pub number : ℕ
  pub kind_said : SetsNumber texts Kind number
  pub of_number : m.kind ≡ kind_of number

-- an option is there
abbrev pub is_given : Texts → NumberOption → Bool
is_given texts option = is_some (texts (row_of option).name)

-- a model is generated just where the option says so
pub record MakeSays (texts : Texts) (make : Option Made) : Type 0 where
  pub given : is_some make ≡ is_given texts Make
  pub said : IfSome make (MadeSay texts)

-- and how it is run ahead
pub record OrdersSay (texts : Texts) (o : Orders) : Type 0 where
  pub bounds : BoundsSay texts o.seed o.limits
  pub make_said : MakeSays texts o.make
  pub window_said : SetsNumber texts Window o.limits.window
  pub rollbacks_said : SetsNumber texts Rollbacks o.limits.rollbacks
  pub workers_said : SetsNumber texts Workers o.workers

-- a run in one thread is never ahead
pub record PlainSay (texts : Texts) (o : Orders) : Type 0 where
  pub bounds : BoundsSay texts o.seed o.limits
  pub make_said : MakeSays texts o.make
  pub window : o.limits.window ≡ default_in (row_of Window)
  pub rollbacks : o.limits.rollbacks ≡ default_in (row_of Rollbacks)
  pub workers : o.workers ≡ 0

-- the texts that a command finds in words
abbrev pub texts_of : App → List Text → Texts
texts_of app words id = one_of id (matches_of app words)

-- the words are taken, and so is what they say; or they aren't taken
abbrev pub Hears : (Texts → Orders → Type 0) → App → List Text → Heard → Type 0
Hears Say app words (Run o) = IsTaken app words × Say (texts_of app words) o
Hears Say app words Refused = IsTaken app words → ⊥
Hears Say app words NoMemory = Unit {0}

-- a model of so many copies can be generated
abbrev pub CanMake : Option Made → Type 0
CanMake None = Unit {0}
CanMake (Some m) = (MIN_COPIES ≤ m.copies) × (m.copies ≤ MAX_COPIES)

-- what is heard can be run
abbrev pub CanRun : Heard → Type 0
CanRun (Run o) = IsInRange o.limits × (o.workers ≤ MAX_WORKERS) × CanMake o.make
CanRun Refused = Unit {0}
CanRun NoMemory = Unit {0}

-- many runs, whose number an option sets; they are never ahead
pub record RunsSay (option : NumberOption) (texts : Texts) (o : BatchOrders) : Type 0 where
  pub bounds : BoundsSay texts o.seed o.limits
  pub window : o.limits.window ≡ default_in (row_of Window)
  pub rollbacks : o.limits.rollbacks ≡ default_in (row_of Rollbacks)
  pub runs_said : SetsNumber texts option o.runs
  pub workers_said : SetsNumber texts BatchWorkers o.workers

abbrev pub BatchSay : Texts → BatchOrders → Type 0
BatchSay texts o = RunsSay Runs texts o

-- the last run has a seed: run k has the first seed plus k
abbrev pub HasSeeds : BatchOrders → Type 0
HasSeeds o = o.seed + o.runs ≤ 2 ^ 64

-- words that order a batch
abbrev pub IsBatch : List Text → Type 0
IsBatch words = IsTaken batch_app words × ((o : BatchOrders) × BatchSay (texts_of batch_app words) o × HasSeeds o)

abbrev pub HearsBatch : List Text → HeardBatch → Type 0
HearsBatch words (batch.Batch o) = IsTaken batch_app words × BatchSay (texts_of batch_app words) o × HasSeeds o
HearsBatch words batch.Refused = IsBatch words → ⊥
HearsBatch words batch.NoMemory = Unit {0}

-- many runs that can be made
pub record CanRunMany (o : BatchOrders) : Type 0 where
  pub range : IsInRange o.limits
  pub runs : (1 ≤ o.runs) × (o.runs ≤ MAX_RUNS)
  pub workers : (1 ≤ o.workers) × (o.workers ≤ MAX_WORKERS)

abbrev pub CanRunBatch : HeardBatch → Type 0
CanRunBatch (batch.Batch o) = CanRunMany o
CanRunBatch batch.Refused = Unit {0}
CanRunBatch batch.NoMemory = Unit {0}

-- the same up to a marking in which a place has at least a value
pub record FirstSay (texts : Texts) (o : FirstOrders) : Type 0 where
  pub batch_said : RunsSay FirstRuns texts o.batch
  pub place_said : SetsNumber texts Place o.place
  pub least_said : SetsNumber texts Least o.least

-- words that order such runs
abbrev pub IsFirst : List Text → Type 0
IsFirst words = IsTaken first_app words × ((o : FirstOrders) × FirstSay (texts_of first_app words) o × HasSeeds o.batch)

abbrev pub HearsFirst : List Text → HeardFirst → Type 0
HearsFirst words (first.First o) = IsTaken first_app words × FirstSay (texts_of first_app words) o × HasSeeds o.batch
HearsFirst words first.Refused = IsFirst words → ⊥
HearsFirst words first.NoMemory = Unit {0}

abbrev pub CanRunFirst : HeardFirst → Type 0
CanRunFirst (first.First o) = CanRunMany o.batch × (o.least ≤ MAX_TOKENS)
CanRunFirst first.Refused = Unit {0}
CanRunFirst first.NoMemory = Unit {0}
