-- The command lines of the programs, as simple commands of clap: options alone, each of which sets one whole number in its range.
use Rattle.std.specs.Prelude.{◌≡◌, List, [], ℕ, codes, true}
use Rattle.clap.specs.Walk.{Text}
use Rattle.clap.specs.Simple.{App, new_app, with_rule, on_top}
use Rattle.clap.specs.Faults.{fault_of}
use Rattle.san_words.specs.Options.{number_rule}
use Rattle.san_words.specs.declared.options.NumberOption.{NumberOption}
use Rattle.san_words.specs.declared.options.NumberOption.TheVariants.{BatchWorkers, Burst, Events, FirstRuns, Horizon, Kind, Least, Make, Place, Rollbacks, Runs, Seed, Window, Workers}

-- no help, and the words are those after the program's name
abbrev pub bare : List ℕ → App
bare name = on_top (λ s. record s { no_binary_name = true; disable_help_flag = true }) (new_app name)

-- how far a run may go
abbrev pub with_limits : App → App
with_limits app = with_rule (with_rule (with_rule app (number_rule Horizon)) (number_rule Burst)) (number_rule Events)

-- a run's seed and how far it may go, for each program
abbrev pub with_bounds : App → App
with_bounds app = with_limits (with_rule app (number_rule Seed))

-- which model is generated, if one is
abbrev pub with_model : App → App
with_model app = with_rule (with_rule app (number_rule Make)) (number_rule Kind)

-- how many runs, and in how many threads
abbrev pub with_runs : NumberOption → App → App
with_runs runs app = with_rule (with_rule app (number_rule runs)) (number_rule BatchWorkers)

-- which place is looked at, and for which value
abbrev pub with_place : App → App
with_place app = with_rule (with_rule app (number_rule Place)) (number_rule Least)

unfoldable pub run_app : App
run_app = with_rule (with_rule (with_rule (with_model (with_bounds (bare (codes "sanrun")))) (number_rule Workers)) (number_rule Window)) (number_rule Rollbacks)

unfoldable pub plain_app : App
plain_app = with_model (with_bounds (bare (codes "sanplain")))

unfoldable pub batch_app : App
batch_app = with_runs Runs (with_bounds (bare (codes "sanbatch")))

unfoldable pub first_app : App
first_app = with_runs FirstRuns (with_place (with_bounds (bare (codes "sanfirst"))))

-- the command takes the words
abbrev pub IsTaken : App → List Text → Type 0
IsTaken app words = fault_of app words ≡ []
