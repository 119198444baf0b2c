-- The table of the options. Each sets one whole number in its range, and some have a default.
use Rattle.std.specs.Prelude.{ℕ, nat_eq, cond, Bool, false, true, List, [], ◌∷◌, Option, None, Some, codes, pos, unwrap_or}
use Rattle.std.specs.Fmt.{decimal}
use Rattle.std.specs.Option.{option_map}
use Rattle.clap.specs.Walk.{Rule}
use Rattle.clap.specs.Simple.{new_rule}
use Rattle.clap.specs.declared.builder.action.ArgAction.TheVariants as action
use Rattle.clap.specs.declared.builder.value_parser.ValueParser.{ValueParser}
use Rattle.clap.specs.declared.builder.value_parser.ValueParser.TheVariants as parser
use Rattle.san_base.specs.declared.limits.TheConstants.{MAX_BURST, MAX_EVENTS, MAX_HORIZON, MAX_ROLLBACKS, MAX_TOKENS, MAX_WINDOW, MAX_WORKERS}
use Rattle.san_gen.specs.declared.model.TheConstants.{MAX_COPIES, MIN_COPIES}
use Rattle.san_gen.specs.declared.model.ModelKind.{ModelKind}
use Rattle.san_gen.specs.declared.model.ModelKind.TheVariants.{Farm, Ring}
use Rattle.san_summary.specs.declared.batch.TheConstants.{MAX_RUNS}
use Rattle.san_words.specs.declared.options.TheConstants.{DEFAULT_BURST, DEFAULT_EVENTS, DEFAULT_KIND, DEFAULT_ROLLBACKS, DEFAULT_RUNS, DEFAULT_WINDOW, DEFAULT_WORKERS, FARM_NUMBER, LAST_PLACE, RING_NUMBER}
use Rattle.san_words.specs.declared.options.NumberOption.{NumberOption}
use Rattle.san_words.specs.declared.options.NumberOption.TheVariants.{Seed, Horizon, Burst, Events, Workers, Window, Rollbacks, Make, Kind, Runs, BatchWorkers, Place, Least, FirstRuns}
use Rattle.san_words.specs.declared.options.NumberRange.{NumberRange}
use Rattle.san_words.specs.declared.options.NumberRange.TheVariants.{Unsigned, Signed}

-- what an option is called, the numbers that it takes, whether it must be there, and the number that it has where it isn't, if any
pub record Row : Type 0 where
  pub name : List ℕ
  pub range : NumberRange
  pub required : Bool
  pub default : Option ℕ

-- one that must be there
abbrev pub required : List ℕ → NumberRange → Row
required name range = record { name = name; range = range; required = true; default = None }

abbrev pub optional : List ℕ → NumberRange → ℕ → Row
optional name range n = record { name = name; range = range; required = false; default = Some n }

-- one that may be missing, and then sets nothing
abbrev pub unset : List ℕ → NumberRange → Row
unset name range = record { name = name; range = range; required = false; default = None }

abbrev pub row_of : NumberOption → Row
row_of Seed = required (codes "seed") (Unsigned 0 18446744073709551615)
row_of Horizon = required (codes "horizon") (Unsigned 0 MAX_HORIZON)
row_of Burst = optional (codes "burst") (Signed 1 MAX_BURST) DEFAULT_BURST
row_of Events = optional (codes "events") (Unsigned 1 MAX_EVENTS) DEFAULT_EVENTS
row_of Workers = optional (codes "workers") (Signed 0 MAX_WORKERS) DEFAULT_WORKERS
row_of Window = optional (codes "window") (Signed 1 MAX_WINDOW) DEFAULT_WINDOW
row_of Rollbacks = optional (codes "rollbacks") (Unsigned 0 MAX_ROLLBACKS) DEFAULT_ROLLBACKS
row_of Make = unset (codes "make") (Signed MIN_COPIES MAX_COPIES)
row_of Kind = optional (codes "kind") (Signed FARM_NUMBER RING_NUMBER) DEFAULT_KIND
row_of Runs = required (codes "runs") (Signed 1 MAX_RUNS)
row_of BatchWorkers = optional (codes "workers") (Signed 1 MAX_WORKERS) DEFAULT_WORKERS
row_of Place = required (codes "place") (Signed 0 LAST_PLACE)
row_of Least = required (codes "least") (Signed 0 MAX_TOKENS)
row_of FirstRuns = optional (codes "runs") (Signed 1 MAX_RUNS) DEFAULT_RUNS

-- the kind of a generated model, by its number
abbrev pub kind_of : ℕ → ModelKind
kind_of number = cond (nat_eq number FARM_NUMBER) Farm Ring

abbrev pub least_of : NumberRange → ℕ
least_of (Unsigned least most) = least
least_of (Signed least most) = least

abbrev pub most_of : NumberRange → ℕ
most_of (Unsigned least most) = most
most_of (Signed least most) = most

-- the number where the option isn't there; 0 stands for none
abbrev pub default_in : Row → ℕ
default_in row = unwrap_or row.default 0

abbrev pub parser_of : NumberRange → ValueParser
parser_of (Unsigned least most) = parser.Unsigned least most
parser_of (Signed least most) = parser.Signed (pos least) (pos most)

-- by the text of its default
abbrev pub with_default : Option (List ℕ) → Rule → Rule
with_default None rule = rule
with_default (Some text) rule = record rule { defaults = text ∷ [] }

abbrev pub rule_by : Row → Rule
rule_by row = with_default (option_map decimal row.default) (record (new_rule row.name) { long = Some row.name; action = Some action.Set; parser = Some (parser_of row.range); required = row.required })

-- what clap is given of an option
abbrev pub number_rule : NumberOption → Rule
number_rule option = rule_by (row_of option)
