-- How far a walk has come.
use Rattle.std.specs.Prelude.{ℕ, suc, [], ◌∷◌, min, Option, Some, None}
use Rattle.san_check.specs.declared.limits.TheConstants.{MAX_COUNT}
use Rattle.san_check.specs.declared.walk.Fault.{Fault}
use Rattle.san_check.specs.declared.walk.Walk.{Walk}
use Rattle.san_check.specs.walk.Entries.{Entries}

abbrev pub kept : Option Fault → Option ℕ → ℕ → Option Fault
kept (Some fault) entry word = Some fault
kept None None word = None
kept None (Some number) word = Some (record { code = number; word = word })

-- a walk after one more word, of which those up to the greatest count are counted
unfoldable pub seen : Walk → Option ℕ → Walk
seen walk entry = record { words = min (suc walk.words) MAX_COUNT; fault = kept walk.fault entry walk.words }

-- a walk after so many more words
abbrev pub seen_all : Walk → Entries → Walk
seen_all walk [] = walk
seen_all walk (entry ∷ entries) = seen_all (seen walk entry) entries
