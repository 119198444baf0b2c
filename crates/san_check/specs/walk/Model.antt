-- The whole text: an entry for each word of a syntax.
use Rattle.std.specs.Prelude.{[], ◌∷◌, ◌++◌, None, Option}
use Rattle.san_text.specs.declared.syntax.Syntax.{Syntax}
use Rattle.san_check.specs.declared.walk.Fault.{Fault}
use Rattle.san_check.specs.walk.Entries.{Entries, first_fault}
use Rattle.san_check.specs.walk.Composition.{models_entries, all_models, model_code}
use Rattle.san_check.specs.walk.Reward.{rewards_entries}

unfoldable pub syntax_entries : Syntax → Entries
syntax_entries s = None ∷ (models_entries [] 0 s.models ++ (model_code (all_models [] s.models) s.system ∷ rewards_entries (all_models [] s.models) [] 0 s.rewards))

-- the first word at which a code holds, with the least code there
abbrev pub syntax_fault : Syntax → Option Fault
syntax_fault s = first_fault 0 (syntax_entries s)
