-- What a command finds in words.
use Rattle.std.specs.Prelude.{◌≡◌, List, Result, Ok, Err}
use Rattle.clap.specs.Matches.{found_of, one_text}
use Rattle.clap.specs.declared.parser.matches.ArgMatches.{ArgMatches}
use Rattle.clap.specs.Simple.{App}
use Rattle.clap.specs.Walk.{Text}
use Rattle.san_words.specs.Commands.{IsTaken}
use Rattle.san_words.specs.Hears.{texts_of}
use Rattle.san_words.specs.declared.matches.Unheard.{Unheard}
use Rattle.san_words.specs.declared.matches.Unheard.TheVariants as unheard

-- what a command finds in words, or why it finds nothing
abbrev pub Finds : App → List Text → Result ArgMatches Unheard → Type 0
Finds app words (Ok m) = IsTaken app words × ((id : Text) → one_text (found_of m) id ≡ texts_of app words id)
Finds app words (Err unheard.Refused) = IsTaken app words → ⊥
Finds app words (Err unheard.NoMemory) = Unit {0}
