-- The code's table of options beside the defined one.
use Rattle.std.specs.Prelude.{◌≡◌, ℕ, Option, None, Some}
use Rattle.std.specs.Fmt.{decimal}
use Rattle.std.specs.Option.{option_map}
use Rattle.san_words.specs.Options.{Row}
use Rattle.san_words.specs.declared.options.DefaultNumber.{DefaultNumber}
use Rattle.san_words.specs.declared.options.OptionRow.{OptionRow}

pub record IsRow (row : Row) (r : OptionRow) : Type 0 where
  pub name : r.name.now ≡ row.name
  pub range : r.range ≡ row.range
  pub required : r.required ≡ row.required
  pub number : option_map (λ d. d.number) r.default ≡ row.default
  pub text : option_map (λ d. d.text.now) r.default ≡ option_map decimal row.default

abbrev pub default_of : Option DefaultNumber → ℕ
default_of None = 0
default_of (Some d) = d.number
