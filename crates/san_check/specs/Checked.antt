-- Which syntaxes are checked.
use Rattle.std.specs.Prelude.{ℕ, ◌≡◌, ◌≤◌, List, length, Ok}
use Rattle.san_text.specs.declared.syntax.Syntax.{Syntax}
use Rattle.san_text.specs.declared.text.Parsed.{Parsed}
use Rattle.san_text.specs.Texts.{parsed}
use Rattle.san_base.specs.declared.limits.TheConstants.{MAX_TEXT_BYTES}

-- some text that is not too long parses to the syntax
pub record IsOfText (s : Syntax) : Type 0 where
  pub text : List ℕ
  pub found : Parsed
  pub short : length text ≤ MAX_TEXT_BYTES
  pub parses : parsed text ≡ Ok found
  pub syntax : found.syntax ≡ s
