-- Values that are known of some cells.
use Rattle.std.specs.Prelude.{ℕ, ◌≤◌, Option, IfSome}
use Rattle.san_base.specs.declared.limits.TheConstants.{MAX_TOKENS}

-- what is known of a cell is a number of tokens
abbrev pub IsSmall : Option ℕ → Type 0
IsSmall x = IfSome x (λ v. v ≤ MAX_TOKENS)
