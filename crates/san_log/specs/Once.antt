-- Entries of different places.
use Rattle.std.specs.Prelude.{◌≡◌, ◌≤◌, List, [], ◌∷◌, None, All}
use Rattle.san_base.specs.declared.limits.TheConstants.{MAX_TOKENS}
use Rattle.san_log.specs.Logs.{Entry, find}

-- no place stands twice
abbrev pub AreOnce : List Entry → Type 0
AreOnce [] = Unit {0}
AreOnce (e ∷ es) = (find e.0.0 es ≡ None) × AreOnce es

-- no place twice, and each value a number of tokens
pub record AreNoted (es : List Entry) : Type 0 where
  pub once : AreOnce es
  pub small : All (λ e. e.1 ≤ MAX_TOKENS) es
