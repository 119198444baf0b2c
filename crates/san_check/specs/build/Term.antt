-- An atomic's terms of the rewards.
use Rattle.std.specs.Prelude.{ℕ, ◌+◌, cond, List, [], ◌∷◌, ◌++◌}
use Rattle.std.specs.Str.{bytes_eq}
use Rattle.san_text.specs.declared.syntax.RewardDecl.{RewardDecl}
use Rattle.san_text.specs.declared.syntax.TermDecl.{TermDecl}
use Rattle.san_text.specs.declared.syntax.TermDecl.TheVariants as term
use Rattle.san_net.specs.declared.atomic.RateTerm.{RateTerm}
use Rattle.san_net.specs.declared.atomic.ImpulseTerm.{ImpulseTerm}
use Rattle.san_check.specs.build.Cells.{CellTable}
use Rattle.san_check.specs.build.Expression.{expr_of}
use Rattle.san_check.specs.walk.Activity.{ActNames}
use Rattle.san_check.specs.build.Composition.{capped, number}

-- a rate term, if it is one
unfoldable pub rate_in : CellTable → ℕ → TermDecl → List RateTerm
rate_in cells reward (term.Rate e) = record { reward = reward; expr = expr_of cells e } ∷ []
rate_in cells reward (term.Impulse act e) = []

-- an impulse term, if it is one
unfoldable pub impulse_in : CellTable → ActNames → ℕ → TermDecl → List ImpulseTerm
impulse_in cells acts reward (term.Rate e) = []
impulse_in cells acts reward (term.Impulse act e) = record { reward = reward; act = number acts act; expr = expr_of cells e } ∷ []

-- the rate terms of a reward
abbrev pub rates_in : CellTable → ℕ → List TermDecl → List RateTerm
rates_in cells reward [] = []
rates_in cells reward (t ∷ ts) = rate_in cells reward t ++ rates_in cells reward ts

-- its impulse terms
abbrev pub impulses_in : CellTable → ActNames → ℕ → List TermDecl → List ImpulseTerm
impulses_in cells acts reward [] = []
impulses_in cells acts reward (t ∷ ts) = impulse_in cells acts reward t ++ impulses_in cells acts reward ts

-- those of a reward on the atomic of a name
abbrev pub rates_on : CellTable → List ℕ → ℕ → RewardDecl → List RateTerm
rates_on cells name n r = cond (bytes_eq r.atomic name) (rates_in cells n r.terms) []

abbrev pub impulses_on : CellTable → ActNames → List ℕ → ℕ → RewardDecl → List ImpulseTerm
impulses_on cells acts name n r = cond (bytes_eq r.atomic name) (impulses_in cells acts n r.terms) []

-- those of all rewards, behind so many others
abbrev pub all_rates : CellTable → List ℕ → ℕ → List RewardDecl → List RateTerm
all_rates cells name n [] = []
all_rates cells name n (r ∷ rs) = rates_on cells name n r ++ all_rates cells name (capped (n + 1)) rs

abbrev pub all_impulses : CellTable → ActNames → List ℕ → ℕ → List RewardDecl → List ImpulseTerm
all_impulses cells acts name n [] = []
all_impulses cells acts name n (r ∷ rs) = impulses_on cells acts name n r ++ all_impulses cells acts name (capped (n + 1)) rs
