-- What the grammar and the tokens give of a syntax that a text parses to.
use Rattle.std.specs.Prelude.{◌≤◌, IsTrue, length, All, Option, Some, None}
use Rattle.san_check.specs.declared.limits.TheConstants.{MAX_COUNT}
use Rattle.san_text.specs.declared.syntax.ActDecl.{ActDecl}
use Rattle.san_text.specs.declared.syntax.Timing.{Timing}
use Rattle.san_text.specs.declared.syntax.Cases.{Cases}
use Rattle.san_text.specs.declared.syntax.Cases.TheVariants as cases
use Rattle.san_text.specs.declared.syntax.DistDecl.{DistDecl}
use Rattle.san_text.specs.declared.syntax.DistDecl.TheVariants as dist
use Rattle.san_text.specs.declared.syntax.ModelDecl.{ModelDecl}
use Rattle.san_text.specs.declared.syntax.ModelDecl.TheVariants as model
use Rattle.san_text.specs.declared.syntax.Syntax.{Syntax}
use Rattle.san_base.specs.Names.{is_name}

-- a table has an entry
abbrev pub IsFormedDist : DistDecl → Type 0
IsFormedDist (dist.Det e) = Unit {0}
IsFormedDist (dist.Uniform a b) = Unit {0}
IsFormedDist (dist.Geom p q) = Unit {0}
IsFormedDist (dist.Table entries) = 1 ≤ length entries

abbrev pub IsFormedTiming : Option Timing → Type 0
IsFormedTiming None = Unit {0}
IsFormedTiming (Some timing) = IsFormedDist timing.delay

-- cases with weights are some, and no more of them than bytes of a text
abbrev pub IsFormedCases : Cases → Type 0
IsFormedCases (cases.Plain outputs) = Unit {0}
IsFormedCases (cases.Weighted list) = (1 ≤ length list) × (length list ≤ MAX_COUNT)

pub record IsFormedAct (act : ActDecl) : Type 0 where
  pub name : IsTrue (is_name act.name)
  pub timing : IsFormedTiming act.timing
  pub cases : IsFormedCases act.cases

abbrev pub IsFormedModel : ModelDecl → Type 0
IsFormedModel (model.Atomic name places acts) = All IsFormedAct acts
IsFormedModel (model.Join name children shares) = All (λ c. IsTrue (is_name c.name)) children
IsFormedModel (model.Rep name of times shares) = Unit {0}

pub record IsFormed (s : Syntax) : Type 0 where
  pub system : IsTrue (is_name s.system)
  pub models : All IsFormedModel s.models
