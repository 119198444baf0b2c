-- A piece's completions, from what is recorded of its events and impulses.
use Rattle.std.specs.Prelude.{ℕ, ◌+◌, nat_eq, List, [], ◌∷◌, map, filter}
use Rattle.san_base.specs.Rated.{term_value}
use Rattle.san_law.specs.Block.{Completion}
use Rattle.san_law.specs.Net as net
use Rattle.san_leaf.specs.declared.recorder.Impulse.{Impulse}

abbrev pub impulse_in : Impulse → net.Impulse
impulse_in x = record { reward = x.reward; rated = term_value x.rated }

-- the impulses of an event, by its number
abbrev pub impulses_at : ℕ → List Impulse → List net.Impulse
impulses_at i impulses = map impulse_in (filter (λ x. nat_eq x.event i) impulses)

-- activities and cases, numbered from i on
abbrev pub completions_from : ℕ → List (ℕ × ℕ) → List Impulse → List Completion
completions_from i [] impulses = []
completions_from i (e ∷ events) impulses = record { act = e.0; case = e.1; impulses = impulses_at i impulses } ∷ completions_from (i + 1) events impulses
