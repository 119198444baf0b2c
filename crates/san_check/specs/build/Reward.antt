-- The rewards of a syntax, with the numbers of their atomics, and the cells of its atomics.
use Rattle.std.specs.Prelude.{List, [], ◌∷◌, map}
use Rattle.san_text.specs.declared.syntax.ModelDecl.{ModelDecl}
use Rattle.san_text.specs.declared.syntax.ModelDecl.TheVariants as model
use Rattle.san_text.specs.declared.syntax.RewardDecl.{RewardDecl}
use Rattle.san_text.specs.declared.syntax.SpanDecl.{SpanDecl}
use Rattle.san_text.specs.declared.syntax.SpanDecl.TheVariants as decl
use Rattle.san_net.specs.declared.part.Reward.{Reward}
use Rattle.san_net.specs.declared.part.Span.{Span}
use Rattle.san_net.specs.declared.part.Span.TheVariants as span
use Rattle.san_text.specs.declared.syntax.Syntax.{Syntax}
use Rattle.san_check.specs.Tables.{declared}
use Rattle.san_check.specs.walk.Activity.{ActNames}
use Rattle.san_check.specs.build.Composition.{number}

-- the names of the atomics, in the order of declaration
unfoldable pub with_atomic : ActNames → ModelDecl → ActNames
with_atomic atomics (model.Atomic name places acts) = declared atomics name tt
with_atomic atomics (model.Join name children shares) = atomics
with_atomic atomics (model.Rep name of times shares) = atomics

abbrev pub all_atomics : ActNames → List ModelDecl → ActNames
all_atomics atomics [] = atomics
all_atomics atomics (m ∷ ms) = all_atomics (with_atomic atomics m) ms

unfoldable pub span_of : SpanDecl → Span
span_of (decl.Over from to) = span.Over (record { 0 = from }) (record { 0 = to })
span_of (decl.Mean from to) = span.Mean (record { 0 = from }) (record { 0 = to })
span_of (decl.At tick) = span.At (record { 0 = tick })

abbrev pub reward_of : ActNames → RewardDecl → Reward
reward_of atomics r = record { name = r.name; atomic = number atomics r.atomic; span = span_of r.span }

unfoldable pub rewards_of : Syntax → List Reward
rewards_of s = map (reward_of (all_atomics [] s.models)) s.rewards
