-- What is known of a network is a proposition: it is so in one way at most.
use Rattle.std.proofs.Common.{ℕ, Option, None, Some}
use Rattle.std.proofs.Props.{props}
use Rattle.std.specs.Coded.{Unit-prop}
use Rattle.san_delay.specs.Sound.{IsSoundDelay}
use Rattle.san_expr.specs.declared.dist.Dist.{Dist}
use Rattle.san_expr.specs.declared.dist.Dist.TheVariants as dist
use Rattle.san_net.specs.Accepted.{IsAcceptedInput, IsAcceptedKind, IsAcceptedOutput}
use Rattle.san_net.specs.Laid.{IsInterval, IsNetwork, IsSpan, IsTagged, TakesImpulses}
use Rattle.san_net.specs.Network.{Network}
use Rattle.san_net.specs.declared.activity.ActKind.{ActKind}
use Rattle.san_net.specs.declared.activity.ActKind.TheVariants as kind
use Rattle.san_net.specs.declared.activity.Input.{Input}
use Rattle.san_net.specs.declared.activity.Input.TheVariants as input
use Rattle.san_net.specs.declared.activity.Output.{Output}
use Rattle.san_net.specs.declared.activity.Output.TheVariants as output
use Rattle.san_net.specs.declared.part.Reward.{Reward}
use Rattle.san_net.specs.declared.part.Slot.{Slot}
use Rattle.san_net.specs.declared.part.Slot.TheVariants as slot
use Rattle.san_net.specs.declared.part.Span.{Span}
use Rattle.san_net.specs.declared.part.Span.TheVariants as span

sound-prop : (d : Dist) → IsProp (IsSoundDelay d)
sound-prop (dist.Det e) = Unit-prop
sound-prop (dist.Uniform low high) = Unit-prop
sound-prop (dist.Geom p q) = Prim.hlevel props
sound-prop (dist.Table entries) = Prim.hlevel props

kind-prop : (k : ActKind) → IsProp (IsAcceptedKind k)
kind-prop (kind.Timed delay pair) = sound-prop delay
kind-prop (kind.Instant priority) = Prim.hlevel props

input-prop : (i : Input) → IsProp (IsAcceptedInput i)
input-prop (input.Arc p w) = Prim.hlevel props
input-prop (input.Gate e body) = Unit-prop

output-prop : (o : Output) → IsProp (IsAcceptedOutput o)
output-prop (output.Arc p w) = Prim.hlevel props
output-prop (output.Body body) = Unit-prop

tagged-prop : (shared : ℕ) (s : Slot) → IsProp (IsTagged shared s)
tagged-prop shared (slot.Private place) = Prim.hlevel props
tagged-prop shared (slot.Shared place) = Prim.hlevel props

span-prop : (s : Span) → IsProp (IsSpan s)
span-prop (span.Over from to) = Prim.hlevel props
span-prop (span.Mean from to) = Prim.hlevel props
span-prop (span.At tick) = Prim.hlevel props

interval-prop : (s : Span) → IsProp (IsInterval s)
interval-prop (span.Over from to) = Unit-prop
interval-prop (span.Mean from to) = Unit-prop
interval-prop (span.At tick) = Prim.hlevel props

impulses-prop : (r : Option Reward) → IsProp (TakesImpulses r)
impulses-prop None = Unit-prop
impulses-prop (Some r) = interval-prop r.span

ruleset all = (props, kind-prop, input-prop, output-prop, tagged-prop, span-prop, impulses-prop)

pub network-prop : (n : Network) → IsProp (IsNetwork n)
network-prop n = Prim.hlevel all
