use Rattle.std.proofs.Common.{◌∙◌, ap, sym, Option}
use Rattle.san_base.specs.declared.ending.Ending.{Ending}
use Rattle.san_draw.specs.Key.{draw_of}
use Rattle.san_net.specs.Network.{net_of}
use Rattle.san_seq.specs.FlatRun.{run_phase_of, stable_in, stable_of, where_stable}
use Rattle.san_net.specs.Runs.{limits_in}
use Rattle.san_seq.proofs.HeldLemmas.{goes_on}
use Rattle.san_seq.proofs.seq.Seq.stable.Goals as goal

pub next_of-next-requires-clause-known : goal.next_of-next-requires-clause-known
next_of-next-requires-clause-known c =
    (goes_on c.self.inside.flat.now c.self.inside.limits c.self.inside.streams.streams c.self.inside.wakes c.self.inside.stale c.self.inside.state c.self.inside.over c.self.invariant c.in-None.is).1

pub next_of-next-requires-clause-last : goal.next_of-next-requires-clause-last
next_of-next-requires-clause-last c =
    (goes_on c.self.inside.flat.now c.self.inside.limits c.self.inside.streams.streams c.self.inside.wakes c.self.inside.stale c.self.inside.state c.self.inside.over c.self.invariant c.in-None.is).0.last

pub next_of-next-requires-clause-present : goal.next_of-next-requires-clause-present
next_of-next-requires-clause-present c =
    (goes_on c.self.inside.flat.now c.self.inside.limits c.self.inside.streams.streams c.self.inside.wakes c.self.inside.stale c.self.inside.state c.self.inside.over c.self.invariant c.in-None.is).0.marking

pub next_of-next-requires-clause-stable : goal.next_of-next-requires-clause-stable
next_of-next-requires-clause-stable c =
    (goes_on c.self.inside.flat.now c.self.inside.limits c.self.inside.streams.streams c.self.inside.wakes c.self.inside.stale c.self.inside.state c.self.inside.over c.self.invariant c.in-None.is).0.stable

pub returns-in-None : goal.returns-in-None
returns-in-None c =
    let r = c.self.inside in
    let draw = draw_of r.streams.seed in
    let net = net_of r.flat.now draw (limits_in r.limits) in
    c.where_stable.ensures
    ∙ (ap (λ next. where_stable next r.state) (c.next_of-next.ensures draw (limits_in r.limits))
    ∙ (ap (λ (o : Option Ending). stable_in net (run_phase_of r.state o)) (sym c.in-None.is)
    ∙ ap stable_of c.self.view_is))

pub returns-in-Some : goal.returns-in-Some
returns-in-Some c =
    let r = c.self.inside in
    let net = net_of r.flat.now (draw_of r.streams.seed) (limits_in r.limits) in
    ap (λ (o : Option Ending). stable_in net (run_phase_of r.state o)) (sym c.in-Some.is) ∙ ap stable_of c.self.view_is
