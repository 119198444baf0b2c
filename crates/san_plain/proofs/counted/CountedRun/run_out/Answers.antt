use Rattle.std.proofs.Common.{◌++◌, ◌∷◌, ◌<◌, [], refl, subst, sym}
use Rattle.san_net.specs.Laid.{acts_of}
use Rattle.san_net.specs.Network.{Network}
use Rattle.san_plain.specs.inner.Progress.{opened_by}
use Rattle.san_plain.proofs.OpenedLemmas.{stands}
use Rattle.san_plain.proofs.counted.CountedRun.run_out.Goals as goal

pub steps-init : goal.steps-init
steps-init c = ([], _, stands c.args.self.now c.requires.known c.requires.opened, refl)

pub steps-preserved : goal.steps-preserved
steps-preserved c =
    let i = c.steps.invariant in
    let o = opened_by c.args.self.now in
    let h = c.in-Ok.ensures o i.0 i.1 i.2 in
    (i.0 ++ h.happened ∷ [], _, h.stands, (i.0, h.happened, refl, sym i.2.many, h.event_is, subst (λ (n : Network). c.in-Ok.event.act.0 < acts_of n.parts) h.stands.of_network h.inside))

pub steps-smaller : goal.steps-smaller
steps-smaller c =
    let i = c.steps.invariant in
    (c.in-Ok.ensures (opened_by c.args.self.now) i.0 i.1 i.2).fewer

pub returns-in-Err : goal.returns-in-Err
returns-in-Err c =
    let i = c.steps.invariant in
    let o = opened_by c.args.self.now in
    record {
      events = i.0;
      state = i.1;
      before = c.steps.self;
      stands = i.2;
      ends = c.in-Err.ensures o i.0 i.1 i.2;
      last = i.3;
    }
