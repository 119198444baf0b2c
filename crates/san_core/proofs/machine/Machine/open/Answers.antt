use Rattle.std.proofs.Common.{arith, ap, sym, subst, ◌∙◌, ◌*◌, [], List}
use Rattle.san_draw.specs.Streams.{Seeded}
use Rattle.san_net.specs.Laid.{acts_of}
use Rattle.san_net.specs.Network.{Network}
use Rattle.san_base.specs.declared.ending.Event.{Event}
use Rattle.san_core.specs.Committed.{CommittedValue}
use Rattle.san_core.specs.Machines.{FollowsRun, machine_by}
use Rattle.san_core.proofs.Following.{opens}
use Rattle.san_core.proofs.machine.Machine.open.Goals as goal

pub invariant_of-result : goal.invariant_of-result
invariant_of-result c = record {
  follows =
      subst (λ (es : List Event). FollowsRun (machine_by c.args.flat c.args.seed c.args.limits c.args.start c.committed-held.result es 0 0)) (sym c.new.ensures.items)
      (subst (λ (v : CommittedValue). FollowsRun (machine_by c.args.flat c.args.seed c.args.limits c.args.start v [] 0 0)) (sym (c.committed-held.ensures ∙ c.in_ok-copy.ensures))
      (opens c.args.flat c.args.seed c.args.limits c.args.start c.requires.limits c.requires.start));
  spare = omega (arith, c.new.ensures.len);
  few = omega arith;
  places_kept = c.in_ok-news.ensures;
  seed = ap (λ (x : Seeded). x.seed) c.in_ok-maker.ensures;
  streams = ap (λ (x : Seeded). x.streams) c.in_ok-maker.ensures ∙ ap (λ (n : Network). 2 * acts_of n.parts) c.get.ensures;
}
