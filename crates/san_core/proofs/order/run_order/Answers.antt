use Rattle.std.proofs.Common.{ap, subst, sym, ◌∙◌}
use Rattle.san_draw.specs.Key.{draw_of}
use Rattle.san_net.specs.Network.{Network}
use Rattle.san_net.specs.Runs.{limits_in, net_at}
use Rattle.san_core.specs.Committed.{StartsRun}
use Rattle.san_core.specs.Machines.{opened}
use Rattle.san_core.proofs.WholeRuns.{HasFirst, first_of_run, whole_of_run}
use Rattle.san_core.proofs.order.run_order.Goals as goal

pub open-requires-clause-start : goal.open-requires-clause-start
open-requires-clause-start c =
    subst (λ (n : Network). StartsRun (net_at n c.args.seed c.args.limits) n c.in_ok-start.start) (c.get.ensures ∙ sym c.in_ok-share.ensures) (c.in_ok-start.ensures.starts c.args.seed)

pub into_ran-requires-clause-first : goal.into_ran-requires-clause-first
into_ran-requires-clause-first c =
    first_of_run c.args.flat.now c.args.seed c.args.limits c.in_ok-start.start c.in_ok-machine.machine c.finish.new.self
    (c.in_ok-machine.ensures ∙ ap (λ (n : Network). opened n c.args.seed c.args.limits c.in_ok-start.start) c.in_ok-share.ensures) c.finish.ensures.run
    (subst (λ (n : Network). HasFirst n c.args.seed c.args.limits c.in_ok-start.start) c.get.ensures (c.in_ok-start.ensures.core (draw_of c.args.seed) (limits_in c.args.limits)))

pub returns : goal.returns
returns c =
    whole_of_run c.args.flat.now c.args.seed c.args.limits c.in_ok-start.start c.in_ok-machine.machine c.finish.new.self
    (c.in_ok-machine.ensures ∙ ap (λ (n : Network). opened n c.args.seed c.args.limits c.in_ok-start.start) c.in_ok-share.ensures) c.finish.ensures.run
    c.into_ran.result.events.items c.into_ran.result.ending c.into_ran.result.tally c.into_ran.ensures
