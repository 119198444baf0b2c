use Rattle.std.proofs.Common.{List, ap, length, map, subst, sym, ◌∙◌}
use Rattle.san_speculation.specs.Speculating.{claim_in}
use Rattle.san_speculation.specs.inner.Soonest.{AreLow}
use Rattle.san_speculation.proofs.Soonests.{unknown_low}
use Rattle.san_ahead.specs.Ahead.{nothing}
use Rattle.san_core.specs.Committed.{CommittedValue}
use Rattle.san_net.specs.Network.{Network}
use Rattle.san_speculation.specs.Speculating.{core_by}
use Rattle.san_speculation.specs.declared.step.Step.{Step}
use Rattle.san_speculation.proofs.Speculated.{every_interleaving, is_run, leaves_are, opened_by, opens_replayed}
use Rattle.san_speculation.proofs.speculation.Core.open.Goals as goal

pub invariant_of-result : goal.invariant_of-result
invariant_of-result c =
    let here = is_run c.get.result.now c.args.flat c.get.ensures c.is_network.ensures.network c.is_network.ensures.lawful c.is_network.ensures.laid c.is_network.ensures.shared c.is_network.ensures.private in (
      opens_replayed c.args.flat here c.args.seed c.args.limits c.args.start c.requires.start.start c.args.workers c.requires.workers
          (core_by c.in_ok-machine.machine c.in_ok-ahead.ahead c.in_ok-claims.claims.items c.new.result.items 0)
          (ap (λ (js : List Step). core_by c.in_ok-machine.machine c.in_ok-ahead.ahead c.in_ok-claims.claims.items js 0) c.new.ensures.items
          ∙ opened_by c.args.flat c.args.seed c.args.limits c.args.start c.args.workers c.in_ok-machine.machine c.in_ok-ahead.ahead c.in_ok-claims.claims.items c.leaves.result
          c.in_ok-machine.ensures
          (c.in_ok-ahead.ensures ∙ ap (nothing c.leaves.result) (c.deref.ensures.value ∙ ap (λ (v : CommittedValue). v.core.shared) c.start.view_is))
          (c.leaves.ensures ∙ ap (λ (n : Network). length n.parts) c.get-2.ensures)
          c.in_ok-claims.ensures
          (leaves_are c.args.flat here c.args.seed c.args.limits c.args.start.core c.requires.start.start)),
      subst (AreLow c.in_ok-machine.machine c.in_ok-ahead.ahead (map claim_in c.in_ok-claims.claims.items)) (sym c.in_ok-soonest.ensures) (unknown_low c.in_ok-machine.machine c.in_ok-ahead.ahead (map claim_in c.in_ok-claims.claims.items) c.leaves-2.result (sym c.leaves-2.ensures)),
    )

pub returns-clause-opened : goal.returns-clause-opened
returns-clause-opened c =
    let here = is_run c.get.result.now c.args.flat c.get.ensures c.is_network.ensures.network c.is_network.ensures.lawful c.is_network.ensures.laid c.is_network.ensures.shared c.is_network.ensures.private in
    ap (λ (js : List Step). core_by c.in_ok-machine.machine c.in_ok-ahead.ahead c.in_ok-claims.claims.items js 0) c.new.ensures.items
    ∙ opened_by c.args.flat c.args.seed c.args.limits c.args.start c.args.workers c.in_ok-machine.machine c.in_ok-ahead.ahead c.in_ok-claims.claims.items c.leaves.result
    c.in_ok-machine.ensures
    (c.in_ok-ahead.ensures ∙ ap (nothing c.leaves.result) (c.deref.ensures.value ∙ ap (λ (v : CommittedValue). v.core.shared) c.start.view_is))
    (c.leaves.ensures ∙ ap (λ (n : Network). length n.parts) c.get-2.ensures)
    c.in_ok-claims.ensures
    (leaves_are c.args.flat here c.args.seed c.args.limits c.args.start.core c.requires.start.start)

pub returns-clause-every_interleaving : goal.returns-clause-every_interleaving
returns-clause-every_interleaving c =
    let here = is_run c.get.result.now c.args.flat c.get.ensures c.is_network.ensures.network c.is_network.ensures.lawful c.is_network.ensures.laid c.is_network.ensures.shared c.is_network.ensures.private in
    every_interleaving c.args.flat here c.args.seed c.args.limits c.args.start c.args.workers c.requires.start.start
