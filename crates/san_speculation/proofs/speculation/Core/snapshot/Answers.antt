use Rattle.std.proofs.Common.{◌≤◌, ◌∙◌, ap, subst, sym}
use Rattle.san_base.specs.declared.limits.TheConstants.{MAX_TOKENS}
use Rattle.san_speculation.specs.Snapshots.{filled, shown_at}
use Rattle.san_speculation.specs.Speculating.{CoreValue}
use Rattle.san_speculation.proofs.Keeping.{run_seen}
use Rattle.san_speculation.proofs.SmallReads.{core_shows_small}
use Rattle.san_speculation.proofs.Speculated.{is_run}
use Rattle.san_speculation.proofs.speculation.Core.snapshot.Goals as goal

pub show-requires : goal.show-requires
show-requires c q =
    let is = ap (λ (x : CoreValue). x.machine) c.self.view_is in
    let run = run_seen c.self.inside.machine c.args.self.now is (is_run c.network.result.now c.self.inside.machine.network c.network.ensures c.is_network.ensures.network c.is_network.ensures.lawful c.is_network.ensures.laid c.is_network.ensures.shared c.is_network.ensures.private) in
    subst (λ (x : CoreValue). shown_at x.book.lines c.args.stamp q ≤ MAX_TOKENS) (sym c.self.view_is) (core_shows_small c.args.self.now c.keeps_the_law.ensures.machine run c.keeps_the_law.ensures.replayed c.args.stamp q)

pub returns : goal.returns
returns c =
    c.show.ensures
    ∙ (ap (λ (x : CoreValue). filled (shown_at x.book.lines c.args.stamp) c.args.into.now.places) c.self.view_is
    ∙ ap (filled (shown_at c.args.self.now.book.lines c.args.stamp)) c.requires)
