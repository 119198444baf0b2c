use Rattle.std.proofs.Common.{ap, ◌∙◌, refl, map, ◌≡◌}
use Rattle.san_law.specs.Core.{put}
use Rattle.san_leaf.specs.Outcomes.{outcome_in}
use Rattle.san_leaf.specs.States.{pair_in}
use Rattle.san_net.specs.Network.{net_of}
use Rattle.san_core.specs.Committed.{CommittedValue}
use Rattle.san_core.specs.inner.Held.{committed_by}
use Rattle.san_core.proofs.Stopping.{none_named}
use Rattle.san_core.proofs.Puts.{places_below, put_value, value_by}
use Rattle.san_core.proofs.committed.Committed.put.Goals as goal

pub took-requires-clause-written : goal.took-requires-clause-written
took-requires-clause-written c = places_below c.args.news.now.written.items c.args.outcome.writes.items _ c.requires.reflected.written c.requires.written

pub returns-clause-taken : goal.returns-clause-taken
returns-clause-taken c draw limits =
    let net = net_of c.args.flat.now draw limits in
    let i = c.self.inside in
    let old : CommittedValue = committed_by i.leaves.items i.shared.items i.order i.tally i.burst i.count i.halt in
    let same : old ≡ c.args.self.now = c.self.view_is in
    let made = outcome_in c.args.taking.first.0 c.args.outcome in
    value_by old c.args.self.now net c.args.taking made _ same
    (put_value net i.leaves.items i.shared.items i.order i.tally i.burst i.count i.halt c.args.taking made c.args.news.now c.took.new.self _ _
    (ap (λ (v : CommittedValue). v.core.stop) same ∙ c.requires.going) (c.took.ensures draw limits) (ap (λ (v : CommittedValue). Rattle.std.specs.Prelude.slice_index_or v.firsts c.args.taking.leaf.0 0) same ∙ c.requires.first)
    c.requires.reflected c.requires.kind c.requires.time refl (c.write_all.ensures ∙ ap (λ ws. put (map pair_in ws) i.shared.items) c.deref.ensures.value))

pub invariant_of-self : goal.invariant_of-self
invariant_of-self c = none_named c.took.new.self.firsts c.self.inside.halt (ap (λ (v : CommittedValue). v.core.stop) c.self.view_is ∙ c.requires.going)
