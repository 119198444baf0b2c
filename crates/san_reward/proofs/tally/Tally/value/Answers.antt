use Rattle.std.proofs.Common.{◌+◌, ◌∙◌, ap, arith, refl, sym}
use Rattle.san_law.specs.Reward.{sum_worth}
use Rattle.san_net.specs.Network.{span_in}
use Rattle.san_reward.specs.Worth.{worth_of}
use Rattle.san_reward.specs.contracts.tally.Tally.{the_view}
use Rattle.san_reward.proofs.Counting.{not_late, present_is_low, span_is_low, value_ends}
use Rattle.san_reward.proofs.tally.Tally.value.Goals as goal

pub end-requires : goal.end-requires
end-requires c = span_is_low (the_view c.self.inside) c.args.self.now c.self.inside.present.items c.args.reward c.index-span.result.now c.self.inside.spans.items (sym c.self.view_is) c.self.invariant c.requires refl c.index-span.ensures

pub accrue-requires-clause-present : goal.accrue-requires-clause-present
accrue-requires-clause-present c = present_is_low (the_view c.self.inside) c.args.self.now c.self.inside.present.items c.args.reward c.index-2.result.now (sym c.self.view_is) c.self.invariant c.requires c.index-2.ensures

pub returns : goal.returns
returns c =
    c.worth_by.ensures
    ∙ ap worth_of
    (value_ends (the_view c.self.inside) c.args.self.now c.self.inside.present.items c.args.reward c.accrue.result c.index-span.result.now c.index-2.result.now c.index.result.now c.self.inside.spans.items c.overlap-ticks.result (sum_worth (span_in c.index-span.result.now) c.accrue.result)
    (sym c.self.view_is) c.self.invariant c.requires refl c.index-span.ensures c.index-2.ensures c.index.ensures c.overlap-ticks.ensures c.accrue.ensures refl
    (not_late (c.self.inside.horizon.0 + 1) (span_in c.index-span.result.now).to (omega (arith, c.end.ensures, c.if-end-self.false))))
