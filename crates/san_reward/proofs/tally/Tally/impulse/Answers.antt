use Rattle.std.proofs.Common.{◌∙◌, ap, refl, sym}
use Rattle.san_net.specs.Network.{span_in}
use Rattle.san_reward.specs.Running.{counted_at}
use Rattle.san_base.specs.Rated.{term_value}
use Rattle.san_reward.specs.contracts.tally.Tally.{the_view}
use Rattle.san_reward.proofs.Counting.{span_is_low}
use Rattle.san_reward.proofs.Setting.{impulse_keeps}
use Rattle.san_reward.proofs.tally.Tally.impulse.Goals as goal

pub counted-added-requires : goal.counted-added-requires
counted-added-requires c = span_is_low (the_view c.self.inside) c.args.self.now c.self.inside.present.items c.args.reward c.index.result.now c.self.inside.spans.items (sym c.self.view_is) c.self.invariant c.requires.reward refl c.index.ensures

pub invariant_of-self : goal.invariant_of-self
invariant_of-self c =
    impulse_keeps (the_view c.self.inside) c.args.self.now c.self.inside.present.items c.args.reward (term_value c.args.rated) c.counted-added.result c.index.result.now c.self.inside.spans.items c.add.new.sums.items (sym c.self.view_is) c.self.invariant c.requires.reward refl c.index.ensures
    (c.counted-added.ensures ∙ ap (counted_at (span_in c.index.result.now) c.self.inside.time.0) c.term_value.ensures.value) c.add.ensures c.requires.few c.term_value.ensures.small
