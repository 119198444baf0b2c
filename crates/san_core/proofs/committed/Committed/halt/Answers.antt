use Rattle.std.proofs.Common.{ap, ◌∙◌}
use Rattle.std.specs.Prelude.{slice_index}
use Rattle.san_core.specs.Committed.{CommittedValue}
use Rattle.san_core.proofs.Stopping.{named_among}
use Rattle.san_core.proofs.committed.Committed.halt.Goals as goal

pub invariant_of-self : goal.invariant_of-self
invariant_of-self c = named_among c.self.inside.order.firsts c.args.taking.leaf.0 c.args.taking.first.0 c.args.over (ap (λ (v : CommittedValue). slice_index v.firsts c.args.taking.leaf.0) c.self.view_is ∙ c.requires.first) c.requires.of
