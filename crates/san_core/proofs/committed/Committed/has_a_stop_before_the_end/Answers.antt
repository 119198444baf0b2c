use Rattle.std.proofs.Common.{ap, ◌∙◌}
use Rattle.san_core.specs.Committed.{CommittedValue}
use Rattle.san_core.proofs.Stopping.{no_end}
use Rattle.san_core.proofs.committed.Committed.has_a_stop_before_the_end.Goals as goal

pub returns : goal.returns
returns c = λ is. no_end c.self.inside.halt (ap (λ (v : CommittedValue). v.core.stop) c.self.view_is ∙ is)
