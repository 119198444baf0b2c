use Rattle.std.proofs.Common.{◌∙◌, ap, length, sym}
use Rattle.san_turn.specs.inner.Timed.{TimersValue}
use Rattle.san_turn.proofs.Timed.{length_timed}
use Rattle.san_turn.proofs.timers.Timers.len.Goals as goal

pub returns : goal.returns
returns c = c.len.ensures ∙ sym (length_timed c.self.inside.firsts.items c.self.inside.acts.items 0 c.self.inside.keys) ∙ ap (λ (t : TimersValue). length t.dues) c.self.view_is
