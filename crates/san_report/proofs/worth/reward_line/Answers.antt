use Rattle.san_report.proofs.PutLemmas.{text_is}
use Rattle.san_report.proofs.worth.reward_line.Goals as goal

pub returns-then-put_reward : goal.returns-then-put_reward
returns-then-put_reward c = text_is _ _ _ _ _ c.new-text.ensures c.if-put_reward.ensures
