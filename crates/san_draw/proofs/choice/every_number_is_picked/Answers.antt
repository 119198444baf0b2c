use Rattle.san_draw.proofs.ChoiceLemmas.{picked_by}
use Rattle.san_draw.proofs.choice.every_number_is_picked.Goals as goal

pub returns : goal.returns
returns c = λ w v h k. picked_by w v h k
