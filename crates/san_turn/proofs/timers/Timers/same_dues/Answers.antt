use Rattle.std.proofs.Common.{arith, refl, None}
use Rattle.std.proofs.lemmas.List.{ext_get_or}
use Rattle.san_turn.proofs.timers.Timers.same_dues.Goals as goal

pub returns : goal.returns
returns c = (λ t. ext_get_or None c.args.self.now.dues c.args.other.now.dues c.requires (λ i h. c.leaves.invariant i (omega (arith, h, c.leaves-test.false, c.leaves.auto.leaf-end, c.len-leaf-end.ensures))), λ e. refl)
