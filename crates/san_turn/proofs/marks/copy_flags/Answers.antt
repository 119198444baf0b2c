use Rattle.std.proofs.Common.{arith, ◌∙◌, false}
use Rattle.std.proofs.lemmas.List.{ext_get_or}
use Rattle.san_turn.proofs.marks.copy_flags.Goals as goal

pub returns : goal.returns
returns c = ext_get_or false c.leaves.copy c.args.flags.now (c.leaves.invariant.sized ∙ c.requires.leaves) (λ i h. c.leaves.invariant.same i (omega (arith, h, c.leaves.invariant.sized, c.leaves-test.false, c.leaves.auto.leaf-end)))
