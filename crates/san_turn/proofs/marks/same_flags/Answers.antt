use Rattle.std.proofs.Common.{arith, ◌∙◌, refl, sym, false}
use Rattle.std.proofs.lemmas.List.{ext_get_or}
use Rattle.san_turn.proofs.marks.same_flags.Goals as goal

pub returns : goal.returns
returns c = (λ t. ext_get_or false c.args.a.now c.args.b.now (sym c.requires.a ∙ c.requires.b) (λ i h. c.leaves.invariant i (omega (arith, h, c.leaves-test.false, c.leaves.auto.leaf-end, c.requires.a))), λ e. refl)
