use Rattle.std.proofs.Common.{ap, sym, ◌∙◌, arith}
use Rattle.san_tree.specs.Places.{climb}
use Rattle.san_tree.proofs.ClimbLemmas.{chain-end, chain-front, settled-zero, settled-up, settled-shared, settled-unshared}
use Rattle.san_tree.proofs.home.+climb.Goals as goal

pub returns-in-empty-clause-way : goal.returns-in-empty-clause-way
returns-in-empty-clause-way t c =
    λ above. ap (climb c.args.place) (chain-end c.args.nodes.now c.args.n c.args.path.now above c.in-empty.len_below) ∙ sym (settled-zero c.args.place above)

pub returns-then-below-gt0-clause-way : goal.returns-then-below-gt0-clause-way
returns-then-below-gt0-clause-way t c =
    λ above. ap (climb c.args.place) (chain-front c.args.nodes.now c.args.n _ c.args.path.now above c.child_at.ensures (omega (arith, c.in-len1-up.len_at_least))) ∙ c.climb-below.ensures.way _ ∙ settled-up _ _ _ above c.if-below-gt0.true

pub returns-in-Some-clause-way : goal.returns-in-Some-clause-way
returns-in-Some-clause-way t c =
    λ above. ap (climb c.args.place) (chain-front c.args.nodes.now c.args.n _ c.args.path.now above c.child_at.ensures (omega (arith, c.in-len1-up.len_at_least))) ∙ c.climb-below.ensures.way _ ∙ settled-shared _ _ _ _ _ above (omega (arith, c.if-below-gt0.false)) (sym c.in-Some.ensures.value)

pub returns-in-None-clause-way : goal.returns-in-None-clause-way
returns-in-None-clause-way t c =
    λ above. ap (climb c.args.place) (chain-front c.args.nodes.now c.args.n _ c.args.path.now above c.child_at.ensures (omega (arith, c.in-len1-up.len_at_least))) ∙ c.climb-below.ensures.way _ ∙ settled-unshared _ _ _ _ above (omega (arith, c.if-below-gt0.false)) (sym c.in-None.ensures.value)
