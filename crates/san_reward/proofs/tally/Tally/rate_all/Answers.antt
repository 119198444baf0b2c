use Rattle.std.proofs.Common.{ap, arith, refl, ◌∙◌}
use Rattle.std.proofs.lemmas.List.{length-map}
use Rattle.san_reward.specs.Running.{Running, rates_in, rates_of}
use Rattle.san_reward.proofs.RatesSet.{all_long, leaves_end, leaves_go_on, rates_law}
use Rattle.san_reward.proofs.tally.Tally.rate_all.Goals as goal

pub leaves-preserved : goal.leaves-preserved
leaves-preserved c =
    let many = length-map c.args.flat.now.parts (rates_of c.args.marking.now) in
    leaves_go_on c.args.self.now (rates_in c.args.flat.now c.args.marking.now) c.leaves.leaf c.leaves.self c.rate_of_leaf.new.self _ c.leaves.invariant c.rate_of_leaf.ensures
    (all_long c.args.flat.now c.args.marking.now c.args.self.now c.requires.network c.has_a_rate_for_each_term.ensures) (omega (arith, many, c.leaves-test.true, c.leaves-leaf-end.ensures)) refl

pub returns-clause-law : goal.returns-clause-law
returns-clause-law c = λ draw limits.
    let many = length-map c.args.flat.now.parts (rates_of c.args.marking.now) in
    ap (λ (u : Running). u.tally.rates) (leaves_end c.args.self.now (rates_in c.args.flat.now c.args.marking.now) c.leaves.leaf c.leaves.self c.leaves.invariant (all_long c.args.flat.now c.args.marking.now c.args.self.now c.requires.network c.has_a_rate_for_each_term.ensures) (omega (arith, many, c.leaves-test.false, c.leaves-leaf-end.ensures)))
    ∙ rates_law c.args.marking.now c.args.flat.now draw limits
