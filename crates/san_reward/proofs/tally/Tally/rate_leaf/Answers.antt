use Rattle.std.proofs.Common.{arith, sym, map, slice_index_or, ◌∙◌}
use Rattle.san_base.specs.Rated.{term_value}
use Rattle.std.specs.Prelude.{pos}
use Rattle.std.proofs.lemmas.List.{get_or-map, length-map}
use Rattle.san_law.specs.Reward.{zero_sum}
use Rattle.san_base.specs.declared.term.Rated.TheVariants.{Value}
use Rattle.san_reward.proofs.Setting.{leaves_long, rates_long}
use Rattle.san_reward.proofs.RatesSet.{leaf_ends, leaf_goes_on, leaf_there, term_there}
use Rattle.san_reward.proofs.tally.Tally.rate_leaf.Goals as goal

pub set-requires-clause-leaf : goal.set-requires-clause-leaf
set-requires-clause-leaf c = leaf_there c.args.self.now c.args.leaf.0 (map term_value c.args.rates.now) c.terms.at c.terms.self c.terms.invariant c.requires.leaf

pub set-requires-clause-term : goal.set-requires-clause-term
set-requires-clause-term c = term_there c.args.self.now c.args.leaf.0 (map term_value c.args.rates.now) c.terms.at c.terms.self c.terms.invariant c.terms.at (omega (arith, c.terms-test.true, c.terms.auto.at-end, c.requires.terms))

pub terms-preserved : goal.terms-preserved
terms-preserved c =
    let many = length-map c.args.rates.now term_value in
    let leaves = leaves_long c.args.self.now.terms c.args.self.now.tally.rates c.has_a_rate_for_each_term.ensures in
    let long = rates_long c.args.self.now.terms c.args.self.now.tally.rates c.args.leaf.0 c.has_a_rate_for_each_term.ensures c.requires.leaf in
    let zero = Value (pos 0) in
    leaf_goes_on c.args.self.now c.args.leaf.0 (map term_value c.args.rates.now) c.terms.at c.terms.self c.set.new.self (term_value (slice_index_or c.args.rates.now c.terms.at zero)) c.terms.invariant c.set.ensures (omega (arith, leaves, c.requires.leaf)) (many ∙ (c.requires.terms ∙ sym long)) (omega (arith, c.terms-test.true, many))
    (sym (get_or-map term_value c.args.rates.now c.terms.at zero zero_sum c.terms-test.true))

pub returns : goal.returns
returns c =
    let many = length-map c.args.rates.now term_value in
    let long = rates_long c.args.self.now.terms c.args.self.now.tally.rates c.args.leaf.0 c.has_a_rate_for_each_term.ensures c.requires.leaf in
    leaf_ends c.args.self.now c.args.leaf.0 (map term_value c.args.rates.now) c.terms.at c.terms.self c.terms.invariant (many ∙ (c.requires.terms ∙ sym long)) (omega (arith, c.terms-test.false, c.terms.auto.at-end, many))
