use Rattle.std.proofs.Common.{ap, arith, length, subst, sym, ◌<◌, ◌∙◌}
use Rattle.san_base.specs.Rated.{term_value}
use Rattle.san_reward.specs.Running.{rates_of}
use Rattle.san_reward.proofs.Setting.{leaves_long, rates_long}
use Rattle.san_reward.proofs.RatesSet.{leaf_ends, leaf_goes_on, leaf_there, term_there, part_long, part_rate, terms_long}
use Rattle.san_reward.proofs.tally.Tally.rate_part.Goals as goal

pub set-requires-clause-leaf : goal.set-requires-clause-leaf
set-requires-clause-leaf c = leaf_there c.args.self.now c.args.leaf.0 (rates_of c.args.marking.now c.args.part.now) c.terms.at c.terms.self c.terms.invariant c.requires.leaf

pub set-requires-clause-term : goal.set-requires-clause-term
set-requires-clause-term c =
    term_there c.args.self.now c.args.leaf.0 (rates_of c.args.marking.now c.args.part.now) c.terms.at c.terms.self c.terms.invariant c.terms.at
    (subst (λ n. c.terms.at < n) (sym (ap length c.requires.terms ∙ terms_long c.args.part.now c.args.marking.now c.get.result.now c.as_slice-term-items.result.now c.get.ensures c.as_slice-term-items.ensures)) c.terms-test.true)

pub terms-preserved : goal.terms-preserved
terms-preserved c =
    let p = c.args.part.now in
    let m = c.args.marking.now in
    let t = c.args.self.now in
    let long = rates_long t.terms t.tally.rates c.args.leaf.0 c.has_a_rate_for_each_term.ensures c.requires.leaf in
    let leaves = leaves_long t.terms t.tally.rates c.has_a_rate_for_each_term.ensures in
    let many = part_long p m c.get.result.now c.as_slice-term-items.result.now c.get.ensures c.as_slice-term-items.ensures in
    let terms = terms_long p m c.get.result.now c.as_slice-term-items.result.now c.get.ensures c.as_slice-term-items.ensures in
    leaf_goes_on t c.args.leaf.0 (rates_of m p) c.terms.at c.terms.self c.set.new.self (term_value c.rate_in-rated.result) c.terms.invariant c.set.ensures (omega (arith, leaves, c.requires.leaf)) (many ∙ (sym terms ∙ (ap length (sym c.requires.terms) ∙ sym long)))
    (subst (λ n. c.terms.at < n) (sym many) c.terms-test.true)
    (part_rate p m c.get.result.now c.as_slice-term-items.result.now c.get.ensures c.as_slice-term-items.ensures c.as_slice-slots.result.now c.term-item.result c.terms.at (term_value c.rate_in-rated.result) c.as_slice-slots.ensures c.term-item.is c.terms-test.true c.rate_in-rated.ensures)

pub returns : goal.returns
returns c =
    let p = c.args.part.now in
    let m = c.args.marking.now in
    let t = c.args.self.now in
    let long = rates_long t.terms t.tally.rates c.args.leaf.0 c.has_a_rate_for_each_term.ensures c.requires.leaf in
    let many = part_long p m c.get.result.now c.as_slice-term-items.result.now c.get.ensures c.as_slice-term-items.ensures in
    let terms = terms_long p m c.get.result.now c.as_slice-term-items.result.now c.get.ensures c.as_slice-term-items.ensures in
    leaf_ends t c.args.leaf.0 (rates_of m p) c.terms.at c.terms.self c.terms.invariant (many ∙ (sym terms ∙ (ap length (sym c.requires.terms) ∙ sym long))) (omega (arith, c.terms-test.false, many))
