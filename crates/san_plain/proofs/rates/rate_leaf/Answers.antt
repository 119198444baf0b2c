use Rattle.std.proofs.Common.{arith}
use Rattle.san_plain.proofs.RateLemmas.{no_terms, set_new}
use Rattle.san_plain.proofs.rates.rate_leaf.Goals as goal

pub returns-else-terms-ne0-clause-value : goal.returns-else-terms-ne0-clause-value
returns-else-terms-ne0-clause-value c =
    no_terms c.args.flat.now c.args.tally.now c.args.leaf.0 c.requires.network c.has_a_rate_for_each_term.ensures c.requires.leaf c.args.marking.now
    (omega (arith, c.terms.ensures, c.if-terms-ne0.false))

pub returns-else-terms-ne0-clause-anew : goal.returns-else-terms-ne0-clause-anew
returns-else-terms-ne0-clause-anew c =
    set_new c.args.flat.now c.args.tally.now c.args.leaf.0 c.requires.network c.has_a_rate_for_each_term.ensures c.requires.leaf c.args.marking.now c.args.tally.now
    (no_terms c.args.flat.now c.args.tally.now c.args.leaf.0 c.requires.network c.has_a_rate_for_each_term.ensures c.requires.leaf c.args.marking.now
    (omega (arith, c.terms.ensures, c.if-terms-ne0.false)))
