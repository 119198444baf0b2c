use Rattle.std.proofs.Common.{ℕ, ◌++◌, refl}
use Rattle.san_check.specs.build.Term.{rate_in, rates_in}
use Rattle.san_check.proofs.LoopLemmas.{added_turn}
use Rattle.san_check.proofs.build.term.put_rates.Goals as goal

pub terms-preserved : goal.terms-preserved
terms-preserved c =
    added_turn (λ (n : ℕ) ds. rates_in c.args.cells.now c.args.reward ds) (λ (n : ℕ) d. rate_in c.args.cells.now c.args.reward d) (λ n. n) (λ n d ds. refl) c.args.terms.now c.terms.term-index c.term-item.result 0 0 c.terms.rates.items c.put_rate.new.rates.items
    (c.args.rates.now.items ++ rates_in c.args.cells.now c.args.reward c.args.terms.now) c.terms-test.true c.term-item.is refl c.in_ok-put_rate.ensures c.terms.invariant
