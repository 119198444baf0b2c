use Rattle.std.proofs.Common.{ℕ, ◌++◌, refl}
use Rattle.san_check.specs.build.Term.{impulse_in, impulses_in}
use Rattle.san_check.proofs.LoopLemmas.{added_turn}
use Rattle.san_check.proofs.build.term.put_impulses.Goals as goal

pub terms-preserved : goal.terms-preserved
terms-preserved c =
    added_turn (λ (n : ℕ) ds. impulses_in c.args.cells.now c.args.acts.now c.args.reward ds) (λ (n : ℕ) d. impulse_in c.args.cells.now c.args.acts.now c.args.reward d) (λ n. n) (λ n d ds. refl) c.args.terms.now c.terms.term-index c.term-item.result 0 0 c.terms.impulses.items c.put_impulse.new.impulses.items
    (c.args.impulses.now.items ++ impulses_in c.args.cells.now c.args.acts.now c.args.reward c.args.terms.now) c.terms-test.true c.term-item.is refl c.in_ok-put_impulse.ensures c.terms.invariant
