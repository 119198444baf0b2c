use Rattle.std.proofs.Common.{ℕ, None, ap, arith, replicate, suc, ◌≡◌, ◌∙◌}
use Rattle.san_speculation.proofs.opening.no_claims.Goals as goal

pub returns : goal.returns
returns c = let all : c.all.counter ≡ suc c.args.workers = omega (arith, c.all.auto.counter-end, c.all-test.false) in c.all.invariant ∙ ap (λ (n : ℕ). replicate n None) all
