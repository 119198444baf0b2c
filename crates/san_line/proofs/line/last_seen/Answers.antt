use Rattle.std.proofs.Common.{◌∙◌, ◌-◌, ◌≡◌, ℕ, suc, sym, ap, take, arith}
use Rattle.san_line.specs.Lines.{value_at}
use Rattle.san_line.proofs.Searches.{last_is_seen, last_unseen}
use Rattle.san_line.proofs.line.last_seen.Goals as goal

pub returns-then-sees : goal.returns-then-sees
returns-then-sees c =
    let xs = c.args.versions.now in
    let one : c.back.at ≡ suc (c.back.at - 1) = omega (arith, c.back-test.true) in
    sym (c.back.invariant.0 ∙ (ap (λ (n : ℕ). value_at c.args.stamp c.args.committed (take n xs)) one ∙ last_is_seen c.args.stamp c.args.committed xs (c.back.at - 1) _ (omega (arith, c.back-test.true, c.back.invariant.1)) (sym c.sees.ensures ∙ c.if-sees.true)))

pub back-preserved : goal.back-preserved
back-preserved c =
    let xs = c.args.versions.now in
    let one : c.back.at ≡ suc (c.back.at - 1) = omega (arith, c.back-test.true) in
    (c.back.invariant.0 ∙ (ap (λ (n : ℕ). value_at c.args.stamp c.args.committed (take n xs)) one ∙ last_unseen c.args.stamp c.args.committed xs (c.back.at - 1) _ (omega (arith, c.back-test.true, c.back.invariant.1)) (sym c.sees.ensures ∙ c.if-sees.false)), omega (arith, c.back.invariant.1))
