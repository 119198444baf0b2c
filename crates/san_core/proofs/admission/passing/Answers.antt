use Rattle.std.proofs.Common.{sym, ap, ◌∙◌, ◌+◌, arith}
use Rattle.std.specs.Option.{option_map}
use Rattle.san_core.specs.inner.Admits.{over_in}
use Rattle.san_core.proofs.Passes.{goes_on_at}
use Rattle.san_core.proofs.admission.passing.Goals as goal

pub each-preserved : goal.each-preserved
each-preserved c = record {
  within = omega (arith, c.each-test.true);
  passes = c.each.invariant.passes ∙ goes_on_at c.args.limits.now.burst c.args.limits.now.events c.args.burst c.args.count c.args.completions c.each.passed (c.from.result + c.from-in-each.result) (c.args.count + c.from-in-each-2.result) (omega (arith, c.each-test.true)) (omega (arith, c.from.ensures, c.from-in-each.ensures)) (omega (arith, c.from-in-each-2.ensures)) (sym c.limit_by.ensures.is ∙ ap (option_map over_in) c.in_default.is);
}
