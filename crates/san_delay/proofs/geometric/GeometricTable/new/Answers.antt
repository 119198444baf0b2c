use Rattle.std.proofs.Common.{arith, ◌≡◌, ◌∙◌, ap, ℕ, ◌+◌, ◌*◌, ◌/◌, ◌<◌, ◌^◌, length}
use Rattle.san_expr.specs.Delay.{chance_left, geometric}
use Rattle.san_delay.proofs.KeptLemmas.{product_fits, next_fits, turn, longest_ends}
use Rattle.san_delay.proofs.geometric.GeometricTable.new.Goals as goal

pub overflow_mul-left : goal.overflow_mul-left
overflow_mul-left c =
    let fits : c.ticks.left * c.from-stays.result < 2 ^ 128 =
    product_fits c.args.p c.args.q c.ticks.left c.from-stays.result (length c.ticks.chances.items) c.requires.chance c.ticks.invariant.is c.from-stays.ensures in
    omega (arith, fits)

pub overflow_cast-left : goal.overflow_cast-left
overflow_cast-left c =
    let fits : c.ticks.left * c.from-stays.result / c.from-parts.result < 2 ^ 64 =
    next_fits c.args.p c.args.q c.ticks.left c.from-stays.result c.from-parts.result c.ticks.chances.items c.ticks.invariant.is c.from-stays.ensures c.from-parts.ensures
    c.requires.chance in
    omega (arith, fits)

pub ticks-preserved : goal.ticks-preserved
ticks-preserved c =
    let next = turn c.args.p c.args.q c.ticks.left c.from-stays.result c.from-parts.result c.ticks.chances.items c.ticks.invariant.is c.from-stays.ensures c.from-parts.ensures
    c.push.new.self.items c.in_ok-push.ensures.items c.ticks.invariant.each in
    record { is = next.0; turns = next.1 ∙ ap (λ (n : ℕ). n + 1) c.ticks.invariant.turns; each = next.2 }

pub invariant_of-result : goal.invariant_of-result
invariant_of-result c =
    let whole : length c.ticks.chances.items ≡ geometric c.args.p c.args.q 0 = omega (arith, c.ticks.invariant.turns, c.ticks-test.false, c.ticks.auto.counter-end, c.requires.ticks) in
    record {
      series = record {
        each = c.ticks.invariant.each;
        ends = ap (chance_left c.args.p c.args.q) whole ∙ longest_ends c.args.p c.args.q c.requires.chance;
      };
    }
