use Rattle.std.proofs.Common.{rules, arith, ◌≡◌, ◌^◌, ◌*ℤ◌, pos, to_z, of_z, FitsSigned}
use Rattle.std.proofs.lemmas.Int.{fits_signed_mul, ints, to_z-of_z}
use mir.Syntax.{w128}
use Rattle.san_probe.proofs.WatchLemmas.{value_at_most}
use Rattle.san_probe.proofs.measured.times.Goals as goal

pub returns-clause-small : goal.returns-clause-small
returns-clause-small c =
    let a : to_z w128 (of_z w128 c.from.result) ≡ c.args.value = search (rules, c.from.ensures) in
    let b : to_z w128 (of_z w128 c.from-2.result) ≡ pos c.args.ticks = search (rules, c.from-2.ensures) in
    let f : FitsSigned w128 (c.args.value *ℤ pos c.args.ticks) = fits_signed_mul w128 c.args.value (pos c.args.ticks) (2 ^ 63) (2 ^ 40) (omega (arith, ints)) (omega (arith, c.requires.few)) (omega arith) in
    let is : to_z w128 (of_z w128 (c.args.value *ℤ pos c.args.ticks)) ≡ c.args.value *ℤ pos c.args.ticks = to_z-of_z w128 (c.args.value *ℤ pos c.args.ticks) f in
    rw a (rw b (rw is (value_at_most c.args.value c.args.ticks (omega (arith, ints)))))
