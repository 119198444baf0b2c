use Rattle.std.proofs.Common.{arith, ℕ, ◌-◌}
use Rattle.san_base.specs.declared.numbers.PlaceId.{PlaceId}
use Rattle.san_core.proofs.writing.write_all.Goals as goal

pub index_mut-requires : goal.index_mut-requires
index_mut-requires c =
    let no_write : PlaceId × ℕ = (record { 0 = 0 }, 0) in
    let h = c.requires (c.each.at - 1) no_write (omega (arith, c.each.invariant.within, c.each-test.true)) in
    omega (arith, h, c.each.invariant.long, c.args.shared.now.ok.0)
