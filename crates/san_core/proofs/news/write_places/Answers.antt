use Rattle.std.proofs.Common.{arith, ap, ◌∙◌, map, ℕ}
use Rattle.san_base.specs.declared.numbers.PlaceId.{PlaceId}
use Rattle.san_core.proofs.Puts.{places_more}
use Rattle.san_core.proofs.news.write_places.Goals as goal

pub each-preserved : goal.each-preserved
each-preserved c =
    let no_write : PlaceId × ℕ = (record { 0 = 0 }, 0) in
    record {
      within = omega (arith, c.each-test.true);
      len = omega (arith, c.in-Ok.ensures.len, c.each.invariant.len);
      room = omega (arith, c.each.invariant.room, c.push.ensures.capacity);
      places = ap (map (λ (p : PlaceId). p.0)) c.in-Ok.ensures.items ∙ places_more c.args.writes.now c.each.at no_write c.each.written.items c.each-test.true c.each.invariant.places;
    }
