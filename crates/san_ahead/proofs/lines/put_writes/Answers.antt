use Rattle.std.proofs.Common.{◌<◌, ◌∙◌, ap, subst, sym, arith}
use Rattle.san_book.specs.Lines.{put}
use Rattle.san_line.specs.Lines.{LineValue, find}
use Rattle.san_ahead.specs.Aheads.{line_in}
use Rattle.san_ahead.proofs.LineLemmas.{each_next, fits_next, line_other}
use Rattle.san_ahead.proofs.lines.put_writes.Goals as goal

pub written-preserved : goal.written-preserved
written-preserved c =
    let k = c.written.write-index in
    let new = c.put.new.self in
    let here = c.written-test.true in
    let fit = c.written.invariant.fit in
    let other = line_other c.written.lines c.args.writes.now k (record { 0 = 0 }, 0) here fit new in
    record {
      rest = each_next c.args.writes.now k (record { 0 = 0 }, 0) here (put c.args.time.0 c.args.leaf.0 c.args.pos) c.written.lines c.index-lines-write.result new fit (ap line_in c.in-Ok.ensures.put) ∙ c.written.invariant.rest;
      fit = fits_next c.args.writes.now k (record { 0 = 0 }, 0) here c.written.lines new fit;
      room = λ i h l. subst (λ (x : LineValue). 0 < x.spare) (sym (other i (omega (arith, h)) l)) (c.written.invariant.room i (omega (arith, h)) l);
      new = λ i h l. ap (λ (x : LineValue). find c.args.leaf.0 c.args.pos x.versions) (other i (omega (arith, h)) l) ∙ c.written.invariant.new i (omega (arith, h)) l;
    }
