use Rattle.std.proofs.Common.{◌∙◌, ap}
use Rattle.san_book.specs.Lines.{withdraw}
use Rattle.san_ahead.specs.Aheads.{line_in}
use Rattle.san_ahead.proofs.LineLemmas.{each_next, fits_here, fits_next}
use Rattle.san_ahead.proofs.lines.withdraw_writes.Goals as goal

pub bounds-lines-write : goal.bounds-lines-write
bounds-lines-write c = (fits_here c.args.writes.now c.written.write-index (record { 0 = 0 }, 0) c.written-test.true _ c.written.invariant.fit).0

pub written-preserved : goal.written-preserved
written-preserved c = record {
  rest = each_next c.args.writes.now c.written.write-index (record { 0 = 0 }, 0) c.written-test.true (withdraw c.args.leaf.0 c.args.pos) c.written.lines c.index-lines-write.result c.remove.new.self c.written.invariant.fit (ap line_in c.remove.ensures) ∙ c.written.invariant.rest;
  fit = fits_next c.args.writes.now c.written.write-index (record { 0 = 0 }, 0) c.written-test.true c.written.lines c.remove.new.self c.written.invariant.fit;
}
