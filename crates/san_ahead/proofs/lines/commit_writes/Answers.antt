use Rattle.std.proofs.Common.{◌∙◌, ap, sym}
use Rattle.std.proofs.lemmas.List.{length-set}
use Rattle.san_book.specs.Lines.{commit}
use Rattle.san_ahead.specs.Aheads.{line_in}
use Rattle.san_ahead.proofs.LineLemmas.{each_next, fits_here, fits_next}
use Rattle.san_ahead.proofs.lines.commit_writes.Goals as goal

pub bounds-lines-place : goal.bounds-lines-place
bounds-lines-place c = (fits_here c.args.writes.now c.written.write-index (record { 0 = 0 }, 0) c.written-test.true _ c.written.invariant.fit).0

pub written-preserved : goal.written-preserved
written-preserved c = record {
  rest = each_next c.args.writes.now c.written.write-index (record { 0 = 0 }, 0) c.written-test.true (commit c.args.shared.now) c.written.lines c.index-lines-place.result c.set.new.self c.written.invariant.fit (ap line_in c.set.ensures) ∙ c.written.invariant.rest;
  fit = fits_next c.args.writes.now c.written.write-index (record { 0 = 0 }, 0) c.written-test.true c.written.lines c.set.new.self c.written.invariant.fit;
  sized = c.written.invariant.sized ∙ sym (length-set c.written.lines _ c.set.new.self);
}
