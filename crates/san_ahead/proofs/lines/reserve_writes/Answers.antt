use Rattle.std.proofs.Common.{ℕ, ◌<◌, ◌∙◌, ap, subst, sym}
use Rattle.std.specs.Prelude.{slice_index_or, slice_set}
use Rattle.san_line.specs.Lines.{LineValue}
use Rattle.san_ahead.specs.Aheads.{line_in, written_line}
use Rattle.san_ahead.proofs.LineLemmas.{at_write, fits_here, fits_next, line_here, line_kept, some_room, unseen}
use Rattle.san_ahead.proofs.lines.reserve_writes.Goals as goal

pub written-preserved : goal.written-preserved
written-preserved c =
    let k = c.written.write-index in
    let new = c.reserve.new.self in
    let here = c.written-test.true in
    let fit = c.written.invariant.fit in
    let q : ℕ = (slice_index_or c.args.writes.now k (record { 0 = 0 }, 0)).0.0 in
    let reserved = c.in_ok-reserve.ensures.ok in
    let some : 0 < new.spare = subst (λ (x : LineValue). 0 < x.spare) (sym reserved) (some_room (slice_index_or c.written.lines _ c.index-lines-write.result).spare) in
    record {
      same = unseen c.written.lines _ c.index-lines-write.result new (fits_here c.args.writes.now k (record { 0 = 0 }, 0) here _ fit).0 (ap line_in reserved) ∙ c.written.invariant.same;
      fit = fits_next c.args.writes.now k (record { 0 = 0 }, 0) here c.written.lines new fit;
      room = λ i h. at_write (λ j. 0 < (written_line (slice_set c.written.lines q new) c.args.writes.now j).spare) k i h
          (λ lt. line_kept c.written.lines c.args.writes.now k (record { 0 = 0 }, 0) here fit new (λ (x : LineValue). 0 < x.spare) some i (c.written.invariant.room i lt))
          (subst (λ (x : LineValue). 0 < x.spare) (sym (line_here c.written.lines c.args.writes.now k (record { 0 = 0 }, 0) here fit new)) some);
    }
