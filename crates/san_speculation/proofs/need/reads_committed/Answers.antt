use Rattle.std.proofs.Common.{ℕ, List, ap, map, sym, ◌∙◌}
use Rattle.std.specs.Prelude.{slice_get}
use Rattle.san_book.specs.Lines.{agrees}
use Rattle.san_core.specs.Machines.{core_in}
use Rattle.san_decide.specs.Booked.{entry_of}
use Rattle.san_decide.proofs.Booking.{entries_back}
use Rattle.san_law.specs.Core as law
use Rattle.san_log.specs.Logs.{Entry}
use Rattle.san_speculation.proofs.need.reads_committed.Goals as goal

pub returns : goal.returns
returns c =
    c.agrees.ensures
    ∙ (ap (λ (vs : List ℕ). agrees (slice_get vs) c.log.result.now) (c.shared.ensures ∙ ap (λ (x : law.Core). x.shared) c.follows.ensures.held)
    ∙ ap (λ (es : List Entry). agrees (slice_get (core_in c.args.machine.now).shared) es) (sym (entries_back c.log.result.now) ∙ ap (map entry_of) c.log.ensures))
