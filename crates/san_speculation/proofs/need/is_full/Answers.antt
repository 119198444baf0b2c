use Rattle.std.proofs.Common.{ℕ, ap, length, nat_le, ◌||◌, ◌∙◌}
use Rattle.san_book.specs.declared.limits.TheConstants.{MAX_STRETCH_EVENTS, MAX_STRETCH_PIECES}
use Rattle.san_base.specs.declared.ending.Event.{Event}
use Rattle.std.specs.Prelude.{List}
use Rattle.san_core.specs.Machines.{core_in}
use Rattle.san_speculation.proofs.Nexts.{events_long}
use Rattle.san_speculation.proofs.need.is_full.Goals as goal

pub returns : goal.returns
returns c =
    c.is_much.ensures
    ∙ (ap (λ (n : ℕ). nat_le MAX_STRETCH_EVENTS n || nat_le MAX_STRETCH_PIECES c.taken.result) (ap (λ (es : List Event). length es) c.committed.ensures ∙ events_long c.args.machine.now c.follows.ensures)
    ∙ ap (λ (n : ℕ). nat_le MAX_STRETCH_EVENTS (length (core_in c.args.machine.now).events) || nat_le MAX_STRETCH_PIECES n) c.taken.ensures)
