use Rattle.std.proofs.Common.{◌∙◌, arith}
use Rattle.san_board.proofs.Growing.{redo_grows}
use Rattle.san_board.proofs.desk.Desk.redo.Goals as goal

pub invariant_of-self : goal.invariant_of-self
invariant_of-self g c =
    let grown = redo_grows c.self.inside.core c.redo-done.new.self c.worker.result c.redo-done.result c.redo-done.ensures in
    (omega (arith, grown.journal, c.self.invariant.0, c.book.ensures.steps, c.redo_steps.ensures), grown.claims ∙ c.self.invariant.1, c.self.invariant.2)
