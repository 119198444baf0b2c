use Rattle.std.proofs.Common.{◌∙◌, arith}
use Rattle.san_board.proofs.Growing.{commit_grows}
use Rattle.san_board.proofs.desk.Desk.commit.Goals as goal

pub invariant_of-self : goal.invariant_of-self
invariant_of-self g c =
    let grown = commit_grows c.self.inside.core c.commit-done.new.self c.worker.result c.commit-done.result c.commit-done.ensures in
    (omega (arith, grown.journal, c.self.invariant.0, c.book.ensures.steps, c.piece_steps.ensures), grown.claims ∙ c.self.invariant.1, c.self.invariant.2)
