use Rattle.std.proofs.Common.{◌∙◌, arith}
use Rattle.san_board.proofs.Growing.{claim_grows}
use Rattle.san_board.proofs.desk.Desk.claim.Goals as goal

pub invariant_of-self : goal.invariant_of-self
invariant_of-self g c =
    let grown = claim_grows c.self.inside.core c.claim-got.new.self c.worker.result c.claim-got.result c.claim-got.ensures in
    (omega (arith, grown.journal, c.self.invariant.0, c.book.ensures.steps, c.claim_steps.ensures), grown.claims ∙ c.self.invariant.1, c.self.invariant.2)
