use Rattle.std.proofs.Common.{◌∙◌, ap, arith}
use Rattle.san_board.proofs.Growing.{publish_as, publish_grows}
use Rattle.san_board.specs.Passes.{BookedPass}
use Rattle.san_board.proofs.desk.Desk.publish.Goals as goal

pub overflow_sub-grown : goal.overflow_sub-grown
overflow_sub-grown g c =
    let grown = publish_grows c.self.inside.core c.publish-done.new.self c.worker.result c.args.piece c.publish-done.result c.publish-done.ensures in
    omega (arith, grown.longer, c.steps_of-before.ensures, c.steps_of.ensures)

pub invariant_of-self : goal.invariant_of-self
invariant_of-self g c =
    let grown = publish_grows c.self.inside.core c.publish-done.new.self c.worker.result c.args.piece c.publish-done.result c.publish-done.ensures in
    (omega (arith, grown.longer, c.self.invariant.0, c.book.ensures.steps, c.steps_of-before.ensures, c.steps_of.ensures), grown.claims ∙ c.self.invariant.1, c.self.invariant.2)

pub returns-clause-core : goal.returns-clause-core
returns-clause-core g c =
    publish_as c.args.self.now c.self.inside.core c.publish-done.new.self c.args.pass.now.pass.number c.worker.result c.args.piece c.publish-done.result
    c.self.view_is c.worker.ensures.is c.publish-done.ensures

pub returns-clause-booked : goal.returns-clause-booked
returns-clause-booked g c =
    let grown = publish_grows c.self.inside.core c.publish-done.new.self c.worker.result c.args.piece c.publish-done.result c.publish-done.ensures in
    let booked = ap (λ (p : BookedPass). p.booked) c.book.ensures.pass in
    grown.books c.args.pass.now.booked c.book.new.self.booked (omega (arith, booked, c.steps_of-before.ensures, c.steps_of.ensures))
