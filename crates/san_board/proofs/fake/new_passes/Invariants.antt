use Rattle.san_board.specs.Fakes.{AreFakes}
use Rattle.san_board.proofs.fake.new_passes.Given as goal

abbrev pub invariant-workers : goal.invariant-workers
invariant-workers l = AreFakes l.worker l.passes.items
