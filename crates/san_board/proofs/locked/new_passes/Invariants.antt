use Rattle.std.proofs.Common.{◌≡◌, ◌+◌, suc}
use Rattle.san_board.specs.Passes.{IsNewCrew}
use Rattle.san_board.proofs.locked.new_passes.Given as goal

abbrev pub invariant-workers : goal.invariant-workers
invariant-workers g l =
    record {
      parts : l.all.parts + l.worker ≡ suc l.workers;
      amount : l.all.amount ≡ 0;
      passes : IsNewCrew l.worker l.passes.items;
    }
