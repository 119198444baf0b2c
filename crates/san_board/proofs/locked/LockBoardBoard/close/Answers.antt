use Rattle.std.proofs.Common.{◌∙◌, sym}
use Rattle.std.specs.Prelude.{suc}
use Rattle.san_board.proofs.Crews.{crew_long}
use Rattle.san_board.proofs.locked.LockBoardBoard.close.Goals as goal

pub settle-requires : goal.settle-requires
settle-requires g c = crew_long (suc c.args.self.workers) c.as_slice.result.now c.args.passes.items c.as_slice.ensures.value (sym c.is_crew.ensures ∙ c.if-not-is_crew.false) ∙ c.args.self.crew
