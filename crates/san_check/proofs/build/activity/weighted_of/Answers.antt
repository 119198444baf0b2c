use Rattle.san_check.specs.build.Activity.{case_of}
use Rattle.san_check.proofs.LoopLemmas.{map_turn}
use Rattle.san_check.proofs.build.activity.weighted_of.Goals as goal

pub cases-preserved : goal.cases-preserved
cases-preserved c =
    map_turn (case_of c.args.cells.now) c.args.cases.now c.cases.case-index c.case-item.result c.cases.made.items c.push.new.self.items c.in_ok-next.next c.cases-test.true c.case-item.is c.in_ok-push.ensures.items c.in_ok-next.ensures c.cases.invariant
