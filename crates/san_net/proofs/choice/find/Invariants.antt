use Rattle.std.proofs.Common.{◌≡◌, IsTrue, drop}
use Rattle.san_net.specs.Below.{cases_below}
use Rattle.san_net.proofs.TurnLemmas.{Finds}
use Rattle.san_net.proofs.choice.find.Given as goal

abbrev pub invariant-loop-at : goal.invariant-loop-at
invariant-loop-at g l =
    let was = g.V.Marked.view_state l.fn.view in
    record {
      finds : Finds was (g.V.Marked.view_state l.view) l.cases l.picked l.left l.at (drop l.at l.cases);
      places : (g.V.Marked.view_state l.view).places ≡ was.places;
      below : IsTrue (cases_below (drop l.at l.cases) was.places);
    }
