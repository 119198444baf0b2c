use Rattle.std.proofs.Common.{◌≡◌, IsTrue, drop}
use Rattle.san_net.specs.Below.{cases_below}
use Rattle.san_net.proofs.TurnLemmas.{Sums}
use Rattle.san_net.proofs.choice.total.Given as goal

abbrev pub invariant-loop-case : goal.invariant-loop-case
invariant-loop-case g l =
    let was = g.V.Marked.view_state l.fn.view in
    record {
      sums : Sums was (g.V.Marked.view_state l.view) l.cases l.sum (drop l.case-index l.cases);
      places : (g.V.Marked.view_state l.view).places ≡ was.places;
      below : IsTrue (cases_below (drop l.case-index l.cases) was.places);
    }
