use Rattle.std.proofs.Common.{◌≡◌, drop}
use Rattle.san_net.proofs.FirstLemmas.{Stands}
use Rattle.san_net.proofs.first.first_among.Given as goal

abbrev pub invariant-loop-act : goal.invariant-loop-act
invariant-loop-act g l =
    let was = g.V.Marked.view_state l.fn.view in
    record {
      stands : Stands l.acts was (g.V.Marked.view_state l.view) l.order (drop l.act-index l.order);
      places : (g.V.Marked.view_state l.view).places ≡ was.places;
    }
