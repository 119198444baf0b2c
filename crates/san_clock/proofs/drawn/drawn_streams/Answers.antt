use Rattle.std.proofs.Common.{◌∙◌, ◌++◌, List, Some, ap, sym}
use Rattle.san_clock.proofs.DrawnLemmas.{leaf_more}
use Rattle.san_clock.specs.Drawn.{drawn_in}
use Rattle.san_net.specs.Instants.{Named}
use Rattle.san_net.specs.declared.atomic.Atomic.{Atomic}
use Rattle.san_net.specs.declared.part.Part.{Part}
use Rattle.san_clock.proofs.drawn.drawn_streams.Goals as goal

pub leaves-preserved : goal.leaves-preserved
leaves-preserved c =
    leaf_more c.args.flat.now.parts c.leaves.leaf c.get.result.now c.leaves.drawn.items c.push_drawn.new.drawn.items
    (c.part.ensures ∙ ap (λ (p : Part). Some p) (sym c.get.ensures)) c.leaves.invariant (c.in_ok-push_drawn.ensures ∙ ap (λ (acts : List Named). c.leaves.drawn.items ++ drawn_in acts)
    (c.as_slice.ensures ∙ ap (λ (a : Atomic). a.acts) c.get-atomic.ensures))
