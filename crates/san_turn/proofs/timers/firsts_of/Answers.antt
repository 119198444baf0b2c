use Rattle.std.proofs.Common.{◌∙◌, ap, sym, Some}
use Rattle.san_net.specs.declared.part.Part.{Part}
use Rattle.san_turn.proofs.Timed.{firsts_more}
use Rattle.san_turn.proofs.timers.firsts_of.Goals as goal

pub leaves-preserved : goal.leaves-preserved
leaves-preserved c =
    c.in_ok-push.ensures.items
    ∙ firsts_more c.args.flat.now.parts c.leaves.leaf c.get-part.result.now c.leaves.firsts.items (c.part.ensures ∙ ap (λ (p : Part). Some p) (sym c.get-part.ensures)) c.leaves.invariant
