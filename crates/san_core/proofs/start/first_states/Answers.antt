use Rattle.std.proofs.Common.{◌∙◌, ◌++◌, ◌∷◌, [], ap, sym, Some}
use Rattle.san_law.specs.Piece.{LeafState}
use Rattle.san_leaf.specs.Pieces.{opened_state}
use Rattle.san_net.specs.declared.part.Part.{Part}
use Rattle.san_core.proofs.Lists.{taken_more}
use Rattle.san_core.proofs.start.first_states.Goals as goal

pub leaves-preserved : goal.leaves-preserved
leaves-preserved c =
    c.in_ok-push.ensures.items
    ∙ (ap (λ (l : LeafState). c.leaves.states.items ++ l ∷ []) (c.in_ok-new.ensures ∙ c.in_ok-state.ensures)
    ∙ taken_more opened_state c.args.flat.now.parts c.leaves.leaf c.get.result.now c.leaves.states.items (c.part.ensures ∙ ap (λ (p : Part). Some p) (sym c.get.ensures)) c.leaves.invariant)
