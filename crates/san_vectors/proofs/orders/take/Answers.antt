use Rattle.std.proofs.Common.{◌∙◌, ap}
use Rattle.san_turn.specs.Changes.{OrderValue}
use Rattle.san_vectors.proofs.orders.take.Goals as goal
use Rattle.san_vectors.proofs.orders.take.Goals.{then-leaf-leaves, else-leaf-leaves}

pub returns : goal.returns
returns c = elim c.if-leaf-leaves.branch [
  | then-leaf-leaves w ↦ ap (λ (x : OrderValue). x.firsts) (w.order-is ∙ w.took.ensures (λ s k. 0) (record { horizon = 0; burst = 0; events = 0 }))
  | else-leaf-leaves w ↦ ap (λ (x : OrderValue). x.firsts) w.order-is
]
