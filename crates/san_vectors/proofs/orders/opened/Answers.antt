use Rattle.std.proofs.Common.{ap}
use Rattle.san_turn.specs.Changes.{OrderValue}
use Rattle.san_vectors.proofs.orders.opened.Goals as goal

pub returns : goal.returns
returns c = ap (λ (x : OrderValue). x.firsts) (c.in_ok-order.ensures (λ s k. 0) (record { horizon = 0; burst = 0; events = 0 }))
