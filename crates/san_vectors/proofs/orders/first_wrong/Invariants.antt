use Rattle.std.proofs.Common.{◌≡◌, map}
use Rattle.san_net.specs.declared.part.Part.{Part}
use Rattle.san_vectors.proofs.orders.first_wrong.Given as goal

abbrev pub invariant-pieces : goal.invariant-pieces
invariant-pieces l = l.order.firsts ≡ map (λ (p : Part). p.first.0) l.flat.parts
