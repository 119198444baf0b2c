use Rattle.std.proofs.Common.{◌≡◌, [], map, replicate}
use Rattle.san_chain.specs.Chains.{ChainValue}
use Rattle.san_leaf.specs.Pieces.{PieceValue}
use Rattle.san_ahead.proofs.ahead.no_chains.Given as goal

abbrev pub invariant-leaves : goal.invariant-leaves
invariant-leaves l = map (λ (c : ChainValue PieceValue). c.pieces) l.chains.items ≡ replicate l.counter []
