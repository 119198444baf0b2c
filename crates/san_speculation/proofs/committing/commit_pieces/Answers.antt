use Rattle.std.proofs.Common.{ap, arith, length, sym, ◌∙◌}
use Rattle.san_net.specs.Network.{Network}
use Rattle.san_speculation.proofs.Commits.{first_head, next_head}
use Rattle.san_speculation.proofs.Soonests.{low_then}
use Rattle.san_speculation.proofs.committing.commit_pieces.Goals as goal

pub pieces-init : goal.pieces-init
pieces-init c = record {
  least = omega arith;
  most = omega arith;
  taken = first_head c.args.machine.now c.args.ahead.now c.commit_head.new.machine c.commit_head.new.ahead c.commit_head.ensures.taken;
  low = c.commit_head.ensures.low;
  keys = c.commit_head.ensures.keys;
}

pub commit_head-requires-in-pieces-clause-sizes : goal.commit_head-requires-in-pieces-clause-sizes
commit_head-requires-in-pieces-clause-sizes c = let t = c.pieces.invariant.taken in t.chains ∙ (c.requires.sizes ∙ ap (λ (n : Network). length n.parts) (sym t.run.network))

pub commit_head-requires-in-pieces-clause-keys : goal.commit_head-requires-in-pieces-clause-keys
commit_head-requires-in-pieces-clause-keys c = c.pieces.invariant.keys ∙ (c.requires.keys ∙ ap (λ (n : Network). length n.parts) (sym c.pieces.invariant.taken.run.network))

pub pieces-preserved : goal.pieces-preserved
pieces-preserved c = record {
  least = omega arith;
  most = omega (arith, c.pieces-test.true);
  taken = next_head c.args.machine.now c.args.ahead.now c.pieces.pieces c.pieces.machine c.pieces.ahead c.commit_head-in-pieces.new.machine c.commit_head-in-pieces.new.ahead c.pieces.invariant.taken c.commit_head-in-pieces.ensures.taken;
  low = low_then c.args.machine.now c.pieces.machine c.commit_head-in-pieces.new.machine c.args.ahead.now c.pieces.ahead c.commit_head-in-pieces.new.ahead c.args.soonest.now c.pieces.soonest c.commit_head-in-pieces.new.soonest c.pieces.invariant.low c.commit_head-in-pieces.ensures.low;
  keys = c.commit_head-in-pieces.ensures.keys ∙ c.pieces.invariant.keys;
}
