use Rattle.std.proofs.Common.{arith}
use Rattle.san_tree.proofs.ValidLemmas.{join-valid}
use Rattle.san_tree.proofs.valid.is_valid.Goals as goal

pub returns-then-len-le-MAX_SHARES : goal.returns-then-len-le-MAX_SHARES
returns-then-len-le-MAX_SHARES c =
    let valid = join-valid c.args.n c.args.node.now c.as_slice.result.now c.in-Join.children c.in-Join.shares c.in-Join.is c.as_slice.ensures (omega (arith, c.len.ensures, c.if-len-le-MAX_SHARES.true)) in
    (λ t. valid.0 (c.are_earlier.ensures.0 t), λ v. c.are_earlier.ensures.1 (valid.1 v))
