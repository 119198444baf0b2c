use Rattle.std.proofs.Common.{suc, ◌-◌, ◌≡◌, arith, length}
use Rattle.san_ahead.proofs.NextLemmas.{last_at}
use Rattle.san_ahead.proofs.chains.last_piece.Goals as goal

pub returns : goal.returns
returns c =
    let long : c.len-count.result ≡ length c.args.chain.now.pieces = c.len-count.ensures in
    let one : suc (c.len-count.result - 1) ≡ length c.args.chain.now.pieces = omega (arith, long, c.if-count-eq0.false) in
    last_at c.args.chain.now.pieces (c.len-count.result - 1) (c.in-Some.last.0, c.in-Some.last.1.now) one c.in-Some.ensures.1
