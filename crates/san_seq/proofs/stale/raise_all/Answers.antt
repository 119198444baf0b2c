use Rattle.std.proofs.Common.{arith, ◌∙◌, ap, true, replicate}
use Rattle.san_seq.proofs.FlaggedLemmas.{all_are}
use Rattle.san_seq.proofs.stale.raise_all.Goals as goal

pub returns : goal.returns
returns c = all_are true c.flags.flags (λ i h. c.flags.invariant.up i (omega (arith, h, c.flags-test.false, c.flags.invariant.sized))) ∙ ap (λ n. replicate n true) c.flags.invariant.sized
