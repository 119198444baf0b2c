use Rattle.std.proofs.Common.{◌∙◌, ap, map}
use Rattle.san_leaf.specs.States.{pair_in}
use Rattle.san_ahead.proofs.LineLemmas.{none_there}
use Rattle.san_ahead.proofs.chains.push_piece.Goals as goal

pub put_writes-requires-clause-new : goal.put_writes-requires-clause-new
put_writes-requires-clause-new c =
    none_there c.reserve_writes.new.lines c.args.lines.now c.deref-2.result.now c.args.piece.outcome.writes c.args.leaf.0 c.args.pos c.reserve_writes.ensures.same (ap (map pair_in) c.deref-2.ensures.value ∙ ap (λ o. o.writes) c.outcome.ensures.same) c.requires.new
