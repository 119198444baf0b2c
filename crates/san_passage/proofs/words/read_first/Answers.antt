use Rattle.std.proofs.Common.{Err, ap, refl}
use Rattle.san_serve.proofs.ServeLemmas.{serves_none}
use Rattle.san_passage.specs.Firsts.{first_meaning}
use Rattle.san_passage.proofs.words.read_first.Goals as goal

pub returns-in-Err-Over-clause-answer : goal.returns-in-Err-Over-clause-answer
returns-in-Err-Over-clause-answer g c =
    serves_none (first_meaning c.args.orders) c.model_bound-bound.result c.too_long.result (g.S.Source.left c.args.source.now) (g.S.Source.left c.take_all.new.source) (g.K.Sink.held c.args.sink.now) (g.K.Sink.held c.args.sink.now)
    c.model_bound-bound.ensures c.too_long.ensures (c.in-Err-Over.ensures.over (ap Err c.in-Err-Over.field-0-is)) refl
