use Rattle.std.proofs.Common.{ap, map, string_bytes, ◌∙◌}
use Rattle.clap.specs.Words.{app_of, found_of, one_text, is_simple, is_simple_and_free}
use Rattle.san_words.specs.Commands.{batch_app}
use Rattle.san_words.specs.Hears.{BatchSay, Texts}
use Rattle.san_words.proofs.SaysLemmas.{batch_is_free, batch_is_simple, no_batch, not_both, said_of_words}
use Rattle.san_words.proofs.words.hear_batch.Goals as goal

pub find-requires-clause-simple : goal.find-requires-clause-simple
find-requires-clause-simple c = ap is_simple c.in-Ok.ensures ∙ batch_is_simple

pub find-requires-clause-free : goal.find-requires-clause-free
find-requires-clause-free c = ap is_simple_and_free c.in-Ok.ensures ∙ batch_is_free

pub returns-then-has_seeds-clause-heard : goal.returns-then-has_seeds-clause-heard
returns-then-has_seeds-clause-heard c =
    let said = said_of_words (λ (f : Texts). BatchSay f c.batch_orders-orders.result) (app_of c.in-Ok.command) batch_app (map string_bytes c.args.words.now) (one_text (found_of c.in-Ok-find.matches)) c.in-Ok.ensures c.in-Ok-find.ensures c.batch_orders-orders.ensures.say in
    (said.0, said.1, c.has_seeds.ensures.0 c.if-has_seeds.true)

pub returns-in-Ok-find-clause-heard : goal.returns-in-Ok-find-clause-heard
returns-in-Ok-find-clause-heard c =
    no_batch (app_of c.in-Ok.command) (map string_bytes c.args.words.now) (one_text (found_of c.in-Ok-find.matches)) c.batch_orders-orders.result c.in-Ok.ensures c.in-Ok-find.ensures c.batch_orders-orders.ensures.say
    (λ h. not_both c.has_seeds.result (c.has_seeds.ensures.1 h) c.if-has_seeds.false)
