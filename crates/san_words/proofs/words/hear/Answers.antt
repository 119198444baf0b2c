use Rattle.std.proofs.Common.{ap, subst, map, string_bytes, ◌∙◌}
use Rattle.clap.specs.Words.{app_of, found_of, one_text, is_simple, is_simple_and_free}
use Rattle.san_words.specs.Commands.{IsTaken}
use Rattle.san_words.specs.Hears.{OrdersSay, Texts, texts_of}
use Rattle.san_words.proofs.SaysLemmas.{said_alike, run_is_free, run_is_simple}
use Rattle.san_words.proofs.words.hear.Goals as goal

pub find-requires-clause-simple : goal.find-requires-clause-simple
find-requires-clause-simple c = ap is_simple c.in-Ok.ensures ∙ run_is_simple

pub find-requires-clause-free : goal.find-requires-clause-free
find-requires-clause-free c = ap is_simple_and_free c.in-Ok.ensures ∙ run_is_free

pub returns-in-Ok-find-clause-heard : goal.returns-in-Ok-find-clause-heard
returns-in-Ok-find-clause-heard c =
    let words = map string_bytes c.args.words.now in
    let m = c.in-Ok-find.matches in
    let taken = c.in-Ok-find.ensures.0 in
    let texts = c.in-Ok-find.ensures.1 in (
      subst (λ a. IsTaken a words) c.in-Ok.ensures taken,
      subst (λ a. OrdersSay (texts_of a words) c.run_orders.result) c.in-Ok.ensures (said_alike (λ (f : Texts). OrdersSay f c.run_orders.result) (one_text (found_of m)) (texts_of (app_of c.in-Ok.command) words) texts c.run_orders.ensures.say),
    )
