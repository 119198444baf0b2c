use Rattle.std.proofs.Common.{ap, ◌∙◌}
use Rattle.clap.specs.Words.{is_simple, is_simple_and_free}
use Rattle.san_words.proofs.SaysLemmas.{plain_is_free, plain_is_simple}
use Rattle.san_words.proofs.words.hear_plain.Goals as goal

pub find-requires-clause-simple : goal.find-requires-clause-simple
find-requires-clause-simple c = ap is_simple c.in-Ok.ensures ∙ plain_is_simple

pub find-requires-clause-free : goal.find-requires-clause-free
find-requires-clause-free c = ap is_simple_and_free c.in-Ok.ensures ∙ plain_is_free
