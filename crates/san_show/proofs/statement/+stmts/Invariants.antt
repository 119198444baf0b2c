use Rattle.std.proofs.Common.{◌≡◌, drop}
use Rattle.san_text.specs.Spelling.{stmt_words}
use Rattle.san_show.specs.inner.Pages.{written}
use Rattle.san_show.proofs.PageLemmas.{all_words}
use Rattle.san_show.proofs.statement.+stmts.Given as goal

abbrev pub invariant-show_statements-next : goal.invariant-show_statements-next
invariant-show_statements-next l = written l.page (all_words stmt_words (drop l.statement-index l.body)) ≡ written l.initial.page (all_words stmt_words l.body)
