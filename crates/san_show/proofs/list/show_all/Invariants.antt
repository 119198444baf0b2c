use Rattle.std.proofs.Common.{◌≡◌, drop}
use Rattle.san_show.specs.inner.Pages.{written}
use Rattle.san_show.proofs.PageLemmas.{all_words}
use Rattle.san_show.proofs.list.show_all.Given as goal

abbrev pub invariant-next : goal.invariant-next
invariant-next g l = written l.page (all_words g.T.Shown.words (drop l.item-index l.items)) ≡ written l.initial.page (all_words g.T.Shown.words l.items)
