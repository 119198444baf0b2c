use Rattle.std.proofs.Common.{ap, ◌∙◌}
use Rattle.san_show.specs.inner.Pages.{written}
use Rattle.san_show.proofs.PageLemmas.{items_turn, all_words}
use Rattle.san_show.proofs.list.show_all.Goals as goal

pub next-preserved : goal.next-preserved
next-preserved g c =
    items_turn g.T.Shown.words c.args.items.now c.next.item-index c.item-item.result c.next.page c.show.new.page (written c.args.page.now (all_words g.T.Shown.words c.args.items.now)) c.next-test.true
    (c.in_ok-show.ensures ∙ ap (λ x. written c.next.page (g.T.Shown.words x)) c.item-item.is) c.next.invariant
