use Rattle.std.proofs.Common.{ap, ◌∙◌}
use Rattle.san_lex.specs.declared.sign.Mark.TheVariants as mark
use Rattle.san_lex.specs.declared.sign.Sign.TheVariants as sign
use Rattle.san_lex.specs.Lexer.{Fixed}
use Rattle.san_show.specs.inner.Pages.{Written, put, written}
use Rattle.san_show.proofs.PageLemmas.{items_turn, all_words, behind_comma}
use Rattle.san_show.proofs.list.show_behind_commas.Goals as goal

pub next-preserved : goal.next-preserved
next-preserved g c =
    items_turn (behind_comma g.T.Shown.words) c.args.items.now c.next.item-index c.item-item.result c.next.page c.show.new.page (written c.args.page.now (all_words (behind_comma g.T.Shown.words) c.args.items.now)) c.next-test.true
    (c.in_ok-show.ensures ∙ ap (λ (q : Written). written q (g.T.Shown.words c.item-item.result)) c.in_ok-put_mark.ensures ∙ ap (λ x. written (put c.next.page (Fixed (sign.Mark mark.Comma))) (g.T.Shown.words x)) c.item-item.is) c.next.invariant
