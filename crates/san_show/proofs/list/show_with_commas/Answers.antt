use Rattle.san_show.proofs.PageLemmas.{commas_shown}
use Rattle.san_show.proofs.list.show_with_commas.Goals as goal

pub returns-in_ok-show-in-len1-up : goal.returns-in_ok-show-in-len1-up
returns-in_ok-show-in-len1-up g c =
    commas_shown g.T.Shown.words c.args.items.now c.first-item.result c.args.page.now c.show.new.page c.show_behind_commas.new.page c.show_behind_commas.result c.in-len1-up.len_at_least c.first-item.is c.in_ok-show-in-len1-up.ensures c.show_behind_commas.ensures
