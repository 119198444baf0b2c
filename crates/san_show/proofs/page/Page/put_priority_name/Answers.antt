use Rattle.std.specs.Prelude.{codes}
use Rattle.std.proofs.Common.{◌∙◌}
use Rattle.std.proofs.lemmas.Result.{on_ok_weaker}
use Rattle.san_show.proofs.PageLemmas.{put_named}
use Rattle.san_show.proofs.page.Page.put_priority_name.Goals as goal

pub returns : goal.returns
returns c = on_ok_weaker c.put_text.result (λ e. e ∙ put_named c.args.self.now (codes "priority")) c.put_text.ensures
