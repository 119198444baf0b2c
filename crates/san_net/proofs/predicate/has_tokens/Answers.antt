use Rattle.san_net.proofs.EnabledLemmas.{evaluates_has}
use Rattle.san_net.proofs.predicate.has_tokens.Goals as goal

pub returns : goal.returns
returns g c =
    evaluates_has (g.V.Marked.view_state c.args.view.now) (g.V.Marked.view_state c.read.new.self) c.args.place c.args.weight c.read.result c.requires c.read.ensures
