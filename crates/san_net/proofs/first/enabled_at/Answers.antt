use Rattle.san_net.proofs.FirstLemmas.{evaluates_at, evaluates_past, test_below}
use Rattle.san_net.proofs.first.enabled_at.Goals as goal

pub enabled-requires : goal.enabled-requires
enabled-requires g c =
    let found = c.in-Some.ensures.lookup in
    test_below c.args.acts.now c.args.at (g.V.Marked.view_state c.args.view.now).places c.in-Some.act.now found.3.0 found.1 c.requires

pub returns-in-Some : goal.returns-in-Some
returns-in-Some g c =
    let found = c.in-Some.ensures.lookup in
    evaluates_at c.args.acts.now c.args.at c.in-Some.act.now (g.V.Marked.view_state c.args.view.now) (g.V.Marked.view_state c.enabled.new.view) c.enabled.result found.3.0 found.1 c.enabled.ensures

pub returns-in-None : goal.returns-in-None
returns-in-None g c = evaluates_past c.args.acts.now c.args.at (g.V.Marked.view_state c.args.view.now) c.in-None.ensures.lookup.3
