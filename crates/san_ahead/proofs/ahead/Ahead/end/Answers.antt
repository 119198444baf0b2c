use Rattle.std.proofs.Common.{◌∙◌}
use Rattle.san_ahead.proofs.AheadLemmas.{chain_seen, end_seen, match_map}
use Rattle.san_ahead.proofs.ahead.Ahead.end.Goals as goal

pub returns : goal.returns
returns c =
    match_map c.end.result
    (λ none. chain_seen c.self.inside.chains.items c.self.inside.counters.items c.self.inside.lines.items c.args.self.now c.self.view_is c.args.leaf.0 c.requires c.index.result.now c.index.ensures ∙ none)
    (λ s last. end_seen c.self.inside.chains.items c.self.inside.counters.items c.self.inside.lines.items c.args.self.now c.self.view_is c.args.leaf.0 c.requires c.index.result.now c.index.ensures s.now last)
    c.end.ensures
