use Rattle.san_ahead.proofs.AheadLemmas.{chain_seen, head_in, match_map}
use Rattle.std.proofs.Common.{◌∙◌}
use Rattle.san_ahead.proofs.ahead.Ahead.head.Goals as goal

pub returns : goal.returns
returns c =
    match_map c.head.result
    (λ none. chain_seen c.self.inside.chains.items c.self.inside.counters.items c.self.inside.lines.items c.args.self.now c.self.view_is c.args.leaf.0 c.requires c.index.result.now c.index.ensures ∙ none)
    (λ p first. head_in c.self.inside.chains.items c.self.inside.counters.items c.self.inside.lines.items c.args.self.now c.self.view_is c.args.leaf.0 c.requires c.index.result.now c.index.ensures p.now first)
    c.head.ensures
