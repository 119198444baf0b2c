use Rattle.std.proofs.Common.{ap, ◌∙◌}
use Rattle.san_ahead.specs.Ahead.{last_of}
use Rattle.san_ahead.proofs.AheadLemmas.{chain_seen, match_map}
use Rattle.san_ahead.proofs.ahead.Ahead.last.Goals as goal

pub returns : goal.returns
returns c =
    let seen = chain_seen c.self.inside.chains.items c.self.inside.counters.items c.self.inside.lines.items c.args.self.now c.self.view_is c.args.leaf.0 c.requires c.index.result.now c.index.ensures in
    match_map c.last_piece.result (λ none. seen ∙ none) (λ p last. ap last_of seen ∙ last) c.last_piece.ensures
