use Rattle.std.proofs.Common.{List, ap, drop, length, map, ◌≡◌, ◌∙◌}
use Rattle.std.specs.Prelude.{slice_set}
use Rattle.std.proofs.lemmas.List.{take_at}
use Rattle.san_book.specs.Chains.{without_pieces}
use Rattle.san_chain.specs.Chains.{ChainValue}
use Rattle.san_decide.specs.Booked.{of_piece}
use Rattle.san_leaf.specs.Pieces.{PieceValue}
use Rattle.san_line.specs.Lines.{LineValue}
use Rattle.san_ahead.specs.Ahead.{ahead_by}
use Rattle.san_ahead.specs.Aheads.{line_in}
use Rattle.san_ahead.proofs.AheadLemmas.{cut_long, cut_seen}
use Rattle.san_ahead.proofs.ahead.Ahead.cut.Goals as goal

pub returns : goal.returns
returns c =
    let long : length c.cut_chain.new.lines ≡ c.self.inside.lines.len = cut_long c.deref_mut.result.now c.cut_chain.new.lines c.args.leaf.0 (drop c.args.from c.index_mut.result.now.pieces) c.cut_chain.ensures.lines ∙ c.deref_mut.ensures.len in
    ap (λ (ls : List LineValue). ahead_by (slice_set c.self.inside.chains.items c.args.leaf.0 c.cut_chain.new.chain) c.self.inside.counters.items ls) (take_at c.cut_chain.new.lines (drop (length c.cut_chain.new.lines) c.self.inside.lines.items) c.self.inside.lines.len long)
    ∙ cut_seen c.self.inside.chains.items c.self.inside.counters.items c.self.inside.lines.items c.args.self.now c.self.view_is c.args.leaf.0 c.requires.leaf c.index_mut.result.now c.index_mut.ensures.value c.args.from c.cut_chain.new.chain c.cut_chain.new.lines
    (c.cut_chain.ensures.lines ∙ ap (λ (ls : List LineValue). without_pieces of_piece c.args.leaf.0 (drop c.args.from c.index_mut.result.now.pieces) (map line_in ls)) c.deref_mut.ensures.value)
    (ap (λ (x : ChainValue PieceValue). x.pieces) c.cut_chain.ensures.chain)
