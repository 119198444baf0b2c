use Rattle.std.proofs.Common.{ap, drop, length, map, List, ◌+◌, ◌∙◌, ◌≡◌}
use Rattle.san_book.specs.Chains.{with_piece}
use Rattle.san_decide.specs.Booked.{of_piece}
use Rattle.std.specs.Prelude.{slice_index_or, slice_set}
use Rattle.san_ahead.specs.Aheads.{line_in, no_line}
use Rattle.san_line.specs.Lines.{find}
use Rattle.std.proofs.lemmas.List.{take_at}
use Rattle.san_line.specs.Lines.{LineValue}
use Rattle.san_ahead.specs.Ahead.{ahead_by}
use Rattle.san_ahead.proofs.AheadLemmas.{back_seen, goes_on_seen, new_seen, number_at, push_seen, put_long, same_long}
use Rattle.san_ahead.proofs.ahead.Ahead.push.Goals as goal

pub push_piece-requires-clause-new : goal.push_piece-requires-clause-new
push_piece-requires-clause-new c i l =
    ap (λ (ls : List LineValue). find c.args.leaf.0 c.index-pos.result.now (slice_index_or ls (slice_index_or c.args.piece.outcome.writes i (0, 0)).0 no_line).versions) c.deref_mut.ensures.value
    ∙ new_seen c.self.inside.chains.items c.self.inside.counters.items c.self.inside.lines.items c.args.self.now c.self.view_is c.args.leaf.0 c.requires.leaf c.index_mut.result.now c.index_mut.ensures.value c.index-pos.result.now (number_at c.self.inside.chains.items c.self.inside.counters.items c.self.inside.lines.items c.args.self.now c.self.view_is c.args.leaf.0 c.requires.leaf c.index_mut.result.now c.index_mut.ensures.value c.index-pos.result.now c.requires.number c.index-pos.ensures) c.requires.new (slice_index_or c.args.piece.outcome.writes i (0, 0)).0

pub push_piece-requires-clause-goes_on : goal.push_piece-requires-clause-goes_on
push_piece-requires-clause-goes_on c = goes_on_seen c.self.inside.chains.items c.self.inside.counters.items c.self.inside.lines.items c.args.self.now c.self.view_is c.args.leaf.0 c.requires.leaf c.index_mut.result.now c.index_mut.ensures.value c.args.piece.base c.requires.goes_on

pub returns-in-Ok-clause-pushed : goal.returns-in-Ok-clause-pushed
returns-in-Ok-clause-pushed c =
    let did = c.in-Ok.ensures in
    let long : length c.push_piece.new.lines ≡ c.self.inside.lines.len = put_long c.deref_mut.result.now c.push_piece.new.lines c.args.leaf.0 c.index-pos.result.now c.args.piece did.pushed ∙ c.deref_mut.ensures.len in
    ap (λ (ls : List LineValue). ahead_by (slice_set c.self.inside.chains.items c.args.leaf.0 c.push_piece.new.chain) (slice_set c.self.inside.counters.items c.args.leaf.0 (c.index-pos.result.now + 1)) ls) (take_at c.push_piece.new.lines (drop (length c.push_piece.new.lines) c.self.inside.lines.items) c.self.inside.lines.len long)
    ∙ push_seen c.self.inside.chains.items c.self.inside.counters.items c.self.inside.lines.items c.args.self.now c.self.view_is c.args.leaf.0 c.requires.leaf c.index_mut.result.now c.index_mut.ensures.value c.index-pos.result.now c.args.piece c.push_piece.new.chain c.push_piece.new.lines (number_at c.self.inside.chains.items c.self.inside.counters.items c.self.inside.lines.items c.args.self.now c.self.view_is c.args.leaf.0 c.requires.leaf c.index_mut.result.now c.index_mut.ensures.value c.index-pos.result.now c.requires.number c.index-pos.ensures) did.chain
    (did.pushed ∙ ap (λ (ls : List LineValue). with_piece of_piece c.args.leaf.0 c.index-pos.result.now c.args.piece (map line_in ls)) c.deref_mut.ensures.value)

pub returns-in-Err-clause-back : goal.returns-in-Err-clause-back
returns-in-Err-clause-back c =
    let back = c.in-Err.ensures.back in
    let long : length c.push_piece.new.lines ≡ c.self.inside.lines.len = same_long c.deref_mut.result.now c.push_piece.new.lines back.1 ∙ c.deref_mut.ensures.len in (
      back.0,
      ap (λ (ls : List LineValue). ahead_by (slice_set c.self.inside.chains.items c.args.leaf.0 c.push_piece.new.chain) c.self.inside.counters.items ls) (take_at c.push_piece.new.lines (drop (length c.push_piece.new.lines) c.self.inside.lines.items) c.self.inside.lines.len long)
          ∙ back_seen c.self.inside.chains.items c.self.inside.counters.items c.self.inside.lines.items c.args.self.now c.self.view_is c.args.leaf.0 c.requires.leaf c.index_mut.result.now c.index_mut.ensures.value c.push_piece.new.chain c.push_piece.new.lines back.2 (back.1 ∙ ap (map line_in) c.deref_mut.ensures.value),
    )
