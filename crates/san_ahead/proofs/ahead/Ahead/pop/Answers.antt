use Rattle.std.proofs.Common.{ℕ, List, ap, drop, length, map, sym, ◌≡◌, ◌∙◌}
use Rattle.std.specs.Prelude.{slice_set}
use Rattle.std.proofs.lemmas.List.{take_at}
use Rattle.san_book.specs.Lines.{each, withdraw}
use Rattle.san_line.specs.Lines.{LineValue}
use Rattle.san_leaf.specs.States.{pair_in}
use Rattle.san_ahead.specs.Ahead.{TakesOut, ahead_by}
use Rattle.san_ahead.specs.Aheads.{line_in}
use Rattle.san_ahead.proofs.AheadLemmas.{head_seen}
use Rattle.san_ahead.proofs.ChainLemmas.{each_long}
use Rattle.std.proofs.Common.{subst}
use Rattle.san_ahead.proofs.ahead.Ahead.pop.Goals as goal

pub returns : goal.returns
returns c =
    let writes : map pair_in c.deref.result.now ≡ c.in-Some.piece.outcome.writes = ap (map pair_in) c.deref.ensures.value ∙ ap (λ o. o.writes) c.outcome.ensures.same in
    let gone : map line_in c.withdraw_writes.new.lines ≡ each (withdraw c.args.leaf.0 c.in-Some.pos) c.in-Some.piece.outcome.writes (map line_in c.deref_mut.result.now) =
    c.withdraw_writes.ensures ∙ ap (λ (ws : List (ℕ × ℕ)). each (withdraw c.args.leaf.0 c.in-Some.pos) ws (map line_in c.deref_mut.result.now)) writes in
    let long : length c.withdraw_writes.new.lines ≡ c.self.inside.lines.len = sym (each_long c.deref_mut.result.now c.withdraw_writes.new.lines (withdraw c.args.leaf.0 c.in-Some.pos) c.in-Some.piece.outcome.writes gone) ∙ c.deref_mut.ensures.len in
    subst (λ (ls : List LineValue). TakesOut c.args.self.now c.args.leaf.0 c.in-Some.piece (ahead_by (slice_set c.self.inside.chains.items c.args.leaf.0 c.pop_front.new.self) c.self.inside.counters.items ls))
    (sym (take_at c.withdraw_writes.new.lines (drop (length c.withdraw_writes.new.lines) c.self.inside.lines.items) c.self.inside.lines.len long))
    (head_seen c.self.inside.chains.items c.self.inside.counters.items c.self.inside.lines.items c.args.self.now c.self.view_is c.args.leaf.0 c.requires.leaf c.index_mut.result.now c.index_mut.ensures.value c.in-Some.pos c.in-Some.piece c.pop_front.new.self c.withdraw_writes.new.lines c.in-Some.ensures.pieces
    (gone ∙ ap (λ (ls : List LineValue). each (withdraw c.args.leaf.0 c.in-Some.pos) c.in-Some.piece.outcome.writes (map line_in ls)) c.deref_mut.ensures.value))
