-- A piece that was made ahead, where its leaf saw the committed values.
use Rattle.std.proofs.Common.{ℕ, ◌∙◌, ap, sym, List}
use Rattle.san_law.specs.Net.{Net, without_timer}
use Rattle.san_law.specs.Block.{settle}
use Rattle.san_law.specs.Piece.{Fire, Refresh, Settle, fired_outcome, outcome_of, renewed_outcome}
use Rattle.san_law.specs.Core.{advance, leaf_of, take_need, taken}
use Rattle.san_law.specs.Laws.{AheadIsNeeded, SameView}

pub same_view : (net : Net) → SameView net
same_view net j Settle time base a b e = ap (λ (vs : List ℕ). outcome_of net j base.seen (settle net j 64 (record { values = vs; row = base.row }))) e
same_view net j (Fire k) time base a b e = ap (λ (vs : List ℕ). fired_outcome net 63 j base k (net.done j k (record { values = vs; row = without_timer base.row k }))) e
same_view net j Refresh time base a b e = ap (λ (vs : List ℕ). renewed_outcome net j base vs (net.renewed j time base.seen (record { values = vs; row = base.row }))) e

pub ahead_is_needed : (net : Net) → AheadIsNeeded net
unfolding advance
ahead_is_needed net c j kind time shared need e = ap (taken net c j kind time) (same_view net j kind time (leaf_of c j) shared c.shared e) ∙ sym (ap (take_need net c) need)
