-- The need of an order, with activities by the network's numbers.
use Rattle.std.specs.Prelude.{ℕ, ◌+◌, List, slice_index}
use Rattle.san_law.specs.Order as law
use Rattle.san_law.specs.Piece.{Fire, Refresh, Settle}
use Rattle.san_turn.specs.declared.need.Need.{Need}
use Rattle.san_turn.specs.declared.need.Need.TheVariants as need

-- the law numbers activities in their leaf; here they go on from the leaf's first one. A block and a renewal are at the order's time
abbrev pub need_in : List ℕ → law.Need → Need
need_in firsts (law.Needs j Settle time) = need.Settle (record { 0 = j })
need_in firsts (law.Needs j Refresh time) = need.Refresh (record { 0 = j })
need_in firsts (law.Needs j (Fire k) time) = need.Fire (record { 0 = j }) (record { 0 = slice_index firsts j + k }) (record { 0 = time })
need_in firsts law.Finished = need.End
