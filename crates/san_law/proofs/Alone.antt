-- A leaf's piece is that of its part alone.
use Rattle.std.proofs.Common.{ℕ, zero, suc, ◌≡◌, ◌∙◌, ap, refl, List, [], ◌∷◌, Some, map}
use Rattle.std.specs.Prelude.{Result, Ok, Err, slice_get, slice_index_or}
use Rattle.san_base.specs.declared.ending.Trap.{Trap}
use Rattle.san_law.specs.Activity.{Part, completed, first_instant}
use Rattle.san_law.specs.Network.{Limits, Network, net_of, no_part, part_at}
use Rattle.san_law.specs.Net.{Broken, Done, Enabled, Faulty, Found, Fresh, Local, Net, Nothing, Renewing, Slot, without_timer}
use Rattle.san_law.specs.Block.{Block, after_done, after_found, before, fault_of, more_of, settle}
use Rattle.san_law.specs.State.{part_of}
use Rattle.san_law.specs.Piece.{Fire, Kind, LeafState, Outcome, Refresh, Settle, dropped, fired_outcome, outcome_of, own, piece_of, renewed_outcome, sees, leaf_view, writes_from}
use Rattle.san_law.specs.Alone.{PieceIsAlone, alone}

get_is : (ps : List Part) (j : ℕ) (p : Part) → slice_get ps j ≡ Some p → slice_index_or ps j no_part ≡ p
get_is [] j p e = cc
get_is (q ∷ ps) zero p e = cc
get_is (q ∷ ps) (suc j) p e = get_is ps j p e

slots_at : (ps : List Part) (j : ℕ) → slice_index_or (map (λ (p : Part). p.slots) ps) j [] ≡ (slice_index_or ps j no_part).slots
slots_at [] j = refl
slots_at (q ∷ ps) zero = refl
slots_at (q ∷ ps) (suc j) = slots_at ps j

same_found : (f : Found) (go back : Local → Block) (done : ℕ → Result Done Trap) (l : Local) → ((m : Local) → go m ≡ back m) → after_found go done l f ≡ after_found back done l f
same_found Nothing go back done l h = refl
same_found (Broken k trap) go back done l h = refl
same_found (Enabled k) go back done l h = same_done (done k)
  where
    same_done : (d : Result Done Trap) → after_done go l k d ≡ after_done back l k d
    same_done (Err trap) = refl
    same_done (Ok d) = ap (before k d) (h d.left)

module _ (n : Network) (draw : ℕ → ℕ → ℕ) (limits any : Limits) (j : ℕ) where
  abbrev whole : Net
  whole = net_of draw n limits

  abbrev here : Net
  here = net_of draw (alone (part_at n j)) any

  slots : part_of whole j ≡ part_of here 0
  slots = slots_at n.parts j

  settles : (fuel : ℕ) (l : Local) → settle whole j fuel l ≡ settle here 0 fuel l
  settles zero l = refl
  settles (suc fuel) l = same_found (first_instant (part_at n j) l.values) (settle whole j fuel) (settle here 0 fuel) (λ k. completed draw (part_at n j) k l) l (settles fuel)

  outcomes : (seen : List ℕ) (b : Block) → outcome_of whole j seen b ≡ outcome_of here 0 seen b
  outcomes seen b = ap (λ (ss : List Slot). let o : Outcome = record { completions = b.completions; writes = writes_from b.sets 0 ss b.left.values; state = record { values = own ss b.left.values; row = b.left.row; seen = seen }; rates = []; fault = fault_of b.close; more = more_of b.close } in o) slots

  leaf_views : (base : LeafState) (shared : List ℕ) → leaf_view (part_of whole j) base.values shared ≡ leaf_view (part_of here 0) base.values shared
  leaf_views base shared = ap (λ (ss : List Slot). leaf_view ss base.values shared) slots

  fired : (fuel : ℕ) (base : LeafState) (k : ℕ) (d : Result Done Trap) → fired_outcome whole fuel j base k d ≡ fired_outcome here fuel 0 base k d
  fired fuel base k (Err trap) = refl
  fired fuel base k (Ok d) = ap (λ b. outcome_of whole j base.seen (before k d b)) (settles fuel d.left) ∙ outcomes base.seen (before k d (settle here 0 fuel d.left))

  pieces : (kind : Kind) (time : ℕ) (base : LeafState) (shared : List ℕ) → piece_of whole j kind time base shared ≡ piece_of here 0 kind time base shared
  pieces Settle time base shared =
      ap (λ (vs : List ℕ). outcome_of whole j base.seen (settle whole j 64 (record { values = vs; row = base.row }))) (leaf_views base shared)
      ∙ (ap (outcome_of whole j base.seen) (settles 64 (sees here 0 base shared))
      ∙ outcomes base.seen (settle here 0 64 (sees here 0 base shared)))
  pieces (Fire k) time base shared =
      ap (λ (vs : List ℕ). fired_outcome whole 63 j base k (whole.done j k (record { values = vs; row = without_timer base.row k }))) (leaf_views base shared)
      ∙ fired 63 base k (here.done 0 k (dropped here (sees here 0 base shared) k))
  pieces Refresh time base shared =
      ap (λ (vs : List ℕ). renewed_outcome whole j base vs (whole.renewed j time base.seen (record { values = vs; row = base.row }))) (leaf_views base shared)
      ∙ renews (here.renewed 0 time base.seen (sees here 0 base shared))
    where
      renews : (r : Renewing) → renewed_outcome whole j base (leaf_view (part_of here 0) base.values shared) r ≡ renewed_outcome here 0 base (leaf_view (part_of here 0) base.values shared) r
      renews (Faulty k trap) = refl
      renews (Fresh r) = refl

pub piece_is_alone : (n : Network) → PieceIsAlone n
piece_is_alone n draw limits any j p e kind time base shared =
    pieces n draw limits any j kind time base shared ∙ ap (λ (q : Part). piece_of (net_of draw (alone q) any) 0 kind time base shared) (get_is n.parts j p e)
