-- What a piece makes of its leaf's row: a renewal takes at most one delay draw for each activity, a block at most 64 case draws.
use Rattle.std.proofs.Common.{ℕ, zero, suc, ◌+◌, ◌≡◌, ◌∙◌, ap, sym, refl, subst, arith, List, Some}
use Rattle.std.specs.Prelude.{Result, Ok, Err, slice_get}
use Rattle.san_base.specs.declared.ending.Trap.{Trap}
use Rattle.san_core.proofs.Clocking.{RowFits, counted_fits, dropped_fits, renewed_fits, row_later}
use Rattle.san_core.proofs.Running.{done_is, part_is}
use Rattle.san_law.specs.Activity as leaf
use Rattle.san_law.specs.Block.{after_done, after_found, settle}
use Rattle.san_law.specs.Clocks.{renewed_row}
use Rattle.san_law.specs.Net.{Broken, Done, Enabled, Faulty, Found, Fresh, Local, Net, Nothing, Renewing}
use Rattle.san_law.specs.Network.{Limits}
use Rattle.san_law.specs.Piece.{Fire, Kind, LeafState, Refresh, Settle, dropped, fired_outcome, leaf_view, piece_of, renewed_outcome, sees}
use Rattle.san_law.specs.State.{part_of}
use Rattle.san_net.specs.Instants.{Named}
use Rattle.san_net.specs.Network.{Network, net_of}
use Rattle.san_net.specs.declared.part.Part.{Part}

module _ (n : Network) (draw : ℕ → ℕ → ℕ) (limits : Limits) (j : ℕ) (p : Part) (is : slice_get n.parts j ≡ Some p) where
  abbrev net : Net
  net = net_of n draw limits

  abbrev acts : List Named
  acts = p.atomic.acts

  -- a completion
  done_row : (d c i : ℕ) (l : Local) (x : Done) → net.done j i l ≡ Ok x → RowFits d c acts l.row → RowFits d (suc c) acts x.left.row
  done_row d c i l x e h = subst (RowFits d (suc c) acts) (done_is n draw limits j i l x e).row (counted_fits d c i acts l.row h)

  -- a block of so many
  settle_row : (k d c : ℕ) (l : Local) → RowFits d c acts l.row → RowFits d (c + k) acts (settle net j k l).left.row
  settle_row zero d c l h = row_later d d c (c + zero) acts l.row (omega arith) (omega arith) h
  settle_row (suc k) d c l h = by_found (settle_row k d) (net.first j l.values)
    where
      by_done : ((b : ℕ) (m : Local) → RowFits d b acts m.row → RowFits d (b + k) acts (settle net j k m).left.row) → (i : ℕ) (r : Result Done Trap) → net.done j i l ≡ r → RowFits d (c + suc k) acts (after_done (settle net j k) l i r).left.row
      by_done go i (Err trap) e = row_later d d c (c + suc k) acts l.row (omega arith) (omega arith) h
      by_done go i (Ok x) e = row_later d d (suc c + k) (c + suc k) acts (settle net j k x.left).left.row (omega arith) (omega arith) (go (suc c) x.left (done_row d c i l x e h))

      by_found : ((b : ℕ) (m : Local) → RowFits d b acts m.row → RowFits d (b + k) acts (settle net j k m).left.row) → (f : Found) → RowFits d (c + suc k) acts (after_found (settle net j k) (λ i. net.done j i l) l f).left.row
      by_found go Nothing = row_later d d c (c + suc k) acts l.row (omega arith) (omega arith) h
      by_found go (Broken i trap) = row_later d d c (c + suc k) acts l.row (omega arith) (omega arith) h
      by_found go (Enabled i) = by_done go i (net.done j i l) refl

  -- a piece
  module _ (d c time : ℕ) (base : LeafState) (shared : List ℕ) (h : RowFits d c acts base.row) where
    stays : RowFits (suc d) (c + 64) acts base.row
    stays = row_later d (suc d) c (c + 64) acts base.row (omega arith) (omega arith) h

    fired_row : (i : ℕ) (r : Result Done Trap) → net.done j i (dropped net (sees net j base shared) i) ≡ r → RowFits (suc d) (c + 64) acts (fired_outcome net 63 j base i r).state.row
    fired_row i (Err trap) e = stays
    fired_row i (Ok x) e =
        let l : Local = dropped net (sees net j base shared) i in
        row_later d (suc d) (suc c + 63) (c + 64) acts (settle net j 63 x.left).left.row (omega arith) (omega arith) (settle_row 63 d (suc c) x.left (done_row d c i l x e (dropped_fits d c i acts base.row h)))

    renewed_row_fits : (r : Renewing) → net.renewed j time base.seen (sees net j base shared) ≡ r → RowFits (suc d) (c + 64) acts (renewed_outcome net j base (leaf_view (part_of net j) base.values shared) r).state.row
    renewed_row_fits (Faulty i trap) e = stays
    renewed_row_fits (Fresh r) e =
        let l : Local = sees net j base shared in
        row_later (suc d) (suc d) c (c + 64) acts r (omega arith) (omega arith)
        (renewed_fits draw p time d c base.seen l r (ap (λ (x : leaf.Part). renewed_row draw x time base.seen l) (sym (part_is n.parts j p is)) ∙ e) h)

    pub piece_row : (kind : Kind) → RowFits (suc d) (c + 64) acts (piece_of net j kind time base shared).state.row
    piece_row Settle = row_later d (suc d) (c + 64) (c + 64) acts (settle net j 64 (sees net j base shared)).left.row (omega arith) (omega arith) (settle_row 64 d c (sees net j base shared) h)
    piece_row (Fire i) = fired_row i (net.done j i (dropped net (sees net j base shared) i)) refl
    piece_row Refresh = renewed_row_fits (net.renewed j time base.seen (sees net j base shared)) refl
