-- What the standing says of rows and of what was seen, in other words.
use Rattle.std.proofs.Common.{ℕ, zero, suc, ◌+◌, ◌<◌, ◌≤◌, ◌≡◌, ◌∙◌, ap, sym, refl, List, [], ◌∷◌, length, map, arith, slice_index_or}
use Rattle.std.proofs.lemmas.List.{ext_get_or, get_or-map, length-map}
use Rattle.san_law.specs.Net.{Fresh, Net, Row, no_row}
use Rattle.san_law.specs.State.{State}
use Rattle.san_law.specs.Renewal.{AllFresh, and_rest, renewed_at, renewed_then}
use Rattle.san_law.specs.Piece.{LeafState, no_leaf}
use Rattle.san_law.specs.Core.{leaf_of}
use Rattle.san_law.specs.Standing.{upto}
use Rattle.san_law.specs.Laws.{RowsAreRenewed, SeenIsKept, renewed_below}
use Rattle.san_law.proofs.Orders.{below_upto}

-- the leaves below a number renewed, the others the same
below_from : (net : Net) (s : State) (n a : ℕ) (rs qs : List Row) → length rs ≡ length qs
    → ((i : ℕ) → i < length rs → i < n → renewed_at net s (a + i) (slice_index_or rs i no_row) ≡ Fresh (slice_index_or qs i no_row))
    → ((i : ℕ) → i < length rs → n ≤ i → slice_index_or rs i no_row ≡ slice_index_or qs i no_row)
    → renewed_below net s n a rs ≡ AllFresh qs
below_from net s zero a rs qs e h g = ap (λ xs. AllFresh xs) (ext_get_or no_row rs qs e (λ i l. g i l (omega arith)))
below_from net s (suc n) a [] [] e h g = refl
below_from net s (suc n) a [] (q ∷ qs) e h g = absurd (omega (arith, e))
below_from net s (suc n) a (r ∷ rs) [] e h g = absurd (omega (arith, e))
below_from net s (suc n) a (r ∷ rs) (q ∷ qs) e h g =
    let z : a ≡ a + 0 = omega arith in
    let here : renewed_at net s a r ≡ Fresh q = ap (λ m. renewed_at net s m r) z ∙ h 0 (omega arith) (omega arith) in
    let rest : renewed_below net s n (suc a) rs ≡ AllFresh qs = below_from net s n (suc a) rs qs (omega (arith, e)) (λ i l k. let w : suc a + i ≡ a + suc i = omega arith in ap (λ m. renewed_at net s m (slice_index_or rs i no_row)) w ∙ h (suc i) (omega (arith, l)) (omega (arith, k))) (λ i l k. g (suc i) (omega (arith, l)) (omega (arith, k))) in
    ap (λ x. renewed_then a x (renewed_below net s n (suc a) rs)) here ∙ ap (λ x. and_rest q x) rest

pub rows_are_renewed : (net : Net) → RowsAreRenewed net
rows_are_renewed net opening past c s st =
    let rows = map (λ (l : LeafState). l.row) c.leaves in
    let long : length rows ≡ length net.parts = length-map c.leaves (λ (l : LeafState). l.row) ∙ st.holds.sized.leaves in
    let row : (i : ℕ) → i < length net.parts → slice_index_or rows i no_row ≡ (leaf_of c i).row = λ i h. get_or-map (λ (l : LeafState). l.row) c.leaves i no_leaf no_row (omega (arith, h, st.holds.sized.leaves)) in
    below_from net s (upto net c.order) 0 s.rows rows (st.holds.sized.rows ∙ sym long)
    (λ i l k. let h : i < length net.parts = omega (arith, l, st.holds.sized.rows) in let z : 0 + i ≡ i = omega arith in ap (λ m. renewed_at net s m (slice_index_or s.rows i no_row)) z ∙ (st.upto.renewed i h k ∙ ap (λ q. Fresh q) (sym (row i h))))
    (λ i l k. let h : i < length net.parts = omega (arith, l, st.holds.sized.rows) in sym (row i h ∙ (st.upto.waits i h k).row))

pub seen_is_kept : (net : Net) → SeenIsKept net
seen_is_kept net opening past c s st i h = (λ k. (st.holds.fresh i h (below_upto net c.order i k)).seen, λ k. (st.upto.waits i h k).seen)
