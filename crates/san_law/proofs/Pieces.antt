-- The pieces of a run, one by one.
use Rattle.std.proofs.Common.{ℕ, zero, suc, ◌<◌, ◌≤◌, ◌≡◌, ◌≢◌, ◌∙◌, ap, sym, refl, List, Option, Some, None, arith}
use Rattle.std.specs.Prelude.{slice_get}
use Rattle.san_law.specs.Net.{Net}
use Rattle.san_law.specs.State.{State}
use Rattle.san_law.specs.Step.{Ending, Event}
use Rattle.san_law.specs.Order.{Finished, Need, Needs, need_of}
use Rattle.san_law.specs.Core.{Core, advance, advance_by, after_pieces, take_need, taken}
use Rattle.san_law.specs.Lawful.{IsLawful}
use Rattle.san_law.specs.Standing.{Follows, follows_by}
use Rattle.san_law.specs.Left.{left, left_by}
use Rattle.san_law.specs.Pieces.{Piece, next_piece, piece_for, pieces_by, pieces_from, unless_stopped}
use Rattle.san_law.specs.Laws.{PiecesAreNeeded}
use Rattle.san_law.proofs.Standing.{piece_keeps}
use Rattle.san_law.proofs.Leaving.{piece_leaves_less}

abbrev first_taken : Net → Core → Core
first_taken net c = advance_by net c c.stop

-- the first piece and then the others
after_first : (net : Net) (m : ℕ) (c : Core) → after_pieces net (suc m) c ≡ after_pieces net m (first_taken net c)
unfolding after_pieces
after_first net zero c = refl
after_first net (suc m) c = ap (first_taken net) (after_first net m c)

-- a core that has ended stays
stay_by : (net : Net) (c : Core) (o : Option Ending) → unless_stopped net c o ≡ None → advance_by net c o ≡ c
unfolding advance
stay_by net c (Some e) is = refl
stay_by net c None is = by_need (need_of net.horizon c.order) is
  where
    by_need : (n : Need) → piece_for net c n ≡ None → take_need net c n ≡ c
    by_need Finished e = refl
    by_need (Needs j kind time) e = cc

stays : (net : Net) (m : ℕ) (c : Core) → next_piece net c ≡ None → after_pieces net m c ≡ c
unfolding after_pieces
stays net zero c is = refl
stays net (suc m) c is = ap (first_taken net) (stays net m c is) ∙ stay_by net c c.stop is

-- a needed piece, taken
taken_need : (net : Net) (c : Core) (n : Need) (p : Piece) → piece_for net c n ≡ Some p → take_need net c n ≡ taken net c p.leaf p.kind p.time p.outcome
taken_need net c Finished p e = cc
taken_need net c (Needs j kind time) p e = ap (λ o. taken_by o) e
  where
    taken_by : Option Piece → Core
    taken_by None = c
    taken_by (Some q) = taken net c q.leaf q.kind q.time q.outcome

-- what the needed piece makes of a core
advances_by : (net : Net) → IsLawful net → (opening : State) (past : List Event) (c : Core) (p : Piece) (o : Option Ending) → c.stop ≡ o → follows_by net opening past c o → unless_stopped net c o ≡ Some p → (advance_by net c o ≡ taken net c p.leaf p.kind p.time p.outcome) × Follows net opening past (advance_by net c o) × (left net (advance_by net c o) < left net c)
unfolding advance
advances_by net law opening past c p (Some e) is h f = cc
advances_by net law opening past c p None is (s, st) f = (taken_need net c (need_of net.horizon c.order) p f, piece_keeps net law opening past c s st is, piece_leaves_less net law opening past c s st is (unfinished f))
  where
    unfinished : piece_for net c (need_of net.horizon c.order) ≡ Some p → need_of net.horizon c.order ≢ Finished
    unfinished f e = let k : None ≡ Some p = sym (ap (piece_for net c) e) ∙ f in cc

left_some : (net : Net) (c : Core) (o : Option Ending) (p : Piece) → unless_stopped net c o ≡ Some p → 0 < left_by net c o
left_some net c (Some e) p f = cc
left_some net c None p f = omega arith

abbrev Needed : Net → State → List Event → ℕ → Type 0
Needed net opening past n = (c : Core) → Follows net opening past c → left net c ≤ n → (m : ℕ) → next_piece net (after_pieces net m c) ≡ slice_get (pieces_from net n c) m

needed_by : (net : Net) → IsLawful net → (opening : State) (past : List Event) (n : ℕ) (c : Core) (x : Option Piece) → Needed net opening past n → Follows net opening past c → left net c ≤ suc n → next_piece net c ≡ x → (m : ℕ) → next_piece net (after_pieces net m c) ≡ slice_get (pieces_by (pieces_from net n) net c x) m
unfolding after_pieces
needed_by net law opening past n c None go h l is m = ap (next_piece net) (stays net m c is) ∙ is
needed_by net law opening past n c (Some p) go h l is zero = is
needed_by net law opening past n c (Some p) go h l is (suc m) =
    let k = advances_by net law opening past c p c.stop refl h is in
    ap (next_piece net) (after_first net m c) ∙ (go (first_taken net c) k.1 (omega (arith, l, k.2)) m ∙ ap (λ d. slice_get (pieces_from net n d) m) k.0)

none_left : (net : Net) (c : Core) (x : Option Piece) → left net c ≤ 0 → next_piece net c ≡ x → x ≡ None
none_left net c None l is = refl
none_left net c (Some p) l is = let h = left_some net c c.stop p is in absurd (omega (arith, l, h))

needed_from : (net : Net) → IsLawful net → (opening : State) (past : List Event) (n : ℕ) → Needed net opening past n
needed_from net law opening past zero c h l m =
    let is : next_piece net c ≡ None = none_left net c (next_piece net c) l refl in
    ap (next_piece net) (stays net m c is) ∙ is
needed_from net law opening past (suc n) c h l m = needed_by net law opening past n c (next_piece net c) (needed_from net law opening past n) h l refl m

pub pieces_are_needed : (net : Net) → IsLawful net → PiecesAreNeeded net
pieces_are_needed net law opening past c h m = needed_from net law opening past (left net c) c h (omega arith) m
