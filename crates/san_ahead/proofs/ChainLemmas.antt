-- The pieces of a chain, one after another.
use Rattle.std.proofs.Common.{ℕ, zero, suc, ◌+◌, ◌<◌, ◌≡◌, ◌∙◌, ap, sym, subst, arith, List, [], ◌∷◌, length, map, drop, Bool, cond}
use Rattle.std.specs.Prelude.{slice_index_or}
use Rattle.std.proofs.lemmas.List.{at_drop_more, length-map}
use Rattle.san_line.specs.Lines.{LineValue}
use Rattle.san_leaf.specs.Pieces.{PieceValue}
use Rattle.san_book.specs.Chains.{AllFit, current, is_current, without_pieces}
use Rattle.san_log.specs.Logs.{Entry}
use Rattle.san_book.specs.Lines.{AreWrites, Line, agrees, each, seen_at, withdraw}
use Rattle.san_decide.specs.Booked.{of_piece}
use Rattle.san_ahead.specs.Aheads.{line_in}
use Rattle.san_book.proofs.Each.{length_each}

module _ (pieces : List (ℕ × PieceValue)) (k : ℕ) (x : ℕ × PieceValue) (here : k < length pieces) (is : x ≡ slice_index_or pieces k x) where
  -- a piece writes what fits
  pub fit_at : (n : ℕ) → AllFit of_piece n pieces → AreWrites n x.1.outcome.writes
  fit_at n fit = subst (λ (y : ℕ × PieceValue). AreWrites n y.1.outcome.writes) (sym is) (at_index pieces k here fit)
    where
      at_index : (xs : List (ℕ × PieceValue)) (i : ℕ) → i < length xs → AllFit of_piece n xs → AreWrites n (slice_index_or xs i x).1.outcome.writes
      at_index [] i h f = absurd (omega (arith, h))
      at_index (y ∷ ys) zero h f = f.0
      at_index (y ∷ ys) (suc i) h f = at_index ys i (omega (arith, h)) f.1

  -- its versions go, and then those of the pieces behind it
  pub without_more : (leaf : ℕ) (lines new : List Line) → new ≡ each (withdraw leaf x.0) x.1.outcome.writes lines
      → without_pieces of_piece leaf (drop (k + 1) pieces) new ≡ without_pieces of_piece leaf (drop k pieces) lines
  without_more leaf lines new e =
      ap (without_pieces of_piece leaf (drop (k + 1) pieces)) (e ∙ ap (λ (y : ℕ × PieceValue). each (withdraw leaf y.0) y.1.outcome.writes lines) is)
      ∙ sym (at_drop_more (λ (ys : List (ℕ × PieceValue)). without_pieces of_piece leaf ys lines) pieces k x here)

  -- a piece that is current is counted, and another ends the count
  pub current_here : (lines : List Line) (leaf : ℕ) (b : Bool) → is_current of_piece lines leaf x ≡ b → current of_piece lines leaf (drop k pieces) ≡ cond b (suc (current of_piece lines leaf (drop (k + 1) pieces))) 0
  current_here lines leaf b e =
      at_drop_more (current of_piece lines leaf) pieces k x here
      ∙ ap (λ (y : ℕ × PieceValue). cond (is_current of_piece lines leaf y) (suc (current of_piece lines leaf (drop (k + 1) pieces))) 0) (sym is)
      ∙ ap (λ (t : Bool). cond t (suc (current of_piece lines leaf (drop (k + 1) pieces))) 0) e

pub each_long : (old new : List LineValue) (f : ℕ → ℕ → Line → Line) (ws : List (ℕ × ℕ)) → map line_in new ≡ each f ws (map line_in old) → length old ≡ length new
each_long old new f ws e = sym (length-map old line_in) ∙ sym (length_each f ws (map line_in old)) ∙ ap length (sym e) ∙ length-map new line_in

-- a stamp by its time and by what it sees
pub stamped : (lines : List Line) (log : List Entry) (leaf pos t time : ℕ) (b all : Bool) → t ≡ time → b ≡ all
    → agrees (seen_at lines (record { time = record { 0 = t }; leaf = record { 0 = leaf }; pos = pos; all = b })) log ≡ agrees (seen_at lines (record { time = record { 0 = time }; leaf = record { 0 = leaf }; pos = pos; all = all })) log
stamped lines log leaf pos t time b all e f =
    ap (λ (n : ℕ). agrees (seen_at lines (record { time = record { 0 = n }; leaf = record { 0 = leaf }; pos = pos; all = b })) log) e
    ∙ ap (λ (x : Bool). agrees (seen_at lines (record { time = record { 0 = time }; leaf = record { 0 = leaf }; pos = pos; all = x })) log) f
