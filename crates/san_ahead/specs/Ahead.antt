-- What is made ahead as contracts see it, and what is done to it.
use Rattle.std.specs.Prelude.{ℕ, suc, ◌≡◌, List, [], ◌∷◌, ◌++◌, map, replicate, take, drop, Option, Some, None, slice_index, slice_set}
use Rattle.san_book.specs.Chains.{Chain, chain_of, with_piece, without_piece, without_pieces}
use Rattle.san_book.specs.Cores.{bare_line}
use Rattle.san_book.specs.Lines.{Line, commit, each}
use Rattle.san_chain.specs.Chains.{ChainValue, end_from}
use Rattle.san_decide.specs.Booked.{of_piece}
use Rattle.san_law.specs.Piece.{LeafState}
use Rattle.san_leaf.specs.Pieces.{PieceValue}
use Rattle.san_line.specs.Lines.{LineValue}
use Rattle.san_ahead.specs.Aheads.{line_in}

-- for each leaf its pieces with their numbers and the next number, and for each shared place its line
pub record AheadValue : Type 0 where
  pub chains : List (Chain PieceValue)
  pub counters : List ℕ
  pub lines : List Line

abbrev pub pieces_of : ChainValue PieceValue → Chain PieceValue
pieces_of c = c.pieces

abbrev pub ahead_by : List (ChainValue PieceValue) → List ℕ → List LineValue → AheadValue
ahead_by chains counters lines = record { chains = map pieces_of chains; counters = counters; lines = map line_in lines }

-- nothing is made yet
abbrev pub nothing : ℕ → List ℕ → AheadValue
nothing leaves shared = record { chains = replicate leaves []; counters = replicate leaves 0; lines = map bare_line shared }

-- a leaf's pieces from one on go, with their versions
abbrev pub cut_from : AheadValue → ℕ → ℕ → AheadValue
cut_from a j k = record { chains = slice_set a.chains j (take k (chain_of a.chains j)); counters = a.counters; lines = without_pieces of_piece j (drop k (chain_of a.chains j)) a.lines }

-- a leaf's next number rises
abbrev pub raised : AheadValue → ℕ → AheadValue
raised a j = record { chains = a.chains; counters = slice_set a.counters j (suc (slice_index a.counters j)); lines = a.lines }

-- a leaf's piece is pushed with the next number, and its writes become versions
abbrev pub pushed : AheadValue → ℕ → PieceValue → AheadValue
pushed a j p = record {
  chains = slice_set a.chains j (chain_of a.chains j ++ (slice_index a.counters j, p) ∷ []);
  counters = slice_set a.counters j (suc (slice_index a.counters j));
  lines = with_piece of_piece j (slice_index a.counters j) p a.lines;
}

-- the head of a leaf's chain goes, with its versions
abbrev pub without_head : AheadValue → ℕ → ℕ × PieceValue → Chain PieceValue → AheadValue
without_head a j x rest = record { chains = slice_set a.chains j rest; counters = a.counters; lines = without_piece of_piece j x.0 x.1 a.lines }

-- what is committed stands in the lines of the written places
abbrev pub with_committed : AheadValue → List ℕ → List (ℕ × ℕ) → AheadValue
with_committed a shared writes = record { chains = a.chains; counters = a.counters; lines = each (commit shared) writes a.lines }

-- a leaf's chain begins with a piece
pub record Heads (a : AheadValue) (j : ℕ) (p : PieceValue) : Type 0 where
  pub pos : ℕ
  pub rest : Chain PieceValue
  pub is : chain_of a.chains j ≡ (pos, p) ∷ rest

-- it is taken out
pub record TakesOut (old : AheadValue) (j : ℕ) (p : PieceValue) (new : AheadValue) : Type 0 where
  pub pos : ℕ
  pub rest : Chain PieceValue
  pub is : chain_of old.chains j ≡ (pos, p) ∷ rest
  pub left : new ≡ without_head old j (pos, p) rest

-- a leaf's chain has a piece, and the last one leaves this state
abbrev pub EndsWith : AheadValue → ℕ → LeafState → Type 0
EndsWith a j s = (d : LeafState) → end_from of_piece.end d (chain_of a.chains j) ≡ s

-- the last piece of a chain
abbrev pub last_or : Option PieceValue → Chain PieceValue → Option PieceValue
last_or o [] = o
last_or o (x ∷ xs) = last_or (Some x.1) xs

abbrev pub last_of : Chain PieceValue → Option PieceValue
last_of xs = last_or None xs
