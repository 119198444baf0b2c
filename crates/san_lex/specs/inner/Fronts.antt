-- How the code's pieces stand to what begins a text.
use Rattle.std.specs.Prelude.{ℕ, suc, ◌≡◌, List, [], ◌∷◌}
use Rattle.san_lex.specs.declared.piece.Piece.{Piece}
use Rattle.san_lex.specs.declared.piece.Piece.TheVariants as piece
use Rattle.san_base.specs.Names.{is_in_name, is_digit}
use Rattle.san_lex.specs.Bytes.{run}
use Rattle.san_lex.specs.Lexer.{Front, Gap, Broken, Bad, Large, Long, named, numbered, front}
use Rattle.san_lex.specs.Lexer as lexer
use Rattle.san_lex.specs.Pieces.{kind_word}

-- a piece at the front of this text
abbrev pub piece_front : List ℕ → Piece → Front
piece_front text (piece.Gap n) = Gap n
piece_front text (piece.Token k n) = lexer.Token (kind_word text k 0 (suc n)) n
piece_front text piece.Bad = Broken Bad
piece_front text piece.Large = Broken Large
piece_front text piece.Long = Broken Long

abbrev pub NameFront : List ℕ → Piece → Type 0
NameFront [] p = Unit {0}
NameFront (b ∷ bs) p = piece_front (b ∷ bs) p ≡ named (b ∷ run is_in_name bs)

abbrev pub NumberFront : List ℕ → Piece → Type 0
NumberFront [] p = Unit {0}
NumberFront (b ∷ bs) p = piece_front (b ∷ bs) p ≡ numbered (b ∷ run is_digit bs)

-- the piece is what stands at the front of a text that isn't empty
abbrev pub IsFront : List ℕ → Piece → Type 0
IsFront [] p = Unit {0}
IsFront (b ∷ bs) p = piece_front (b ∷ bs) p ≡ front b bs
