-- How many steps each call of a locked board books, by its answer.
use Rattle.std.specs.Prelude.{ℕ, zero, suc, ◌+◌, ◌≡◌, ◌≤◌, length, Option, Some, None, Result, Ok, Err}
use Rattle.san_base.specs.declared.numbers.NoMemory.{NoMemory}
use Rattle.san_core.specs.declared.redoing.Redoing.{Redoing}
use Rattle.san_core.specs.declared.redoing.Redoing.TheVariants as redoing
use Rattle.san_leaf.specs.Pieces.{PieceValue}
use Rattle.san_speculation.specs.declared.publishing.Publishing.{Publishing}
use Rattle.san_speculation.specs.declared.publishing.Publishing.TheVariants as publishing

-- one for a claim that was got
abbrev pub claim_steps : {A : Type 0} → Result (Option A) NoMemory → ℕ
claim_steps (Ok None) = 0
claim_steps (Ok (Some a)) = 1
claim_steps (Err e) = 0

-- one for a cut or a commit that took pieces
abbrev pub piece_steps : Result ℕ NoMemory → ℕ
piece_steps (Ok zero) = 0
piece_steps (Ok (suc n)) = 1
piece_steps (Err e) = 0

-- one for a piece that was made anew
abbrev pub redo_steps : Result Redoing NoMemory → ℕ
redo_steps (Ok redoing.Redone) = 1
redo_steps (Ok redoing.Ended) = 0
redo_steps (Ok redoing.Rested) = 0
redo_steps (Err e) = 0

-- one for each read of a published piece and one for its publication; at most one for a piece that was late
abbrev pub BooksPiece : PieceValue → Publishing → ℕ → ℕ → Type 0
BooksPiece p publishing.Published old new = new ≡ old + (length p.log + 1)
BooksPiece p (publishing.Late q) old new = (old ≤ new) × (new ≤ old + 1)
BooksPiece p (publishing.NoMemory q) old new = new ≡ old
