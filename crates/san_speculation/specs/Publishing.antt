-- What a publication does to a core.
use Rattle.std.specs.Prelude.{ℕ, ◌≡◌, List, [], ◌∷◌, ◌++◌, map, Option, Some, None}
use Rattle.san_book.specs.Cores as book
use Rattle.san_book.specs.Cores.{Pending, claim_of}
use Rattle.san_book.specs.Journals.{reads_of, replayed}
use Rattle.san_book.specs.Steps.{chain_end}
use Rattle.san_decide.specs.Booked.{entry_of, part_at}
use Rattle.san_leaf.specs.Pieces.{PieceValue}
use Rattle.san_speculation.specs.CoreCalls.{Leaves}
use Rattle.san_speculation.specs.Speculating.{CoreValue, book_in}
use Rattle.san_speculation.specs.declared.publishing.Publishing.{Publishing}
use Rattle.san_speculation.specs.declared.publishing.Publishing.TheVariants as publishing

-- a piece of the run goes on from where a leaf's chain ends
pub record GoesOnFrom (c : CoreValue) (j : ℕ) (p : PieceValue) : Type 0 where
  pub seed : p.seed ≡ c.machine.seed
  pub part : p.part ≡ part_at c.machine.network j
  pub base : p.base ≡ chain_end (book_in c.machine) c.book j

-- the reads of a piece, and its publication
abbrev pub publication : ℕ → PieceValue → List book.Step
publication w p = reads_of w (map entry_of p.log) ++ book.Publish w p.kind p.time ∷ []

-- late just where the worker has no claim, or the piece doesn't go on from the claimed leaf's chain; then the claim goes
abbrev pub LateBy : CoreValue → ℕ → PieceValue → CoreValue → Option Pending → Type 0
LateBy old w p new None = new ≡ old
LateBy old w p new (Some claim) = (GoesOnFrom old claim.leaf p → ⊥) × Leaves old (book.Late w) new

-- its reads and its publication happen, or it comes back
abbrev pub PublishBy : CoreValue → ℕ → PieceValue → CoreValue → Publishing → Type 0
PublishBy old w p new publishing.Published = (replayed (book_in old.machine) old.machine.limits (publication w p) old.book ≡ Some new.book) × (new.machine ≡ old.machine)
PublishBy old w p new (publishing.Late q) = (q ≡ p) × LateBy old w p new (claim_of old.book.claims w)
PublishBy old w p new (publishing.NoMemory q) = (q ≡ p) × (new ≡ old)
