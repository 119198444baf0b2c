-- What a board promises of its calls: how a pass's numbers move, and what comes back.
use Rattle.std.specs.Prelude.{ℕ, ◌+◌, ◌-◌, ◌^◌, ◌≡◌, min, List, Bool, true, false, Result, Ok, Err}
use Rattle.san_base.specs.declared.numbers.NoMemory.{NoMemory}
use Rattle.san_core.specs.declared.redoing.Redoing.{Redoing}
use Rattle.san_core.specs.declared.redoing.Redoing.TheVariants as redoing
use Rattle.san_leaf.specs.Pieces.{PieceValue}
use Rattle.san_speculation.specs.declared.board.Closed.{Closed}
use Rattle.san_speculation.specs.declared.board.Closed.TheVariants as closed
use Rattle.san_speculation.specs.declared.publishing.Publishing.{Publishing}
use Rattle.san_speculation.specs.declared.publishing.Publishing.TheVariants as publishing

-- a pass: its worker's number, how many claims it asked for, and how many of its calls were a worker's last; both counts stay at the greatest number of 64 bits
pub record PassValue : Type 0 where
  pub number : ℕ
  pub asked : ℕ
  pub ends : ℕ

-- one more, where there is one
abbrev pub risen : ℕ → ℕ
risen n = min (n + 1) (2 ^ 64 - 1)

-- a claim was asked for
abbrev pub after_claim : PassValue → PassValue
after_claim p = record { number = p.number; asked = risen p.asked; ends = p.ends }

-- a call was made, which was a worker's last or wasn't
abbrev pub after_call : Bool → PassValue → PassValue
after_call true p = record { number = p.number; asked = p.asked; ends = risen p.ends }
after_call false p = p

-- memory was wanting
abbrev pub is_wanting : {A : Type 0} → Result A NoMemory → Bool
is_wanting (Ok a) = false
is_wanting (Err e) = true

-- for a publication
abbrev pub is_refused : Publishing → Bool
is_refused publishing.Published = false
is_refused (publishing.Late p) = false
is_refused (publishing.NoMemory p) = true

-- no piece was made anew: the run has ended, or rests, or memory was wanting
abbrev pub is_over : Result Redoing NoMemory → Bool
is_over (Ok redoing.Redone) = false
is_over (Ok redoing.Ended) = true
is_over (Ok redoing.Rested) = true
is_over (Err e) = true

-- a piece that isn't published comes back
abbrev pub GivesBack : PieceValue → Publishing → Type 0
GivesBack p publishing.Published = Unit {0}
GivesBack p (publishing.Late q) = q ≡ p
GivesBack p (publishing.NoMemory q) = q ≡ p

-- a board that doesn't give its core comes back, with the passes as they were given
abbrev pub ClosesBy : {B P : Type 0} → B → List P → Closed B P → Type 0
ClosesBy b ps (closed.Core c) = Unit {0}
ClosesBy b ps (closed.Missing d qs) = (d ≡ b) × (qs.items ≡ ps)
