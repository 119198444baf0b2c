-- Passes of a board behind a lock.
use Rattle.std.specs.Prelude.{ℕ, zero, suc, ◌≡◌, ◌<◌, nat_eq, ◌&&◌, ◌||◌, List, [], ◌∷◌, length, sum_by, Some, Bool, true, false, slice_get}
use Rattle.san_speculation.specs.Boards.{PassValue, after_call, after_claim}
use Rattle.san_speculation.specs.declared.board.Closed.{Closed}
use Rattle.san_speculation.specs.declared.board.Closed.TheVariants as closed

-- a board's pass, and how many steps its calls have booked
pub record BookedPass : Type 0 where
  pub pass : PassValue
  pub booked : ℕ

-- a pass that has asked for nothing
abbrev pub new_pass : ℕ → BookedPass
new_pass worker = record { pass = record { number = worker; asked = 0; ends = 0 }; booked = 0 }

-- a claim was asked for
abbrev pub claiming : BookedPass → BookedPass
claiming p = record { pass = after_claim p.pass; booked = p.booked }

-- a call was made, which was a worker's last or wasn't
abbrev pub called : Bool → BookedPass → BookedPass
called last p = record { pass = after_call last p.pass; booked = p.booked }

-- so many passes that have asked for nothing, in the order of their numbers
pub record IsNewCrew (count : ℕ) (ps : List BookedPass) : Type 0 where
  pub long : length ps ≡ count
  pub each : (k : ℕ) → k < count → slice_get ps k ≡ Some (new_pass k)

-- some pass has this number
abbrev pub has_number : ℕ → List BookedPass → Bool
has_number k [] = false
has_number k (p ∷ ps) = nat_eq p.pass.number k || has_number k ps

-- each number below a count is some pass's
abbrev pub has_all : ℕ → List BookedPass → Bool
has_all zero ps = true
has_all (suc n) ps = has_number n ps && has_all n ps

-- the passes' numbers are those below a count, each once
abbrev pub is_crew : ℕ → List BookedPass → Bool
is_crew count ps = nat_eq (length ps) count && has_all count ps

-- where so many passes are the whole crew, the core comes out, with as many steps as they booked; else not
abbrev pub ClosesFor : {B : Type 0} → ℕ → List BookedPass → Closed B BookedPass → Type 0
ClosesFor n ps (closed.Core c) = (is_crew n ps ≡ true) × (length c.book.journal ≡ sum_by (λ p. p.booked) ps)
ClosesFor n ps (closed.Missing b qs) = is_crew n ps ≡ false
