-- What a claim does to a core.
use Rattle.std.specs.Prelude.{ℕ, ◌≡◌, Option, Some, None, Result, Ok, Err, slice_index}
use Rattle.san_base.specs.declared.numbers.NoMemory.{NoMemory}
use Rattle.san_base.specs.declared.piece.Stamp.{Stamp}
use Rattle.san_book.specs.Cores as book
use Rattle.san_book.specs.Machines.{sees_all}
use Rattle.san_book.specs.Plans.{Plan, plan_of, planned}
use Rattle.san_book.specs.Steps.{chain_end}
use Rattle.san_decide.specs.Booked.{part_at}
use Rattle.san_leaf.specs.Claims.{claimed}
use Rattle.san_leaf.specs.Fits.{Fits}
use Rattle.san_leaf.specs.States.{kind_in}
use Rattle.san_leaf.specs.declared.piece.Claim.{Claim}
use Rattle.san_speculation.specs.CoreCalls.{Leaves, Stays}
use Rattle.san_speculation.specs.Speculating.{CoreValue, book_in}

-- a claim's kind and time
abbrev pub plan_in : Claim → Plan
plan_in claim = record { kind = kind_in claim.part.first.0 claim.kind; time = claim.time.0 }

-- where a leaf's next piece of a claim's kind and time stands
abbrev pub stamp_in : CoreValue → ℕ → Claim → Stamp
stamp_in c j claim = record { time = claim.time; leaf = record { 0 = j }; pos = slice_index c.book.counters j; all = sees_all (kind_in claim.part.first.0 claim.kind) }

-- the piece that a leaf comes to next can be made from a claim: it goes on from the leaf's chain, by the leaf's plan
pub record ClaimsNext (c : CoreValue) (j : ℕ) (claim : Claim) : Type 0 where
  pub seed : claim.seed ≡ c.machine.seed
  pub part : claim.part ≡ part_at c.machine.network j
  pub base : claim.base ≡ chain_end (book_in c.machine) c.book j
  pub plan : plan_of (book_in c.machine) c.machine.limits c.book j ≡ Some (plan_in claim)
  pub stamp : claim.stamp ≡ stamp_in c j claim
  pub fits : Fits (claimed claim)

-- the planned leaf is claimed, or no leaf is
abbrev pub ClaimBy : CoreValue → ℕ → CoreValue → Result (Option Claim) NoMemory → Type 0
ClaimBy old w new (Err e) = new ≡ old
ClaimBy old w new (Ok None) = Stays old (book.Claim w) new
ClaimBy old w new (Ok (Some claim)) = Leaves old (book.Claim w) new × ((x : ℕ × ℕ) × (planned (book_in old.machine) old.machine.limits old.book ≡ Some x) × ClaimsNext old x.1 claim)
