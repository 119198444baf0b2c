-- What each call does to a core.
use Rattle.std.specs.Prelude.{ℕ, zero, suc, ◌+◌, ◌≡◌, ◌<◌, ◌⊎◌, List, ◌++◌, length, Some, None, Result, Ok, Err, true}
use Rattle.san_base.specs.declared.ending.Event.{Event}
use Rattle.san_base.specs.declared.numbers.NoMemory.{NoMemory}
use Rattle.san_book.specs.Chains.{chain_of}
use Rattle.san_book.specs.Cores as book
use Rattle.san_book.specs.Journals.{stepped}
use Rattle.san_book.specs.Steps.{has_ended, rests}
use Rattle.san_book.specs.declared.limits.TheConstants.{MAX_COMMIT}
use Rattle.san_law.specs.Left.{left}
use Rattle.san_core.specs.Machines.{core_in, net_in}
use Rattle.san_core.specs.Redone.{IsSameRun}
use Rattle.san_core.specs.declared.redoing.Redoing.{Redoing}
use Rattle.san_core.specs.declared.redoing.Redoing.TheVariants as redoing
use Rattle.san_speculation.specs.Speculating.{CoreValue, book_in}

-- a step happens and is booked
abbrev pub Happens : CoreValue → book.Step → CoreValue → Type 0
Happens old s new = stepped (book_in old.machine) old.machine.limits s old.book ≡ Some new.book

-- it doesn't
abbrev pub Refuses : CoreValue → book.Step → Type 0
Refuses old s = stepped (book_in old.machine) old.machine.limits s old.book ≡ None

-- a step happens, and the machine stays as it is
pub record Leaves (old : CoreValue) (s : book.Step) (new : CoreValue) : Type 0 where
  pub happens : Happens old s new
  pub machine : new.machine ≡ old.machine

-- it goes on in the same run, with less to take; no committed event is taken back
pub record Advances (old : CoreValue) (s : book.Step) (new : CoreValue) : Type 0 where
  pub happens : Happens old s new
  pub run : IsSameRun old.machine new.machine
  pub events : (es : List Event) × (new.machine.events ≡ old.machine.events ++ es)
  pub less : left (net_in new.machine) (core_in new.machine) < left (net_in old.machine) (core_in old.machine)

-- nothing changes, and the step wouldn't happen
pub record Stays (old : CoreValue) (s : book.Step) (new : CoreValue) : Type 0 where
  pub same : new ≡ old
  pub refuses : Refuses old s

-- how many pieces a leaf's chain has
abbrev pub ahead_of : CoreValue → ℕ → ℕ
ahead_of c j = length (chain_of c.book.chains j)

-- a cut, by how many pieces it took out
abbrev pub CutBy : CoreValue → ℕ → ℕ → CoreValue → Result ℕ NoMemory → Type 0
CutBy old w j new (Err e) = new ≡ old
CutBy old w j new (Ok zero) = Stays old (book.Cut w j) new
CutBy old w j new (Ok (suc n)) = Leaves old (book.Cut w j) new × (ahead_of old j ≡ ahead_of new j + suc n)

-- a commit, by how many pieces it took: no more could be taken, or it took the most
abbrev pub CommitBy : CoreValue → ℕ → CoreValue → Result ℕ NoMemory → Type 0
CommitBy old w new (Err e) = new ≡ old
CommitBy old w new (Ok zero) = Stays old (book.Commit w 1) new
CommitBy old w new (Ok (suc n)) = Advances old (book.Commit w (suc n)) new × (Refuses new (book.Commit w 1) ⊎ (suc n ≡ MAX_COMMIT))

-- a piece made anew
abbrev pub RedoBy : CoreValue → ℕ → CoreValue → Result Redoing NoMemory → Type 0
RedoBy old w new (Err e) = new ≡ old
RedoBy old w new (Ok redoing.Redone) = Advances old (book.Redo w) new
RedoBy old w new (Ok redoing.Ended) = (new ≡ old) × (has_ended (book_in old.machine) old.machine.limits old.book ≡ true)
RedoBy old w new (Ok redoing.Rested) = (new ≡ old) × (rests (book_in old.machine) old.machine.limits old.book ≡ true)
