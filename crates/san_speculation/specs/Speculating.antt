-- A core as contracts see it: its machine, and the book of what is made ahead of it.
use Rattle.std.specs.Prelude.{ℕ, suc, ◌≡◌, ◌≤◌, List, [], length, map, Option, Some, None}
use Rattle.san_base.specs.declared.limits.Limits.{Limits}
use Rattle.san_base.specs.declared.limits.TheConstants.{MAX_WORKERS}
use Rattle.san_base.specs.declared.numbers.LeafId.{LeafId}
use Rattle.san_book.specs.Bounds.{IsBrief}
use Rattle.san_book.specs.Cores as book
use Rattle.san_book.specs.Cores.{Pending}
use Rattle.san_book.specs.Journals.{Replays, replayed}
use Rattle.san_book.specs.Laws.{IsCore}
use Rattle.san_book.specs.Machines.{Machine}
use Rattle.san_decide.specs.Booked.{book_of}
use Rattle.san_ahead.specs.Ahead.{AheadValue}
use Rattle.san_law.specs.Core as law
use Rattle.san_law.specs.Piece.{LeafState}
use Rattle.san_law.specs.Standing.{Follows}
use Rattle.san_law.specs.State.{opening_state}
use Rattle.san_law.specs.Step.{Event}
use Rattle.san_leaf.specs.Pieces.{PieceValue}
use Rattle.san_net.specs.Network.{Network}
use Rattle.san_net.specs.Runs.{net_at}
use Rattle.san_core.specs.Committed.{CommittedValue}
use Rattle.san_core.specs.Machines as machine
use Rattle.san_core.specs.Machines.{MachineValue, core_in}
use Rattle.san_speculation.specs.declared.step.Step.{Step}
use Rattle.san_speculation.specs.declared.step.Step.TheVariants as step

-- the book's committed part is the core that the machine's pieces lead to
pub record CoreValue : Type 0 where
  pub machine : MachineValue
  pub book : book.Core law.Core PieceValue

-- the book of a machine's run
abbrev pub book_in : MachineValue → Machine law.Core LeafState PieceValue
book_in m = book_of m.network m.seed m.limits

-- a step as the book has it
abbrev pub step_in : Step → book.Step
step_in (step.Claim worker) = book.Claim worker
step_in (step.Read worker place value) = book.Read worker place value
step_in (step.Publish worker kind time) = book.Publish worker kind time.0
step_in (step.Late worker) = book.Late worker
step_in (step.Cut worker leaf) = book.Cut worker leaf.0
step_in (step.Commit worker pieces) = book.Commit worker pieces
step_in (step.Redo worker) = book.Redo worker

-- between two calls nothing is read
abbrev pub claim_in : Option LeafId → Option Pending
claim_in None = None
claim_in (Some leaf) = Some (record { leaf = leaf.0; log = [] })

-- a core by its parts
abbrev pub core_by : MachineValue → AheadValue → List (Option LeafId) → List Step → ℕ → CoreValue
core_by m a claims journal rollbacks = record {
  machine = m;
  book = record {
    held = core_in m;
    chains = a.chains;
    counters = a.counters;
    lines = a.lines;
    claims = map claim_in claims;
    journal = map step_in journal;
    rollbacks = rollbacks;
    taken = m.taken;
  };
}

-- one over a start, for the caller and so many workers
abbrev pub opened_core : Network → ℕ → Limits → CommittedValue → ℕ → CoreValue
opened_core n seed limits start workers = record {
  machine = machine.opened n seed limits start;
  book = book.opened (book_of n seed limits) workers start.core;
}

-- a book that is in order, over a committed part that follows the run
pub record KeepsTheLaw (n : Network) (seed : ℕ) (limits : Limits) (start : CommittedValue) (workers : ℕ) (c : book.Core law.Core PieceValue) : Type 0 where
  pub core : IsCore (book_of n seed limits) limits workers start.core c
  pub follows : (past : List Event) × Follows (net_at n seed limits) (opening_state (net_at n seed limits)) past c.held

-- whatever steps are done to a core over this start, one after another, by whatever workers
abbrev pub EveryInterleaving : Network → ℕ → Limits → CommittedValue → ℕ → Type 0
EveryInterleaving n seed limits start workers = (ss : List book.Step) (c : book.Core law.Core PieceValue) →
    replayed (book_of n seed limits) limits ss (book.opened (book_of n seed limits) workers start.core) ≡ Some c → KeepsTheLaw n seed limits start workers c

-- a core's journal leads from its opening to it, and is brief; there is a claim's place for the caller and each worker
pub record IsReplayed (c : CoreValue) : Type 0 where
  pub workers : ℕ
  pub few : workers ≤ MAX_WORKERS
  pub claims : length c.book.claims ≡ suc workers
  pub replays : Replays (book_in c.machine) c.machine.limits workers c.machine.start.core c.book
  pub brief : IsBrief c.machine.limits c.book
