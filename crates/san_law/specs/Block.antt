-- A block of one leaf's completions, on its own values alone.
use Rattle.std.specs.Prelude.{ℕ, zero, suc, List, [], ◌∷◌, ◌||◌, Option, Some, None, Result, Ok, Err, Bool, true, false}
use Rattle.san_base.specs.declared.ending.Trap.{Trap}
use Rattle.san_law.specs.Net.{Broken, Done, Enabled, Found, Impulse, Local, Net, Nothing}

-- a completion as its leaf tells it: an event but for leaf and time
pub record Completion : Type 0 where
  pub act : ℕ
  pub case : ℕ
  pub impulses : List Impulse

-- what a completion tells
abbrev pub completion_of : ℕ → Done → Completion
completion_of k d = record { act = k; case = d.case; impulses = d.impulses }

-- how a block ends: nothing more is enabled, or the most completions are made, or a test or a completion traps
pub data Close : Type 0 where
  Rests : Close
  More : Close
  FailsTest : (act : ℕ) (trap : Trap) → Close
  FailsDone : (act : ℕ) (trap : Trap) → Close

-- the completions, the leaf's places that were assigned, what is left, and how the block ends
pub record Block : Type 0 where
  pub completions : List Completion
  pub sets : ℕ → Bool
  pub left : Local
  pub close : Close

-- a completion, and then a block
abbrev pub before : ℕ → Done → Block → Block
before k d b = record { completions = completion_of k d ∷ b.completions; sets = λ p. d.sets p || b.sets p; left = b.left; close = b.close }

-- a block without a completion
abbrev pub ended : Local → Close → Block
ended l c = record { completions = []; sets = λ p. false; left = l; close = c }

-- a completion that traps ends the block
abbrev pub after_done : (Local → Block) → Local → ℕ → Result Done Trap → Block
after_done go l k (Err trap) = ended l (FailsDone k trap)
after_done go l k (Ok d) = before k d (go d.left)

-- where nothing is enabled, or a test traps, the block ends
abbrev pub after_found : (Local → Block) → (ℕ → Result Done Trap) → Local → Found → Block
after_found go done l Nothing = ended l Rests
after_found go done l (Broken k trap) = ended l (FailsTest k trap)
after_found go done l (Enabled k) = after_done go l k (done k)

-- at most so many completions of the leaf, while one of its instantaneous activities is enabled
abbrev pub settle : Net → ℕ → ℕ → Local → Block
settle net j zero l = ended l More
settle net j (suc n) l = after_found (settle net j n) (λ k. net.done j k l) l (net.first j l.values)

-- the activity that trapped, and whether it was already picked for completion
pub record Fault : Type 0 where
  pub act : ℕ
  pub trap : Trap
  pub picked : Bool

-- the fault of a block that ended by a trap
abbrev pub fault_of : Close → Option Fault
fault_of Rests = None
fault_of More = None
fault_of (FailsTest k trap) = Some (record { act = k; trap = trap; picked = false })
fault_of (FailsDone k trap) = Some (record { act = k; trap = trap; picked = true })

-- whether a block ended for its length alone
abbrev pub more_of : Close → Bool
more_of Rests = false
more_of More = true
more_of (FailsTest k trap) = false
more_of (FailsDone k trap) = false
