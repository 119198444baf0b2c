-- A core's journal: the steps that led to it, what they count, and what they replay to.
use Rattle.std.specs.Prelude.{ℕ, ◌+◌, ◌≡◌, List, [], ◌∷◌, ◌++◌, Option, Some, None}
use Rattle.san_base.specs.declared.limits.Limits.{Limits}
use Rattle.san_log.specs.Logs.{Entry}
use Rattle.san_book.specs.Machines.{Machine}
use Rattle.san_book.specs.Cores.{Claim, Commit, Core, Cut, Late, Publish, Read, Redo, Step, opened}
use Rattle.san_book.specs.Steps.{happens, then_by}

-- one step more is booked
abbrev pub booked : {H P : Type 0} → Step → Core H P → Core H P
booked s c = record { held = c.held; chains = c.chains; counters = c.counters; lines = c.lines; claims = c.claims; journal = c.journal ++ s ∷ []; rollbacks = c.rollbacks; taken = c.taken }

-- where it happened
abbrev pub booked_by : {H P : Type 0} → Step → Option (Core H P) → Option (Core H P)
booked_by s None = None
booked_by s (Some c) = Some (booked s c)

-- a core step: what happens, and its journal
abbrev pub stepped : {H S P : Type 0} → Machine H S P → Limits → Step → Core H P → Option (Core H P)
stepped m limits s c = booked_by s (happens m limits s c)

-- steps, one after another
abbrev pub replayed : {H S P : Type 0} → Machine H S P → Limits → List Step → Core H P → Option (Core H P)
replayed m limits [] c = Some c
replayed m limits (s ∷ ss) c = then_by (stepped m limits s c) (replayed m limits ss)

-- a core's journal leads from its opening to it
abbrev pub Replays : {H S P : Type 0} → Machine H S P → Limits → ℕ → H → Core H P → Type 0
Replays m limits workers start c = replayed m limits c.journal (opened m workers start) ≡ Some c

-- the reads of a log by a worker
abbrev pub reads_of : ℕ → List Entry → List Step
reads_of w [] = []
reads_of w (e ∷ es) = Read w e.0 e.1 ∷ reads_of w es

-- what a step counts by its kind
abbrev pub is_claim : Step → ℕ
is_claim (Claim w) = 1
is_claim (Read w place v) = 0
is_claim (Publish w kind time) = 0
is_claim (Late w) = 0
is_claim (Cut w j) = 0
is_claim (Commit w n) = 0
is_claim (Redo w) = 0

-- a claim that came to nothing
abbrev pub is_late : Step → ℕ
is_late (Claim w) = 0
is_late (Read w place v) = 0
is_late (Publish w kind time) = 0
is_late (Late w) = 1
is_late (Cut w j) = 0
is_late (Commit w n) = 0
is_late (Redo w) = 0

-- the pieces that it commits
abbrev pub commits : Step → ℕ
commits (Claim w) = 0
commits (Read w place v) = 0
commits (Publish w kind time) = 0
commits (Late w) = 0
commits (Cut w j) = 0
commits (Commit w n) = n
commits (Redo w) = 0

-- a piece made anew
abbrev pub is_redo : Step → ℕ
is_redo (Claim w) = 0
is_redo (Read w place v) = 0
is_redo (Publish w kind time) = 0
is_redo (Late w) = 0
is_redo (Cut w j) = 0
is_redo (Commit w n) = 0
is_redo (Redo w) = 1

-- over all steps
abbrev pub counted : (Step → ℕ) → List Step → ℕ
counted f [] = 0
counted f (s ∷ ss) = f s + counted f ss
