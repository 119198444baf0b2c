-- The law of the bookkeeping.
use Rattle.std.specs.Prelude.{ℕ, suc, ◌+◌, ◌*◌, ◌≡◌, ◌≤◌, ◌<◌, nat_le, List, [], ◌∷◌, ◌++◌, length, Option, Some, None, true, false, slice_get, slice_set, ◌↔◌, IsTrue}
use Rattle.san_base.specs.declared.limits.Limits.{Limits}
use Rattle.san_base.specs.declared.limits.TheConstants.{MAX_CELLS, MAX_LEAVES, MAX_WINDOW, MAX_WORKERS}
use Rattle.san_base.specs.declared.piece.Kind as named
use Rattle.san_log.specs.Logs.{AreEntriesOf, Entry}
use Rattle.san_log.specs.Once.{AreNoted}
use Rattle.san_line.specs.declared.version.Version.{Version}
use Rattle.san_line.specs.Lines.{find as find_version, first_by}
use Rattle.san_line.specs.Ordered.{IsOrdered}
use Rattle.san_law.specs.Step.{Event}
use Rattle.san_law.specs.Piece.{Kind}
use Rattle.san_book.specs.declared.limits.TheConstants.{MAX_JOURNAL}
use Rattle.san_book.specs.Machines.{Machine}
use Rattle.san_book.specs.Lines.{agrees}
use Rattle.san_book.specs.Cores.{Claim, Commit, Core, Cut, Late, Publish, Read, Redo, Step, claim_of, opened}
use Rattle.san_book.specs.Plans.{free_at, planned}
use Rattle.san_book.specs.Steps.{chain_end, goes_on, pushed}
use Rattle.san_book.specs.Journals.{Replays, reads_of, replayed, stepped}
use Rattle.san_book.specs.Whole.{IsCommitted, HasValues, IsWhole}
use Rattle.san_book.specs.Bounds.{IsBounded, IsBrief, IsCounted, ReadFits}

-- what holds after a step, where it happens
abbrev pub After : {X : Type 0} → (X → Type 0) → Option X → Type 0
After P None = Unit {0}
After P (Some x) = P x

-- each step keeps a core whole
abbrev pub StepsKeep : {H S P : Type 0} → Machine H S P → Type 0
StepsKeep {H} {S} {P} m = (limits : Limits) (c : Core H P) (s : Step) → IsWhole m c → After (IsWhole m) (stepped m limits s c)

-- and what is committed is what the needed pieces make of the start
abbrev pub StepsCommit : {H S P : Type 0} → Machine H S P → Type 0
StepsCommit {H} {S} {P} m = (limits : Limits) (start : H) (c : Core H P) (s : Step) → IsWhole m c → IsCommitted m limits start c → After (IsCommitted m limits start) (stepped m limits s c)

-- the committed events of one core are those of another and perhaps more
abbrev pub GoOn : {H S P : Type 0} → Machine H S P → Core H P → Core H P → Type 0
GoOn m c d = (es : List Event) × (m.events d.held ≡ m.events c.held ++ es)

-- no step takes a committed event back
abbrev pub EventsGrow : {H S P : Type 0} → Machine H S P → Type 0
EventsGrow {H} {S} {P} m = (limits : Limits) (c : Core H P) (s : Step) → After (GoOn m c) (stepped m limits s c)

-- only a commit and a redo change what is committed
abbrev pub Stays : {H P : Type 0} → Core H P → Step → Core H P → Type 0
Stays c (Claim w) d = d.held ≡ c.held
Stays c (Read w place v) d = d.held ≡ c.held
Stays c (Publish w kind time) d = d.held ≡ c.held
Stays c (Late w) d = d.held ≡ c.held
Stays c (Cut w j) d = d.held ≡ c.held
Stays c (Commit w n) d = Unit {0}
Stays c (Redo w) d = Unit {0}

-- each other step leaves it as it is
abbrev pub StepsLeave : {H S P : Type 0} → Machine H S P → Type 0
StepsLeave {H} {S} {P} m = (limits : Limits) (c : Core H P) (s : Step) → After (Stays c s) (stepped m limits s c)

-- rollbacks stay bounded
abbrev pub StepsBound : {H S P : Type 0} → Machine H S P → Type 0
StepsBound {H} {S} {P} m = (limits : Limits) (c : Core H P) (s : Step) → IsWhole m c → IsBounded limits c → After (IsBounded limits) (stepped m limits s c)

-- the counts are the journal's
abbrev pub StepsCount : {H S P : Type 0} → Machine H S P → Type 0
StepsCount {H} {S} {P} m = (limits : Limits) (c : Core H P) (s : Step) → IsWhole m c → IsCounted c → After IsCounted (stepped m limits s c)

-- the journal stays bounded, where no more is read than a leaf has places
abbrev pub StepsAreBrief : {H S P : Type 0} → Machine H S P → Type 0
StepsAreBrief {H} {S} {P} m = (limits : Limits) (c : Core H P) (s : Step) → ReadFits c.claims s → IsWhole m c → IsBounded limits c → IsBrief limits c → After (IsBrief limits) (stepped m limits s c)

-- each step is booked
abbrev pub StepsAreBooked : {H S P : Type 0} → Machine H S P → Type 0
StepsAreBooked {H} {S} {P} m = (limits : Limits) (c : Core H P) (s : Step) → After (λ (d : Core H P). d.journal ≡ c.journal ++ s ∷ []) (stepped m limits s c)

-- a journal that replays goes on replaying
abbrev pub JournalGoesOn : {H S P : Type 0} → Machine H S P → Type 0
JournalGoesOn {H} {S} {P} m = (limits : Limits) (workers : ℕ) (start : H) (c : Core H P) (s : Step) → Replays m limits workers start c → After (Replays m limits workers start) (stepped m limits s c)

-- what every core of a run is, over a start, with so many workers beside the caller
pub record IsCore {H S P : Type 0} (m : Machine H S P) (limits : Limits) (workers : ℕ) (start : H) (c : Core H P) : Type 0 where
  pub chains : length c.chains ≡ m.leaves start
  pub claims : length c.claims ≡ suc workers
  pub whole : IsWhole m c
  pub committed : IsCommitted m limits start c
  pub bounded : IsBounded limits c
  pub counted : IsCounted c

-- an opened core is one
abbrev pub OpensWhole : {H S P : Type 0} → Machine H S P → Type 0
OpensWhole {H} {S} {P} m = (limits : Limits) (workers : ℕ) (start : H) → HasValues m start → IsCore m limits workers start (opened m workers start) × IsBrief limits (opened m workers start)

-- and so is every core that any steps lead to
abbrev pub EveryRun : {H S P : Type 0} → Machine H S P → Type 0
EveryRun {H} {S} {P} m = (limits : Limits) (workers : ℕ) (start : H) (ss : List Step) (c : Core H P) → HasValues m start → replayed m limits ss (opened m workers start) ≡ Some c → IsCore m limits workers start c × (c.journal ≡ ss)

-- so its rollbacks are within the limit, the windows of all leaves, the workers and the caller
abbrev pub RollbacksAreFew : {H S P : Type 0} → Machine H S P → Type 0
RollbacksAreFew {H} {S} {P} m = (limits : Limits) (workers : ℕ) (start : H) (ss : List Step) (c : Core H P) → HasValues m start → replayed m limits ss (opened m workers start) ≡ Some c → c.rollbacks ≤ limits.rollbacks + (m.leaves start * limits.window + suc workers)

-- steps of which each read is of a new place, and none of too many
abbrev pub ReadsFit : {H S P : Type 0} → Machine H S P → Limits → List Step → Core H P → Type 0
ReadsFit m limits [] c = Unit {0}
ReadsFit m limits (s ∷ ss) c = ReadFits c.claims s × After (ReadsFit m limits ss) (stepped m limits s c)

-- from a core that is brief, such steps lead to one that is
abbrev pub RunsAreBrief : {H S P : Type 0} → Machine H S P → Type 0
RunsAreBrief {H} {S} {P} m = (limits : Limits) (ss : List Step) (c d : Core H P) → IsWhole m c → IsBounded limits c → IsBrief limits c → ReadsFit m limits ss c → replayed m limits ss c ≡ Some d → IsBrief limits d

-- so with at most 64 workers beside the caller and a window of at most 64, their journal has at most 1,400,000 steps
abbrev pub JournalIsShort : {H S P : Type 0} → Machine H S P → Type 0
JournalIsShort {H} {S} {P} m = (limits : Limits) (workers : ℕ) (start : H) (ss : List Step) (c : Core H P) → workers ≤ MAX_WORKERS → m.leaves start ≤ MAX_LEAVES → limits.window ≤ MAX_WINDOW → HasValues m start →
    ReadsFit m limits ss (opened m workers start) → replayed m limits ss (opened m workers start) ≡ Some c → length c.journal ≤ MAX_JOURNAL

-- a core that goes on can redo
abbrev pub GoesOnByRedo : {H S P : Type 0} → Machine H S P → Type 0
GoesOnByRedo {H} {S} {P} m = (limits : Limits) (c : Core H P) (w : ℕ) → goes_on m limits c ≡ true → (d : Core H P) × (stepped m limits (Redo w) c ≡ Some d)

-- one that has ended or rests neither claims nor commits nor redoes
abbrev pub RestsOrEnded : {H S P : Type 0} → Machine H S P → Type 0
RestsOrEnded {H} {S} {P} m = (limits : Limits) (c : Core H P) (w n : ℕ) → goes_on m limits c ≡ false → (stepped m limits (Claim w) c ≡ None) × (stepped m limits (Commit w n) c ≡ None) × (stepped m limits (Redo w) c ≡ None)

-- the claimed leaf is free, and none that is free comes before it by time and leaf
pub record IsLeastFree (f : ℕ → Option ℕ) (count : ℕ) (x : ℕ × ℕ) : Type 0 where
  pub leaf : x.1 < count
  pub free : f x.1 ≡ Some x.0
  pub least : (i t : ℕ) → i < count → f i ≡ Some t → first_by x.0 t (nat_le x.1 i) ≡ true

-- the planned leaf is the least that is free
abbrev pub PlansLeast : {H S P : Type 0} → Machine H S P → Type 0
PlansLeast {H} {S} {P} m = (limits : Limits) (c : Core H P) (x : ℕ × ℕ) → planned m limits c ≡ Some x → IsLeastFree (free_at m limits c) (length c.chains) x

-- and where none is planned, none is free
abbrev pub PlansNone : {H S P : Type 0} → Machine H S P → Type 0
PlansNone {H} {S} {P} m = (limits : Limits) (c : Core H P) (i : ℕ) → planned m limits c ≡ None → i < length c.chains → free_at m limits c i ≡ None

-- a core with another log pending, and these steps booked
abbrev pub after_reads : {H P : Type 0} → Core H P → ℕ → ℕ → List Entry → Core H P
after_reads c w j es = record { held = c.held; chains = c.chains; counters = c.counters; lines = c.lines; claims = slice_set c.claims w (Some (record { leaf = j; log = es })); journal = c.journal ++ reads_of w es; rollbacks = c.rollbacks; taken = c.taken }

-- the reads of a log, one after another, make it the pending one
abbrev pub LogIsRead : {H S P : Type 0} → Machine H S P → Type 0
LogIsRead {H} {S} {P} m = (limits : Limits) (c : Core H P) (w j : ℕ) (es : List Entry) → claim_of c.claims w ≡ Some (record { leaf = j; log = [] }) → AreNoted es → replayed m limits (reads_of w es) c ≡ Some (after_reads c w j es)

-- such reads fit, where there are no more than a leaf has places; and so does what comes after them, where it isn't a read
abbrev pub LogFits : {H S P : Type 0} → Machine H S P → Type 0
LogFits {H} {S} {P} m = (limits : Limits) (c : Core H P) (w j : ℕ) (es : List Entry) (kind : named.Kind) (time : ℕ) → claim_of c.claims w ≡ Some (record { leaf = j; log = [] }) → AreNoted es → length es ≤ MAX_CELLS →
    ReadsFit m limits (reads_of w es ++ Publish w kind time ∷ []) c

-- a publication with its reads, booked one after another
abbrev pub published : {H S P : Type 0} → Machine H S P → Core H P → ℕ → ℕ → P → List Step → Core H P
published m c w j p ss = let d = pushed m c w j p in record { held = d.held; chains = d.chains; counters = d.counters; lines = d.lines; claims = d.claims; journal = c.journal ++ ss; rollbacks = d.rollbacks; taken = d.taken }

-- they push the piece that the log makes
abbrev pub PublicationIsRead : {H S P : Type 0} → Machine H S P → Type 0
PublicationIsRead {H} {S} {P} m = (limits : Limits) (c : Core H P) (w j : ℕ) (es : List Entry) (called : named.Kind) (kind : Kind) (time : ℕ) (p : P) → claim_of c.claims w ≡ Some (record { leaf = j; log = [] }) → AreNoted es →
    m.kind_in j called ≡ Some kind → m.makes j (chain_end m c j) kind time es ≡ Some p →
    replayed m limits (reads_of w es ++ Publish w called time ∷ []) c ≡ Some (published m c w j p (reads_of w es ++ Publish w called time ∷ []))

-- two lists of versions in order with the same look-ups are equal
abbrev pub OrderedIsOne : List Version → List Version → Type 0
OrderedIsOne xs ys = IsOrdered xs → IsOrdered ys → ((leaf pos : ℕ) → find_version leaf pos xs ≡ find_version leaf pos ys) → xs ≡ ys

-- so the lines of a whole core are a function of what is committed and of the chains
abbrev pub LinesAreOne : {H S P : Type 0} → Machine H S P → Type 0
LinesAreOne {H} {S} {P} m = (c d : Core H P) → IsWhole m c → IsWhole m d → c.held ≡ d.held → c.chains ≡ d.chains → c.lines ≡ d.lines

-- a log agrees with values as a read log does
abbrev pub AgreesIsAgreesWith : List Entry → List ℕ → Type 0
AgreesIsAgreesWith es shared = IsTrue (agrees (slice_get shared) es) ↔ AreEntriesOf es shared
