-- What the bookkeeping asks of a committed part, and what each step keeps.
use Rattle.std.specs.Prelude.{ℕ, ◌≡◌, ◌↔◌, ◌≢◌, ◌<◌, List, ◌++◌, length, Some, None, true, false, slice_get, slice_index}
use Rattle.san_base.specs.declared.limits.Limits.{Limits}
use Rattle.san_log.specs.Logs.{Entry}
use Rattle.san_law.specs.Step.{Event}
use Rattle.san_law.specs.Piece.{Kind}
use Rattle.san_book.specs.Machines.{Machine, PieceReading, after_pieces}
use Rattle.san_book.specs.Lines.{AreCommitted, AreWrites, agrees, write_of}
use Rattle.san_book.specs.Chains.{AreNumberedBelow, AllFit, AreMadeByLogs, AreNumberedApart, Chain, Connects, Exact, chain_of}
use Rattle.san_book.specs.Cores.{Core, Pending, claim_of}

-- a piece is what was asked for, and writes shared places alone, each once
pub record IsAsAsked {S P : Type 0} (r : PieceReading S P) (width : ℕ) (base : S) (kind : Kind) (time : ℕ) (log : List Entry) (p : P) : Type 0 where
  pub based : r.base p ≡ base
  pub kinded : r.kind p ≡ kind
  pub timed : r.time p ≡ time
  pub logged : r.log p ≡ log
  pub fits : AreWrites width (r.writes p)

-- a committed part has a value for each shared place
abbrev pub HasValues : {H S P : Type 0} → Machine H S P → H → Type 0
HasValues m h = length (m.shared h) ≡ m.width

-- what a committed part and its pieces have to be
pub record IsLawfulMachine {H S P : Type 0} (m : Machine H S P) : Type 0 where
  -- taking a piece changes no sizes, no other leaf's state, and no value that it doesn't write; the leaf's own state is the piece's end where it comes to no stop; the events grow
  pub sizes : (h : H) (j : ℕ) (p : P) → length (m.shared (m.takes h j p)) ≡ length (m.shared h)
  pub leaves : (h : H) (j : ℕ) (p : P) → m.leaves (m.takes h j p) ≡ m.leaves h
  pub others : (h : H) (j i : ℕ) (p : P) → i ≢ j → m.state (m.takes h j p) i ≡ m.state h i
  pub frame : (h : H) (j : ℕ) (p : P) (q : ℕ) → write_of q (m.reading.writes p) ≡ None → slice_index (m.shared (m.takes h j p)) q ≡ slice_index (m.shared h) q
  pub own : (h : H) (j : ℕ) (p : P) → j < m.leaves h → m.stopped (m.takes h j p) ≡ false → m.state (m.takes h j p) j ≡ m.reading.end p
  pub grows : (h : H) (j : ℕ) (p : P) → (es : List Event) × (m.events (m.takes h j p) ≡ m.events h ++ es)
  -- a piece is made as it was asked for; the needed one is made by a log that agrees with what is committed, and any other such piece is taken as it is
  pub made : (j : ℕ) (base : S) (kind : Kind) (time : ℕ) (log : List Entry) (p : P) → m.makes j base kind time log ≡ Some p → IsAsAsked m.reading m.width base kind time log p
  pub needed : (h : H) → HasValues m h → (j : ℕ) (kind : Kind) (time : ℕ) → let p = m.needed h j kind time in (m.makes j (m.state h j) kind time (m.reading.log p) ≡ Some p) × (agrees (slice_get (m.shared h)) (m.reading.log p) ≡ true)
  pub sound : (h : H) (j : ℕ) (kind : Kind) (time : ℕ) (log : List Entry) (p : P) → m.makes j (m.state h j) kind time log ≡ Some p → agrees (slice_get (m.shared h)) log ≡ true → m.takes h j p ≡ m.takes h j (m.needed h j kind time)
  -- the test on states is their equality
  pub same : (a b : S) → (m.same a b ≡ true) ↔ (a ≡ b)

-- a leaf's chain: no number twice, each below the leaf's next one, and pieces that their logs make
pub record IsChain {H S P : Type 0} (m : Machine H S P) (j next : ℕ) (chain : Chain P) : Type 0 where
  pub apart : AreNumberedApart chain
  pub below : AreNumberedBelow next chain
  pub fit : AllFit m.reading m.width chain
  pub made : AreMadeByLogs m j chain

-- what every core keeps
pub record IsWhole {H S P : Type 0} (m : Machine H S P) (c : Core H P) : Type 0 where
  -- a line for each shared place, a chain and a number for each leaf
  pub width : HasValues m c.held
  pub lines : length c.lines ≡ m.width
  pub leaves : length c.chains ≡ m.leaves c.held
  pub counters : length c.counters ≡ length c.chains
  -- the lines are the committed values and the chains' writes
  pub committed : AreCommitted c.lines (m.shared c.held)
  pub exact : Exact m.reading c.lines (chain_of c.chains)
  -- chains of sound pieces, which go on from the committed states where there is no stop
  pub chains : (j : ℕ) → IsChain m j (slice_index c.counters j) (chain_of c.chains j)
  pub connects : m.stopped c.held ≡ false → (j : ℕ) → Connects m.reading (m.state c.held j) (chain_of c.chains j)
  -- only leaves are claimed
  pub claims : (w : ℕ) (p : Pending) → claim_of c.claims w ≡ Some p → p.leaf < length c.chains

-- the committed part is what the needed pieces make of the start, one after another
abbrev pub IsCommitted : {H S P : Type 0} → Machine H S P → Limits → H → Core H P → Type 0
IsCommitted m limits start c = c.held ≡ after_pieces m limits.horizon.0 c.taken start
