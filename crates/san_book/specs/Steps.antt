-- What each step makes of a core, where it happens.
use Rattle.std.specs.Prelude.{ℕ, zero, suc, nat_lt, nat_le, ◌&&◌, ◌||◌, not, [], ◌∷◌, ◌++◌, length, take, drop, Option, Some, None, Bool, true, false, slice_get, slice_index, slice_set}
use Rattle.san_base.specs.declared.limits.Limits.{Limits}
use Rattle.san_base.specs.declared.limits.TheConstants.{MAX_TOKENS}
use Rattle.san_base.specs.declared.numbers.PlaceId.{PlaceId}
use Rattle.san_base.specs.declared.piece.Kind as named
use Rattle.san_chain.specs.Chains.{end_from}
use Rattle.san_log.specs.Logs.{noted}
use Rattle.san_law.specs.Piece.{Kind}
use Rattle.san_law.specs.Order.{Finished, Need, Needs, need_of}
use Rattle.san_book.specs.declared.limits.TheConstants.{MAX_COMMIT, MAX_STEPS_TO_CLAIM, MAX_STRETCH_EVENTS, MAX_STRETCH_PIECES}
use Rattle.san_book.specs.Machines.{Machine, is_of}
use Rattle.san_book.specs.Lines.{agrees, commit, each}
use Rattle.san_book.specs.Chains.{Chain, chain_of, current, with_piece, without_piece, without_pieces}
use Rattle.san_book.specs.Cores.{Claim, Commit, Core, Cut, Late, Pending, Publish, Read, Redo, Step, claim_of}
use Rattle.san_book.specs.Plans.{planned, when}

-- the piece that is needed
abbrev pub need_in : {H S P : Type 0} → Machine H S P → Limits → Core H P → Need
need_in m limits c = need_of limits.horizon.0 (m.order c.held)

-- none is needed
abbrev pub is_finished : Need → Bool
is_finished (Needs j kind time) = false
is_finished Finished = true

-- a core has ended where it came to a stop or needs no piece
abbrev pub has_ended : {H S P : Type 0} → Machine H S P → Limits → Core H P → Bool
has_ended m limits c = m.stopped c.held || is_finished (need_in m limits c)

-- it rests where it hasn't ended and took so many events or so many pieces
abbrev pub rests : {H S P : Type 0} → Machine H S P → Limits → Core H P → Bool
rests m limits c = not (has_ended m limits c) && (nat_le MAX_STRETCH_EVENTS (length (m.events c.held)) || nat_le MAX_STRETCH_PIECES c.taken)

-- it goes on where it hasn't ended and doesn't rest
abbrev pub goes_on : {H S P : Type 0} → Machine H S P → Limits → Core H P → Bool
goes_on m limits c = not (has_ended m limits c) && not (rests m limits c)

-- one of the workers has claimed nothing
abbrev pub has_none : Option Pending → Bool
has_none None = true
has_none (Some p) = false

-- a worker may claim
abbrev pub may_claim : {H S P : Type 0} → Machine H S P → Limits → Core H P → ℕ → Bool
may_claim m limits c w = goes_on m limits c && (nat_lt (length c.journal) MAX_STEPS_TO_CLAIM && (nat_lt c.rollbacks limits.rollbacks && (nat_lt w (length c.claims) && has_none (claim_of c.claims w))))

-- another thing is claimed by a worker
abbrev pub with_claim : {H P : Type 0} → Core H P → ℕ → Option Pending → Core H P
with_claim c w o = record { held = c.held; chains = c.chains; counters = c.counters; lines = c.lines; claims = slice_set c.claims w o; journal = c.journal; rollbacks = c.rollbacks; taken = c.taken }

-- the planned leaf is claimed
abbrev pub claimed_by : {H P : Type 0} → Core H P → ℕ → Option (ℕ × ℕ) → Option (Core H P)
claimed_by c w None = None
claimed_by c w (Some x) = Some (with_claim c w (Some (record { leaf = x.1; log = [] })))

-- a value that was read is noted
abbrev pub read_by : {H P : Type 0} → Core H P → ℕ → PlaceId → ℕ → Option Pending → Option (Core H P)
read_by c w place v None = None
read_by c w place v (Some p) = when (nat_le v MAX_TOKENS) (Some (with_claim c w (Some (record { leaf = p.leaf; log = noted place v p.log }))))

-- a piece is pushed with the leaf's next number, its writes become versions, and the claim goes
abbrev pub pushed : {H S P : Type 0} → Machine H S P → Core H P → ℕ → ℕ → P → Core H P
pushed m c w j p = record {
  held = c.held;
  chains = slice_set c.chains j (chain_of c.chains j ++ (slice_index c.counters j, p) ∷ []);
  counters = slice_set c.counters j (suc (slice_index c.counters j));
  lines = with_piece m.reading j (slice_index c.counters j) p c.lines;
  claims = slice_set c.claims w None;
  journal = c.journal;
  rollbacks = c.rollbacks;
  taken = c.taken;
}

-- where the log makes a piece
abbrev pub pushed_by : {H S P : Type 0} → Machine H S P → Core H P → ℕ → ℕ → Option P → Option (Core H P)
pushed_by m c w j None = None
pushed_by m c w j (Some p) = Some (pushed m c w j p)

-- the state that a leaf's chain ends with, which is the committed one where there is no piece
abbrev pub chain_end : {H S P : Type 0} → Machine H S P → Core H P → ℕ → S
chain_end m c j = end_from m.reading.end (m.state c.held j) (chain_of c.chains j)

-- of a kind that the leaf has
abbrev pub published_as : {H S P : Type 0} → Machine H S P → Core H P → ℕ → ℕ → Pending → Option Kind → Option (Core H P)
published_as m c w time p None = None
published_as m c w time p (Some k) = pushed_by m c w p.leaf (m.makes p.leaf (chain_end m c p.leaf) k time p.log)

-- by a worker that has claimed a leaf
abbrev pub published_by : {H S P : Type 0} → Machine H S P → Core H P → ℕ → named.Kind → ℕ → Option Pending → Option (Core H P)
published_by m c w kind time None = None
published_by m c w kind time (Some p) = published_as m c w time p (m.kind_in p.leaf kind)

-- the claim goes
abbrev pub late_by : {H P : Type 0} → Core H P → ℕ → Option Pending → Option (Core H P)
late_by c w None = None
late_by c w (Some p) = Some (with_claim c w None)

-- a leaf's pieces from one on go, with their versions: one rollback
abbrev pub cut_at : {H S P : Type 0} → Machine H S P → Core H P → ℕ → ℕ → Core H P
cut_at m c j k = record {
  held = c.held;
  chains = slice_set c.chains j (take k (chain_of c.chains j));
  counters = c.counters;
  lines = without_pieces m.reading j (drop k (chain_of c.chains j)) c.lines;
  claims = c.claims;
  journal = c.journal;
  rollbacks = suc c.rollbacks;
  taken = c.taken;
}

-- from the first that isn't current, where there is one
abbrev pub cut_by : {H S P : Type 0} → Machine H S P → Core H P → ℕ → ℕ → Option (Core H P)
cut_by m c j k = when (nat_lt k (length (chain_of c.chains j))) (Some (cut_at m c j k))

-- the head of a chain is taken: its versions go, and what is then committed stands in the lines
abbrev pub taken_head : {H S P : Type 0} → Machine H S P → Core H P → ℕ → ℕ × P → Chain P → Core H P
taken_head m c j x rest = record {
  held = m.takes c.held j x.1;
  chains = slice_set c.chains j rest;
  counters = c.counters;
  lines = each (commit (m.shared (m.takes c.held j x.1))) (m.reading.writes x.1) (without_piece m.reading j x.0 x.1 c.lines);
  claims = c.claims;
  journal = c.journal;
  rollbacks = c.rollbacks;
  taken = suc c.taken;
}

-- where it is of the needed kind and time, and read what is committed
abbrev pub head_by : {H S P : Type 0} → Machine H S P → Core H P → ℕ → Kind → ℕ → Chain P → Option (Core H P)
head_by m c j kind time [] = None
head_by m c j kind time (x ∷ rest) = when (is_of m.reading kind time x.1 && agrees (slice_get (m.shared c.held)) (m.reading.log x.1)) (Some (taken_head m c j x rest))

-- where a piece is needed
abbrev pub committed_by : {H S P : Type 0} → Machine H S P → Core H P → Need → Option (Core H P)
committed_by m c (Needs j kind time) = head_by m c j kind time (chain_of c.chains j)
committed_by m c Finished = None

-- one piece is committed
abbrev pub committed : {H S P : Type 0} → Machine H S P → Limits → Core H P → Option (Core H P)
committed m limits c = when (goes_on m limits c) (committed_by m c (need_in m limits c))

-- one step, and then another
abbrev pub then_by : {X : Type 0} → Option X → (X → Option X) → Option X
then_by None go = None
then_by (Some x) go = go x

-- so many pieces are committed, one after another
abbrev pub all_committed : {H S P : Type 0} → Machine H S P → Limits → ℕ → Core H P → Option (Core H P)
all_committed m limits zero c = Some c
all_committed m limits (suc n) c = then_by (committed m limits c) (all_committed m limits n)

-- a piece that was made anew is taken, and the leaf's next number rises
abbrev pub taken_anew : {H S P : Type 0} → Machine H S P → Core H P → ℕ → P → Core H P
taken_anew m c j p = record {
  held = m.takes c.held j p;
  chains = c.chains;
  counters = slice_set c.counters j (suc (slice_index c.counters j));
  lines = each (commit (m.shared (m.takes c.held j p))) (m.reading.writes p) c.lines;
  claims = c.claims;
  journal = c.journal;
  rollbacks = c.rollbacks;
  taken = suc c.taken;
}

-- whether a chain goes then: its head was of this kind and time, is of an earlier time, or doesn't begin with the leaf's state
abbrev pub falls : {H S P : Type 0} → Machine H S P → Kind → ℕ → S → Chain P → Bool
falls m kind time s [] = false
falls m kind time s (x ∷ xs) = is_of m.reading kind time x.1 || (nat_lt (m.reading.time x.1) time || not (m.same (m.reading.base x.1) s))

-- it goes whole
abbrev pub fallen : {H S P : Type 0} → Bool → Machine H S P → Core H P → ℕ → Core H P
fallen true m c j = cut_at m c j 0
fallen false m c j = c

-- the needed piece is made anew and taken
abbrev pub redone : {H S P : Type 0} → Machine H S P → Core H P → ℕ → Kind → ℕ → P → Core H P
redone m c j kind time p = fallen (falls m kind time (m.state (m.takes c.held j p) j) (chain_of c.chains j)) m (taken_anew m c j p) j

-- where one is needed
abbrev pub redone_by : {H S P : Type 0} → Machine H S P → Core H P → Need → Option (Core H P)
redone_by m c (Needs j kind time) = Some (redone m c j kind time (m.needed c.held j kind time))
redone_by m c Finished = None

-- a step, where it happens
unfoldable pub happens : {H S P : Type 0} → Machine H S P → Limits → Step → Core H P → Option (Core H P)
happens m limits (Claim w) c = when (may_claim m limits c w) (claimed_by c w (planned m limits c))
happens m limits (Read w place v) c = read_by c w place v (claim_of c.claims w)
happens m limits (Publish w kind time) c = published_by m c w kind time (claim_of c.claims w)
happens m limits (Late w) c = late_by c w (claim_of c.claims w)
happens m limits (Cut w j) c = cut_by m c j (current m.reading c.lines j (chain_of c.chains j))
happens m limits (Commit w n) c = when (nat_le 1 n && nat_le n MAX_COMMIT) (all_committed m limits n c)
happens m limits (Redo w) c = when (goes_on m limits c) (redone_by m c (need_in m limits c))
