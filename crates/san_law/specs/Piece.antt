-- A piece: a block of one leaf's work, from the leaf's state and the values of the shared places.
use Rattle.std.specs.Prelude.{ℕ, suc, List, [], ◌∷◌, Option, Some, None, Result, Ok, Err, Bool, true, false, slice_index, if◌then◌else◌}
use Rattle.san_base.specs.declared.ending.Trap.{Trap}
use Rattle.san_law.specs.Net.{Done, Faulty, Fresh, Local, Net, Private, Rated, Renewing, Row, Shared, Slot, no_row, without_timer}
use Rattle.san_law.specs.State.{part_of}
use Rattle.san_law.specs.Block.{Block, Completion, Fault, before, fault_of, more_of, settle}

-- a timed completion and then the leaf's own instantaneous ones; these alone; or the renewal of the leaf's timers
pub data Kind : Type 0 where
  Fire : (act : ℕ) → Kind
  Settle : Kind
  Refresh : Kind

-- the values of a leaf's private places, its row, and the values that its last renewal saw
pub record LeafState : Type 0 where
  pub values : List ℕ
  pub row : Row
  pub seen : List ℕ

-- the state of a leaf that is not there
abbrev pub no_leaf : LeafState
no_leaf = record { values = []; row = no_row; seen = [] }

-- what a piece makes: completions, assigned shared places with their last values, the leaf's state, its rates, a fault, and whether it ended for its length alone
pub record Outcome : Type 0 where
  pub completions : List Completion
  pub writes : List (ℕ × ℕ)
  pub state : LeafState
  pub rates : List Rated
  pub fault : Option Fault
  pub more : Bool

-- a leaf's values in the order of its places, from its own and the shared ones
abbrev pub leaf_view : List Slot → List ℕ → List ℕ → List ℕ
leaf_view [] values shared = []
leaf_view (Shared q ∷ ss) values shared = slice_index shared q ∷ leaf_view ss values shared
leaf_view (Private p ∷ ss) [] shared = 0 ∷ leaf_view ss [] shared
leaf_view (Private p ∷ ss) (v ∷ values) shared = v ∷ leaf_view ss values shared

-- the values of the private places among a leaf's values
abbrev pub own : List Slot → List ℕ → List ℕ
own [] vs = []
own (s ∷ ss) [] = []
own (Private p ∷ ss) (v ∷ vs) = v ∷ own ss vs
own (Shared q ∷ ss) (v ∷ vs) = own ss vs

-- the private places
abbrev pub privates : List Slot → List ℕ
privates [] = []
privates (Private p ∷ ss) = p ∷ privates ss
privates (Shared q ∷ ss) = privates ss

-- a leaf as its piece finds it
abbrev pub sees : Net → ℕ → LeafState → List ℕ → Local
sees net j base shared = record { values = leaf_view (part_of net j) base.values shared; row = base.row }

-- the shared places that were assigned, with their values, in the order of the leaf's places
abbrev pub with_write : Bool → ℕ × ℕ → List (ℕ × ℕ) → List (ℕ × ℕ)
with_write true w ws = w ∷ ws
with_write false w ws = ws

-- place by place, from a number on
abbrev pub writes_from : (ℕ → Bool) → ℕ → List Slot → List ℕ → List (ℕ × ℕ)
writes_from sets p [] vs = []
writes_from sets p (s ∷ ss) [] = []
writes_from sets p (Private q ∷ ss) (v ∷ vs) = writes_from sets (suc p) ss vs
writes_from sets p (Shared q ∷ ss) (v ∷ vs) = with_write (sets p) (q, v) (writes_from sets (suc p) ss vs)

-- what a leaf keeps of the values that it renewed in: all where it has an activity with a pair, else nothing
abbrev pub kept : Net → ℕ → List ℕ → List ℕ
kept net j values = if net.paired j then values else []

-- a block's outcome
abbrev pub outcome_of : Net → ℕ → List ℕ → Block → Outcome
outcome_of net j seen b = record {
  completions = b.completions;
  writes = writes_from b.sets 0 (part_of net j) b.left.values;
  state = record { values = own (part_of net j) b.left.values; row = b.left.row; seen = seen };
  rates = [];
  fault = fault_of b.close;
  more = more_of b.close;
}

-- where nothing comes about but a trap, the state is the base
abbrev pub failed : LeafState → Fault → Outcome
failed base f = record { completions = []; writes = []; state = base; rates = []; fault = Some f; more = false }

-- a leaf without the timer that is due
abbrev pub dropped : Net → Local → ℕ → Local
dropped net l k = record { values = l.values; row = without_timer l.row k }

-- the fired completion, and then a block
abbrev pub fired_outcome : Net → ℕ → ℕ → LeafState → ℕ → Result Done Trap → Outcome
fired_outcome net n j base k (Err trap) = failed base (record { act = k; trap = trap; picked = true })
fired_outcome net n j base k (Ok d) = outcome_of net j base.seen (before k d (settle net j n d.left))

-- the renewal, and then the rates
abbrev pub renewed_outcome : Net → ℕ → LeafState → List ℕ → Renewing → Outcome
renewed_outcome net j base values (Faulty k trap) = failed base (record { act = k; trap = trap; picked = false })
renewed_outcome net j base values (Fresh r) = record { completions = []; writes = []; state = record { values = base.values; row = r; seen = kept net j values }; rates = net.rates j values; fault = None; more = false }

-- the piece of a leaf, of a kind, at a time, from a state, over the shared values; it has at most 64 completions
abbrev pub piece_of : Net → ℕ → Kind → ℕ → LeafState → List ℕ → Outcome
piece_of net j Settle time base shared = outcome_of net j base.seen (settle net j 64 (sees net j base shared))
piece_of net j (Fire k) time base shared = fired_outcome net 63 j base k (net.done j k (dropped net (sees net j base shared) k))
piece_of net j Refresh time base shared = renewed_outcome net j base (leaf_view (part_of net j) base.values shared) (net.renewed j time base.seen (sees net j base shared))
