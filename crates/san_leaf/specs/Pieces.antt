-- A piece as contracts see it, and when it is sound.
use Rattle.std.specs.Prelude.{ℕ, suc, ◌≡◌, List, [], ◌∷◌, length, map, Bool, true, false, Some, None, slice_index}
use Rattle.san_draw.specs.Key.{draw_of}
use Rattle.san_expr.specs.Concerns.{IsMarking}
use Rattle.san_law.specs.Net.{Private, Shared, Slot}
use Rattle.san_base.specs.declared.piece.Kind.{Kind}
use Rattle.san_law.specs.Piece.{LeafState, Outcome, own, piece_of, leaf_view}
use Rattle.san_law.specs.State.{blank_row}
use Rattle.san_net.specs.Leaf.{slot_in}
use Rattle.san_net.specs.declared.part.Part.{Part}
use Rattle.san_law.specs.Piece as law
use Rattle.san_leaf.specs.Blocks.{made_of}
use Rattle.san_leaf.specs.Lawful.{net_of_part}
use Rattle.san_leaf.specs.States.{kind_in}

-- what a piece of a part makes, from a state and the values of the shared places
abbrev pub piece_in : Part → ℕ → law.Kind → ℕ → LeafState → List ℕ → Outcome
piece_in p seed kind time base shared = piece_of (net_of_part (draw_of seed) p) 0 kind time base shared

abbrev pub slots_in : Part → List Slot
slots_in p = map slot_in p.slots

-- a leaf's values, from its own and the shared ones
abbrev pub sees_in : Part → LeafState → List ℕ → List ℕ
sees_in p base shared = leaf_view (slots_in p) base.values shared

abbrev pub with_read : Bool → ℕ × ℕ → List (ℕ × ℕ) → List (ℕ × ℕ)
with_read true r rs = r ∷ rs
with_read false r rs = rs

-- the shared places among the cells that are looked at, with their values, in the order of the cells
abbrev pub reads_from : (ℕ → Bool) → ℕ → List Slot → List ℕ → List (ℕ × ℕ)
reads_from looks k [] vs = []
reads_from looks k (s ∷ ss) [] = []
reads_from looks k (Private q ∷ ss) (v ∷ vs) = reads_from looks (suc k) ss vs
reads_from looks k (Shared q ∷ ss) (v ∷ vs) = with_read (looks k) (q, v) (reads_from looks (suc k) ss vs)

-- the cells that a piece looks at: a renewal looks at all
abbrev pub looks_in : Part → ℕ → law.Kind → LeafState → List ℕ → (ℕ → Bool)
looks_in p seed law.Settle base v = (made_of (draw_of seed) p None base.row.cases v).looks
looks_in p seed (law.Fire k) base v = (made_of (draw_of seed) p (Some k) base.row.cases v).looks
looks_in p seed law.Refresh base v = λ i. true

-- the shared places that it reads, with their values
abbrev pub reads_in : Part → ℕ → law.Kind → LeafState → List ℕ → List (ℕ × ℕ)
reads_in p seed kind base shared = reads_from (looks_in p seed kind base (sees_in p base shared)) 0 (slots_in p) (sees_in p base shared)

-- shared values have what was read
abbrev pub AgreesWith : List (ℕ × ℕ) → List ℕ → Type 0
AgreesWith [] shared = Unit {0}
AgreesWith (e ∷ es) shared = (slice_index shared e.0 ≡ e.1) × AgreesWith es shared

pub record PieceValue : Type 0 where
  pub part : Part
  pub seed : ℕ
  pub kind : Kind
  pub base : LeafState
  pub time : ℕ
  pub log : List (ℕ × ℕ)
  pub outcome : Outcome

-- over all shared values that agree with the log, the piece makes this and reads just the log
pub record IsSound (p : PieceValue) : Type 0 where
  pub makes : (shared : List ℕ) → AgreesWith p.log shared → piece_in p.part p.seed (kind_in p.part.first.0 p.kind) p.time p.base shared ≡ p.outcome
  pub reads : (shared : List ℕ) → AgreesWith p.log shared → reads_in p.part p.seed (kind_in p.part.first.0 p.kind) p.base shared ≡ p.log

-- a leaf's state before its first piece
abbrev pub opened_state : Part → LeafState
opened_state p = record { values = own (slots_in p) p.atomic.initial; row = blank_row (length p.atomic.acts); seen = [] }

-- what was read of some of a part's cells: shared places in the order of the cells, each with a number of tokens
pub record IsLog (p : Part) (log : List (ℕ × ℕ)) : Type 0 where
  pub looks : ℕ → Bool
  pub values : List ℕ
  pub small : IsMarking values
  pub is : log ≡ reads_from looks 0 (slots_in p) values
