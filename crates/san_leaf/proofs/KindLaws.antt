-- What the completions of a piece make, by the law.
use Rattle.std.proofs.Common.{ℕ, suc, ◌≡◌, ◌∙◌, ap, refl, arith, false, List, [], ◌∷◌, length, Option, Some, None, Result, Ok, Err}
use Rattle.san_base.specs.declared.ending.Trap.{Trap}
use Rattle.san_law.specs.Block.{Block, Completion, after_done, after_found, ended, fault_of, more_of, settle}
use Rattle.san_law.specs.Block as law
use Rattle.san_law.specs.Net.{Broken, Done, Enabled, Found, Local, Net, Nothing, Private, Shared, Slot, without_timer}
use Rattle.san_law.specs.Piece.{LeafState, Outcome, fired_outcome, outcome_of, own, piece_of, privates, sees, leaf_view, writes_from}
use Rattle.san_law.specs.State.{part_of}
use Rattle.san_net.specs.Accepted.{IsAccepted}
use Rattle.san_net.specs.declared.part.Part.{Part}
use Rattle.san_leaf.specs.Blocks.{made_of}
use Rattle.san_leaf.specs.Lawful.{IsBlockOf, leaf_at, net_of_part}
use Rattle.san_leaf.specs.inner.Ends.{idle, kind_by, row_by}
use Rattle.san_leaf.proofs.BlockLaws.{is_block, picked_then}

-- nothing is assigned
none_written : (k : ℕ) (ss : List Slot) (vs : List ℕ) → writes_from (λ p. false) k ss vs ≡ []
none_written k [] vs = refl
none_written k (s ∷ ss) [] = refl
none_written k (Private q ∷ ss) (v ∷ vs) = none_written (suc k) ss vs
none_written k (Shared q ∷ ss) (v ∷ vs) = none_written (suc k) ss vs

-- a leaf has its own values of what it sees
own_leaf_view : (ss : List Slot) (values shared : List ℕ) → length values ≡ length (privates ss) → own ss (leaf_view ss values shared) ≡ values
own_leaf_view [] [] shared l = refl
own_leaf_view [] (v ∷ values) shared l = cc
own_leaf_view (Private q ∷ ss) [] shared l = cc
own_leaf_view (Private q ∷ ss) (v ∷ values) shared l = ap (λ xs. v ∷ xs) (own_leaf_view ss values shared (omega (arith, l)))
own_leaf_view (Shared q ∷ ss) values shared l = own_leaf_view ss values shared l

-- a block's outcome; without a completion the leaf is as it was
abbrev pub comes_by : List Completion → Net → LeafState → Block → Outcome
comes_by [] net base b = idle base b.close
comes_by (c ∷ cs) net base b = outcome_of net 0 base.seen b

abbrev pub comes : Net → LeafState → Block → Outcome
comes net base b = comes_by b.completions net base b

module _ (net : Net) (base : LeafState) (few : length base.values ≡ length (privates (part_of net 0))) (shared : List ℕ) where
  abbrev l : Local
  l = sees net 0 base shared

  ended_idle : (c : law.Close) → outcome_of net 0 base.seen (ended l c) ≡ idle base c
  ended_idle c =
      ap (λ ws. record { completions = []; writes = ws; state = record { values = own (part_of net 0) l.values; row = base.row; seen = base.seen }; rates = []; fault = fault_of c; more = more_of c }) (none_written 0 (part_of net 0) l.values)
      ∙ ap (λ vs. record { completions = []; writes = []; state = record { values = vs; row = base.row; seen = base.seen }; rates = []; fault = fault_of c; more = more_of c }) (own_leaf_view (part_of net 0) base.values shared few)

  done_comes : (go : Local → Block) (k : ℕ) (r : Result Done Trap) → outcome_of net 0 base.seen (after_done go l k r) ≡ comes net base (after_done go l k r)
  done_comes go k (Err t) = ended_idle (law.FailsDone k t)
  done_comes go k (Ok d) = refl

  found_comes : (go : Local → Block) (done : ℕ → Result Done Trap) (f : Found) → outcome_of net 0 base.seen (after_found go done l f) ≡ comes net base (after_found go done l f)
  found_comes go done Nothing = ended_idle law.Rests
  found_comes go done (Broken k t) = ended_idle (law.FailsTest k t)
  found_comes go done (Enabled k) = done_comes go k (done k)

fired_comes : (net : Net) (base : LeafState) (l : Local) (k : ℕ) (r : Result Done Trap) → fired_outcome net 63 0 base k r ≡ comes net base (after_done (settle net 0 63) l k r)
fired_comes net base l k (Err t) = refl
fired_comes net base l k (Ok d) = refl

module _ (draw : ℕ → ℕ → ℕ) (p : Part) (time : ℕ) (base : LeafState) where
  abbrev net : Net
  net = net_of_part draw p

  -- a leaf as completions begin
  abbrev started : Option ℕ → List ℕ → Local
  started fired v = leaf_at (row_by fired base.row) base.row.cases v

  -- the completions of a piece
  abbrev pub block_in : Option ℕ → List ℕ → Block
  block_in None v = settle net 0 64 (started None v)
  block_in (Some k) v = after_done (settle net 0 63) (started (Some k) v) k (net.done 0 k (started (Some k) v))

  pub block_is_made : IsAccepted p.atomic → (fired : Option ℕ) (v : List ℕ) → IsBlockOf (block_in fired v) (row_by fired base.row) (made_of draw p fired base.row.cases v)
  block_is_made accepted None v = is_block draw p accepted 64 base.row base.row.cases v
  block_is_made accepted (Some k) v = picked_then draw p 63 k (without_timer base.row k) base.row.cases v (is_block draw p accepted 63)

  pub piece_comes : length base.values ≡ length (privates (part_of net 0)) → (fired : Option ℕ) (shared : List ℕ) → piece_of net 0 (kind_by fired) time base shared ≡ comes net base (block_in fired (leaf_view (part_of net 0) base.values shared))
  unfolding without_timer
  piece_comes few None shared = found_comes net base few shared (settle net 0 63) (λ k. net.done 0 k (sees net 0 base shared)) (net.first 0 (leaf_view (part_of net 0) base.values shared))
  piece_comes few (Some k) shared = fired_comes net base (started (Some k) (leaf_view (part_of net 0) base.values shared)) k (net.done 0 k (started (Some k) (leaf_view (part_of net 0) base.values shared)))
