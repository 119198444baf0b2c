-- A core: a committed part, and the book of what is made ahead of it.
use Rattle.std.specs.Prelude.{ℕ, suc, List, [], ◌∷◌, map, replicate, Option, Some, None, Bool, false, nat_eq, ◌||◌, slice_index_or}
use Rattle.san_base.specs.declared.piece.Kind as named
use Rattle.san_base.specs.declared.numbers.PlaceId.{PlaceId}
use Rattle.san_log.specs.Logs.{Entry}
use Rattle.san_book.specs.Machines.{Machine}
use Rattle.san_book.specs.Lines.{Line}
use Rattle.san_book.specs.Chains.{Chain}

-- what is done to a core
pub data Step : Type 0 where
  Claim : (worker : ℕ) → Step
  Read : (worker : ℕ) (place : PlaceId) (value : ℕ) → Step
  Publish : (worker : ℕ) (kind : named.Kind) (time : ℕ) → Step
  Late : (worker : ℕ) → Step
  Cut : (worker leaf : ℕ) → Step
  Commit : (worker pieces : ℕ) → Step
  Redo : (worker : ℕ) → Step

-- a claimed leaf, and what its worker has read since
pub record Pending : Type 0 where
  pub leaf : ℕ
  pub log : List Entry

-- the committed part; by leaf the chain and the next piece's number; by shared place the line; by worker perhaps a claimed leaf with a pending log; the steps so far; how many rollbacks; how many pieces were taken
pub record Core (H P : Type 0) : Type 0 where
  pub held : H
  pub chains : List (Chain P)
  pub counters : List ℕ
  pub lines : List Line
  pub claims : List (Option Pending)
  pub journal : List Step
  pub rollbacks : ℕ
  pub taken : ℕ

-- a line without versions
abbrev pub bare_line : ℕ → Line
bare_line v = record { committed = v; versions = [] }

-- a core over a start, for the caller and so many workers
abbrev pub opened : {H S P : Type 0} → Machine H S P → ℕ → H → Core H P
opened m workers start = record {
  held = start;
  chains = replicate (m.leaves start) [];
  counters = replicate (m.leaves start) 0;
  lines = map bare_line (m.shared start);
  claims = replicate (suc workers) None;
  journal = [];
  rollbacks = 0;
  taken = 0;
}

-- what a worker has claimed
abbrev pub claim_of : List (Option Pending) → ℕ → Option Pending
claim_of claims w = slice_index_or claims w None

-- it is of this leaf
abbrev pub is_at : ℕ → Option Pending → Bool
is_at j None = false
is_at j (Some p) = nat_eq p.leaf j

-- somebody has claimed a leaf
abbrev pub is_claimed : ℕ → List (Option Pending) → Bool
is_claimed j [] = false
is_claimed j (o ∷ os) = is_at j o || is_claimed j os
