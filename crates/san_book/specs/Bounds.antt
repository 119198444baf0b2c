-- How far the book may grow.
use Rattle.std.specs.Prelude.{ℕ, ◌+◌, ◌*◌, ◌-◌, ◌≡◌, ◌≤◌, ◌<◌, List, [], ◌∷◌, length, Option, Some, None}
use Rattle.san_base.specs.declared.limits.Limits.{Limits}
use Rattle.san_base.specs.declared.limits.TheConstants.{MAX_CELLS}
use Rattle.san_log.specs.Logs.{find}
use Rattle.san_book.specs.declared.limits.TheConstants.{MAX_STEPS_TO_CLAIM, MAX_STRETCH_PIECES}
use Rattle.san_book.specs.Chains.{Chain, chain_of}
use Rattle.san_book.specs.Cores.{Claim, Commit, Core, Cut, Late, Pending, Publish, Read, Redo, Step, claim_of}
use Rattle.san_book.specs.Journals.{commits, counted, is_claim, is_late, is_redo}

-- how many pieces stand in all chains
abbrev pub pieces_in : {P : Type 0} → List (Chain P) → ℕ
pieces_in [] = 0
pieces_in (c ∷ cs) = length c + pieces_in cs

-- something of each claim, summed up
abbrev pub claim_by : (Pending → ℕ) → Option Pending → ℕ
claim_by f None = 0
claim_by f (Some p) = f p

-- over all workers
abbrev pub claims_by : (Pending → ℕ) → List (Option Pending) → ℕ
claims_by f [] = 0
claims_by f (o ∷ os) = claim_by f o + claims_by f os

-- how many claims are held
abbrev pub claims_in : List (Option Pending) → ℕ
claims_in claims = claims_by (λ p. 1) claims

-- how many steps a claim may still come to: a read of each place that a leaf may have, and two more
abbrev pub steps_of : Pending → ℕ
steps_of p = MAX_CELLS + 2 - length p.log

-- the most that stands in the chains and is claimed
abbrev pub room_of : {H P : Type 0} → Limits → Core H P → ℕ
room_of limits c = length c.chains * limits.window + length c.claims

-- no leaf is claimed twice, a claimed leaf's chain has room, no chain is longer than the window; and the rollbacks, with those that what is made and claimed may still come to, are within the limit and that room
pub record IsBounded {H P : Type 0} (limits : Limits) (c : Core H P) : Type 0 where
  pub single : (v w : ℕ) (p r : Pending) → claim_of c.claims v ≡ Some p → claim_of c.claims w ≡ Some r → p.leaf ≡ r.leaf → v ≡ w
  pub room : (w : ℕ) (p : Pending) → claim_of c.claims w ≡ Some p → length (chain_of c.chains p.leaf) < limits.window
  pub short : (j : ℕ) → length (chain_of c.chains j) ≤ limits.window
  pub rollbacks : c.rollbacks + (pieces_in c.chains + claims_in c.claims) ≤ limits.rollbacks + room_of limits c

-- the pieces that were taken are those that the journal's steps say; a claim comes to one piece at most, or is late
pub record IsCounted {H P : Type 0} (c : Core H P) : Type 0 where
  pub taken : c.taken ≡ counted commits c.journal + counted is_redo c.journal
  pub claims : counted is_late c.journal + (counted commits c.journal + (pieces_in c.chains + claims_in c.claims)) ≤ counted is_claim c.journal

-- the pieces that were taken are within a stretch, a pending log has no more entries than a leaf has places, and the journal's steps, with those that what is made and claimed may still come to, are within the limit, that room and the pieces
pub record IsBrief {H P : Type 0} (limits : Limits) (c : Core H P) : Type 0 where
  pub stretch : c.taken ≤ MAX_STRETCH_PIECES
  pub logs : (w : ℕ) (p : Pending) → claim_of c.claims w ≡ Some p → length p.log ≤ MAX_CELLS
  pub journal : length c.journal + (pieces_in c.chains + claims_by steps_of c.claims) ≤ MAX_STEPS_TO_CLAIM + ((length c.chains * limits.window + (MAX_CELLS + 2) * length c.claims) + c.taken)

-- a read is of a place that wasn't read before, and there are fewer than a leaf has places
abbrev pub ReadFits : List (Option Pending) → Step → Type 0
ReadFits claims (Claim w) = Unit {0}
ReadFits claims (Read w place v) = (p : Pending) → claim_of claims w ≡ Some p → (find place.0 p.log ≡ None) × (length p.log < MAX_CELLS)
ReadFits claims (Publish w kind time) = Unit {0}
ReadFits claims (Late w) = Unit {0}
ReadFits claims (Cut w j) = Unit {0}
ReadFits claims (Commit w n) = Unit {0}
ReadFits claims (Redo w) = Unit {0}
