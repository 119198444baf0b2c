-- The cells that are looked at decide the completions of a piece.
use Rattle.std.proofs.Common.{ℕ, zero, suc, nat_eq, Bool, true, false, Result, Ok, Err, List, [], ◌∷◌, Option, Some, None}
use Rattle.std.specs.Prelude.{slice_get, slice_index}
use Rattle.san_base.specs.declared.ending.Trap.{Trap}
use Rattle.san_base.specs.declared.ending.Trap.TheVariants.{Arith}
use Rattle.san_base.specs.Rated.{rated_by}
use Rattle.san_expr.specs.Meaning.{Meaning, settled}
use Rattle.san_expr.specs.Value.{value_of}
use Rattle.san_law.specs.Activity.{case_stream}
use Rattle.san_law.specs.Block.{FailsDone, FailsTest, More, Rests}
use Rattle.san_law.specs.Net.{Impulse}
use Rattle.san_net.specs.First.{attempt, first_of}
use Rattle.san_net.specs.Instants.{Named}
use Rattle.san_net.specs.Leaf.{leaf_of}
use Rattle.san_net.specs.declared.atomic.ImpulseTerm.{ImpulseTerm}
use Rattle.san_net.specs.declared.first.FirstInstant.{FirstInstant}
use Rattle.san_net.specs.declared.first.FirstInstant.TheVariants as instant
use Rattle.san_net.specs.declared.part.Part.{Part}
use Rattle.san_leaf.specs.Blocks.{Made, after_done, after_found, after_impulses, and_impulses, block_of, completed_by, counted, done_of, impulse_of, impulses_by, impulses_of, made_before, made_of, none_made, picked_of, turn_of}
use Rattle.san_decide.specs.Decided.{Decides}
use Rattle.san_decide.proofs.Composing.{decides_attempt, decides_back, decides_settled, decides_then}
use Rattle.san_decide.proofs.Evaluations.{value_decides}
use Rattle.san_decide.proofs.Activities.{completion_decides, first_decides}

impulse_decides : (t : ImpulseTerm) → Decides (impulse_of t)
impulse_decides t = decides_then (attempt (value_of t.expr)) (λ r. settled (Ok (record { reward = t.reward; rated = rated_by r }))) (decides_attempt (value_of t.expr) (value_decides t.expr)) (λ r. decides_settled _)

impulses_decide : (k : ℕ) (terms : List ImpulseTerm) → Decides (impulses_of k terms)
impulses_decide k [] = decides_settled {T = List Impulse} (Ok [])
impulses_decide k (t ∷ terms) = by_act (nat_eq t.act k) (impulses_decide k terms)
  where
    by_act : (b : Bool) → Decides (impulses_of k terms) → Decides (impulses_by b t (impulses_of k terms))
    by_act true rest =
        decides_then (impulse_of t) (and_impulses (impulses_of k terms)) (impulse_decides t)
        (λ x. decides_then (impulses_of k terms) (λ xs. settled (Ok (x ∷ xs))) rest (λ xs. decides_settled (Ok (x ∷ xs))))
    by_act false rest = rest

completed_decides : (u : ℕ) (o : Option Named) → Decides (completed_by u o)
completed_decides u None = decides_settled (Err Arith)
completed_decides u (Some a) = completion_decides u a.1

module _ (draw : ℕ → ℕ → ℕ) (p : Part) where
  -- a completion, and what follows it
  module _ (go : List ℕ → Meaning Made) (on : (cases : List ℕ) → Decides (go cases)) where
    after_impulses_decides : (cases : List ℕ) (k case : ℕ) (xs : List Impulse) → Decides (after_impulses go cases k case xs)
    after_impulses_decides cases k case xs =
        decides_then (go (counted cases k)) (λ made. settled (Ok (made_before (record { act = k; case = case; impulses = xs }) made))) (on (counted cases k)) (λ made. decides_settled _)

    after_done_decides : (cases : List ℕ) (k : ℕ) (r : Result ℕ Trap) → Decides (after_done go p cases k r)
    after_done_decides cases k (Err trap) = decides_settled (Ok (none_made cases (FailsDone k trap)))
    after_done_decides cases k (Ok case) = decides_then (impulses_of k p.atomic.impulses) (after_impulses go cases k case) (impulses_decide k p.atomic.impulses) (after_impulses_decides cases k case)

    done_decides : (k : ℕ) (cases : List ℕ) → Decides (done_of draw p k cases go)
    done_decides k cases =
        let u = draw (case_stream (leaf_of p) k) (slice_index cases k) in
        let o = slice_get p.atomic.acts k in
        decides_then (picked_of draw p k cases) (after_done go p cases k) (decides_back (completed_by u o) (completed_decides u o)) (after_done_decides cases k)

    found_decides : (cases : List ℕ) (f : FirstInstant) → Decides (after_found go draw p cases f)
    found_decides cases instant.None = decides_settled (Ok (none_made cases Rests))
    found_decides cases (instant.Trapped k trap) = decides_settled (Ok (none_made cases (FailsTest k trap)))
    found_decides cases (instant.Enabled k) = done_decides k cases

    turn_decides : (cases : List ℕ) → Decides (turn_of draw p cases go)
    turn_decides cases = decides_then (first_of p.atomic) (after_found go draw p cases) (first_decides p.atomic) (found_decides cases)

  block_decides : (n : ℕ) (cases : List ℕ) → Decides (block_of draw p n cases)
  block_decides zero cases = decides_settled (Ok (none_made cases More))
  block_decides (suc n) cases = turn_decides (block_of draw p n) (block_decides n) cases

  made_by : (fired : Option ℕ) (cases : List ℕ) → Decides (made_of draw p fired cases)
  made_by None cases = block_decides 64 cases
  made_by (Some k) cases = done_decides (block_of draw p 63) (block_decides 63) k cases

pub made_decides : (draw : ℕ → ℕ → ℕ) (p : Part) (fired : Option ℕ) (cases : List ℕ) → Decides (made_of draw p fired cases)
made_decides draw p fired cases = made_by draw p fired cases
