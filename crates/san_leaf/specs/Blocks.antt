-- What a block of a leaf's completions means on the leaf's values: its completions, with the places that they look at and assign.
use Rattle.std.specs.Prelude.{ℕ, zero, suc, ◌+◌, nat_eq, List, [], ◌∷◌, Bool, true, false, Option, Some, None, Result, Ok, Err, slice_get, slice_index, slice_set}
use Rattle.san_base.specs.declared.ending.Trap.{Trap}
use Rattle.san_base.specs.declared.ending.Trap.TheVariants.{Arith}
use Rattle.san_base.specs.Rated.{rated_by}
use Rattle.san_expr.specs.Meaning.{Meaning, Evaluation, no_cell, settled, then_do}
use Rattle.san_expr.specs.Value.{value_of}
use Rattle.san_law.specs.Activity.{case_stream}
use Rattle.san_law.specs.Block.{Close, Completion, FailsDone, FailsTest, More, Rests}
use Rattle.san_law.specs.Net.{Impulse}
use Rattle.san_net.specs.Completion.{completion_of}
use Rattle.san_net.specs.First.{attempt, first_of}
use Rattle.san_net.specs.Instants.{Named}
use Rattle.san_net.specs.Leaf.{leaf_of}
use Rattle.san_net.specs.declared.atomic.ImpulseTerm.{ImpulseTerm}
use Rattle.san_net.specs.declared.first.FirstInstant.{FirstInstant}
use Rattle.san_net.specs.declared.part.Part.{Part}
use Rattle.san_net.specs.declared.first.FirstInstant.TheVariants as instant

-- a trap that takes its assignments back
abbrev pub back_by : {T : Type 0} → List ℕ → Evaluation T → Result T Trap → Evaluation (Result T Trap)
back_by m o (Ok x) = record { answer = Ok (Ok x); left = o.left; looks = o.looks; sets = o.sets }
back_by m o (Err t) = record { answer = Ok (Err t); left = m; looks = o.looks; sets = no_cell }

abbrev pub or_back : {T : Type 0} → Meaning T → Meaning (Result T Trap)
or_back a m = back_by m (a m) (a m).answer

-- a term's impulse
abbrev pub impulse_of : ImpulseTerm → Meaning Impulse
impulse_of t = then_do (attempt (value_of t.expr)) (λ r. settled (Ok (record { reward = t.reward; rated = rated_by r })))

-- one before others
abbrev pub and_impulses : Meaning (List Impulse) → Impulse → Meaning (List Impulse)
and_impulses rest x = then_do rest (λ xs. settled (Ok (x ∷ xs)))

-- a term of another activity is passed over
abbrev pub impulses_by : Bool → ImpulseTerm → Meaning (List Impulse) → Meaning (List Impulse)
impulses_by true t rest = then_do (impulse_of t) (and_impulses rest)
impulses_by false t rest = rest

-- the impulse terms of an activity, in the atomic's order
abbrev pub impulses_of : ℕ → List ImpulseTerm → Meaning (List Impulse)
impulses_of k [] = settled (Ok [])
impulses_of k (t ∷ terms) = impulses_by (nat_eq t.act k) t (impulses_of k terms)

-- completions, the numbers of the case draws after them, and how the block ends
pub record Made : Type 0 where
  pub completions : List Completion
  pub cases : List ℕ
  pub close : Close

abbrev pub none_made : List ℕ → Close → Made
none_made cases close = record { completions = []; cases = cases; close = close }

abbrev pub made_before : Completion → Made → Made
made_before c made = record { completions = c ∷ made.completions; cases = made.cases; close = made.close }

-- an activity that isn't there traps
abbrev pub completed_by : ℕ → Option Named → Meaning ℕ
completed_by u None = settled (Err Arith)
completed_by u (Some a) = completion_of u a.1

-- one case draw more
abbrev pub counted : List ℕ → ℕ → List ℕ
counted cases k = slice_set cases k (slice_index cases k + 1)

-- a completion, its impulses, and then a block
abbrev pub after_impulses : (List ℕ → Meaning Made) → List ℕ → ℕ → ℕ → List Impulse → Meaning Made
after_impulses go cases k case xs = then_do (go (counted cases k)) (λ made. settled (Ok (made_before (record { act = k; case = case; impulses = xs }) made)))

abbrev pub after_done : (List ℕ → Meaning Made) → Part → List ℕ → ℕ → Result ℕ Trap → Meaning Made
after_done go p cases k (Err trap) = settled (Ok (none_made cases (FailsDone k trap)))
after_done go p cases k (Ok case) = then_do (impulses_of k p.atomic.impulses) (after_impulses go cases k case)

-- an activity's completion with its next case draw
abbrev pub picked_of : (ℕ → ℕ → ℕ) → Part → ℕ → List ℕ → Meaning (Result ℕ Trap)
picked_of draw p k cases = or_back (completed_by (draw (case_stream (leaf_of p) k) (slice_index cases k)) (slice_get p.atomic.acts k))

-- such a completion, and what follows it
abbrev pub done_of : (ℕ → ℕ → ℕ) → Part → ℕ → List ℕ → (List ℕ → Meaning Made) → Meaning Made
done_of draw p k cases go = then_do (picked_of draw p k cases) (after_done go p cases k)

abbrev pub after_found : (List ℕ → Meaning Made) → (ℕ → ℕ → ℕ) → Part → List ℕ → FirstInstant → Meaning Made
after_found go draw p cases instant.None = settled (Ok (none_made cases Rests))
after_found go draw p cases (instant.Trapped k trap) = settled (Ok (none_made cases (FailsTest k trap)))
after_found go draw p cases (instant.Enabled k) = done_of draw p k cases go

-- what stands first among the instantaneous activities, and what follows it
abbrev pub turn_of : (ℕ → ℕ → ℕ) → Part → List ℕ → (List ℕ → Meaning Made) → Meaning Made
turn_of draw p cases go = then_do (first_of p.atomic) (after_found go draw p cases)

-- at most so many completions, with the case draws numbered so
abbrev pub block_of : (ℕ → ℕ → ℕ) → Part → ℕ → List ℕ → Meaning Made
block_of draw p zero cases = settled (Ok (none_made cases More))
block_of draw p (suc n) cases = turn_of draw p cases (block_of draw p n)

-- a timed activity's completion, and then at most 63 more
abbrev pub fired_of : (ℕ → ℕ → ℕ) → Part → ℕ → List ℕ → Meaning Made
fired_of draw p k cases = done_of draw p k cases (block_of draw p 63)

-- the completions of a piece: an activity that fires goes first
abbrev pub made_of : (ℕ → ℕ → ℕ) → Part → Option ℕ → List ℕ → Meaning Made
made_of draw p None cases = block_of draw p 64 cases
made_of draw p (Some k) cases = fired_of draw p k cases
