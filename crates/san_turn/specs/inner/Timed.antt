-- The leaves' least timers, kept as keys and activities.
use Rattle.std.specs.Prelude.{ℕ, suc, ◌+◌, ◌-◌, ◌^◌, ◌≡◌, ◌<◌, List, [], ◌∷◌, length, Option, Some, None, slice_index, slice_set}
use Rattle.san_base.specs.declared.numbers.ActId.{ActId}
use Rattle.san_base.specs.declared.numbers.Tick.{Tick}
use Rattle.san_law.specs.Renewal as law
use Rattle.san_turn.specs.Changes.{local_due}
use Rattle.san_turn.specs.declared.timers.Due.{Due}

-- the leaves' least timers, activities by number in the leaf, and the numbers of the leaves' first activities
pub record TimersValue : Type 0 where
  pub dues : List (Option (ℕ × ℕ))
  pub firsts : List ℕ

-- a leaf's least timer from its key, its first activity, and the timer's activity
abbrev pub keyed : ℕ → ℕ → Option ℕ → Option (ℕ × ℕ)
keyed first act None = None
keyed first act (Some time) = Some (time, act - first)

-- leaf by leaf, from a number on
abbrev pub timed : List ℕ → List ℕ → ℕ → List (Option ℕ) → List (Option (ℕ × ℕ))
timed firsts acts i [] = []
timed firsts acts i (key ∷ keys) = keyed (slice_index firsts i) (slice_index acts i) key ∷ timed firsts acts (suc i) keys

-- a key, a first activity and an activity for each leaf
pub record AreTimers (keys : List (Option ℕ)) (firsts acts : List ℕ) : Type 0 where
  pub keyed_each : length keys ≡ length firsts
  pub timed_each : length acts ≡ length firsts
  pub few : length firsts < 2 ^ 32

-- the least timer, with its activity by the network's number
abbrev pub due_in : List ℕ → law.Due → Due
due_in firsts d = record { time = record { 0 = d.time }; leaf = record { 0 = d.leaf }; act = record { 0 = slice_index firsts d.leaf + d.act } }

-- with another least timer of a leaf
abbrev pub with_due : TimersValue → ℕ → Option (Tick × ActId) → TimersValue
with_due t j due = record { dues = slice_set t.dues j (local_due (slice_index t.firsts j) due); firsts = t.firsts }
