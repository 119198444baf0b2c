-- A network: leaves that lie over one marking, and what each leaf does on its own values and numbers.
use Rattle.std.specs.Prelude.{ℕ, ℤ, suc, Bool, true, false, List, [], ◌∷◌, Option, Some, None, Result, nat_lt, if◌then◌else◌, slice_set}
use Rattle.san_base.specs.declared.ending.Trap.{Trap}

-- the value of a reward's term as it is counted: a number, or none where it traps or is out of its bounds
abbrev pub Rated : Type 0
Rated = Option ℤ

-- the value of an impulse term, and the number of its reward
pub record Impulse : Type 0 where
  pub reward : ℕ
  pub rated : Rated

-- what stands first among a leaf's instantaneous activities: nothing, one that is enabled, or one that traps
pub data Found : Type 0 where
  Nothing : Found
  Enabled : (act : ℕ) → Found
  Broken : (act : ℕ) (trap : Trap) → Found

-- when it is due, and whether the activation predicate held
pub record Timer : Type 0 where
  pub due : ℕ
  pub held : Bool

-- a leaf's timers and the numbers of the draws that it took, by activity
pub record Row : Type 0 where
  pub timers : List (Option Timer)
  pub delays : List ℕ
  pub cases : List ℕ

-- a leaf's values, one for each of its places, and its row
pub record Local : Type 0 where
  pub values : List ℕ
  pub row : Row

-- what a completion leaves, which of the leaf's places it assigned, its case, and the impulses in the marking that it reached
pub record Done : Type 0 where
  pub left : Local
  pub sets : ℕ → Bool
  pub case : ℕ
  pub impulses : List Impulse

-- a renewed row, or the first activity that traps
pub data Renewing : Type 0 where
  Fresh : (row : Row) → Renewing
  Faulty : (act : ℕ) (trap : Trap) → Renewing

-- a leaf's place in the network
pub data Slot : Type 0 where
  Private : (place : ℕ) → Slot
  Shared : (place : ℕ) → Slot

-- a reward's interval, from its first tick to before its last, and whether its mean is asked for
pub record Span : Type 0 where
  pub from : ℕ
  pub to : ℕ
  pub mean : Bool

-- the leaves in order: where their places lie, how many activities they have and what these do; the rewards; the limits
pub record Net : Type 0 where
  pub parts : List (List Slot)
  pub acts : ℕ → ℕ
  -- shared places are the first so many of the marking
  pub shared : ℕ
  pub initial : List ℕ
  -- a leaf's first instantaneous activity in its values
  pub first : ℕ → List ℕ → Found
  -- a completion of a leaf's activity with its next case draw
  pub done : ℕ → ℕ → Local → Result Done Trap
  -- the renewal of a leaf's timers at a time, with the values that were last seen
  pub renewed : ℕ → ℕ → List ℕ → Local → Renewing
  -- whether a leaf has an activity with a pair
  pub paired : ℕ → Bool
  -- a leaf's rate terms in its values, and the rewards that they are of
  pub rates : ℕ → List ℕ → List Rated
  pub terms : ℕ → List ℕ
  pub spans : List Span
  pub horizon : ℕ
  pub burst : ℕ
  pub limit : ℕ

-- the row of a leaf that is not there
abbrev pub no_row : Row
no_row = record { timers = []; delays = []; cases = [] }

-- no activity has a timer
abbrev pub no_timers : List (Option Timer) → Bool
no_timers [] = true
no_timers (None ∷ ts) = no_timers ts
no_timers (Some t ∷ ts) = false

-- a row without timers
unfoldable pub is_bare : Row → Bool
is_bare r = no_timers r.timers

-- the least timer, for equal times the first activity's: when it is due, and the activity
abbrev pub sooner_act : ℕ × ℕ → Option (ℕ × ℕ) → Option (ℕ × ℕ)
sooner_act d None = Some d
sooner_act d (Some e) = if nat_lt e.0 d.0 then Some e else Some d

-- an activity without a timer is passed over
abbrev pub and_timer : ℕ → Option Timer → Option (ℕ × ℕ) → Option (ℕ × ℕ)
and_timer k None rest = rest
and_timer k (Some t) rest = sooner_act (t.due, k) rest

-- the activities in order, from a number on
abbrev pub least_timer_from : ℕ → List (Option Timer) → Option (ℕ × ℕ)
least_timer_from k [] = None
least_timer_from k (t ∷ ts) = and_timer k t (least_timer_from (suc k) ts)

-- the least timer of a row
unfoldable pub least_timer : Row → Option (ℕ × ℕ)
least_timer r = least_timer_from 0 r.timers

-- a row without an activity's timer
unfoldable pub without_timer : Row → ℕ → Row
without_timer r k = record { timers = slice_set r.timers k None; delays = r.delays; cases = r.cases }
