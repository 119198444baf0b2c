-- How much is left for a core to take.
use Rattle.std.specs.Prelude.{ℕ, suc, ◌+◌, ◌-◌, ◌*◌, ◌<◌, ◌≡◌, ◌≢◌, List, [], ◌∷◌, length, Option, Some, None, Bool, true, false}
use Rattle.san_law.specs.Net.{Net}
use Rattle.san_law.specs.State.{State}
use Rattle.san_law.specs.Step.{Ending, Event}
use Rattle.san_law.specs.Order.{Finished, Order, need_of}
use Rattle.san_law.specs.Core.{Core, advance}
use Rattle.san_law.specs.Standing.{Stands}

-- one more where it is set
abbrev pub add_true : Bool → ℕ → ℕ
add_true true n = suc n
add_true false n = n

-- how many are set
abbrev pub count_true : List Bool → ℕ
count_true [] = 0
count_true (b ∷ bs) = add_true b (count_true bs)

-- a going leaf counts as much as an unsettled one
abbrev pub left_going : Option ℕ → ℕ
left_going None = 0
left_going (Some j) = 2

-- how many pieces the flags ask for, at most
abbrev pub left_flags : Order → ℕ
left_flags o = left_going o.going + (2 * count_true o.unsettled + count_true o.stale)

-- a stopped core has nothing left
abbrev pub left_by : Net → Core → Option Ending → ℕ
left_by net c (Some e) = 0
left_by net c None = (net.limit - c.count) * (3 * length net.parts + 3) + left_flags c.order + 1

-- the events that the limit leaves weigh more than all flags together
abbrev pub left : Net → Core → ℕ
left net c = left_by net c c.stop

-- each needed piece leaves less
abbrev pub PieceLeavesLess : Net → Type 0
PieceLeavesLess net = (opening : State) (past : List Event) (c : Core) (s : State) → Stands net opening past c s → c.stop ≡ None → need_of net.horizon c.order ≢ Finished → left net (advance net c) < left net c
