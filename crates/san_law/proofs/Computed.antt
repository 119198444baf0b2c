-- Runs, rewards and pieces of small networks, by computation.
use Rattle.std.proofs.Common.{◌≡◌, refl, [], ◌∷◌, Some}
use Rattle.std.specs.Prelude.{pos}
use Rattle.san_base.specs.declared.ending.Trap.TheVariants as trap
use Rattle.san_law.specs.Net.{least_timer, without_timer}
use Rattle.san_law.specs.State.{scatter}
use Rattle.san_law.specs.Next.{next_instant}
use Rattle.san_law.specs.Step.{End, Events, Trapped, Unstable, step}
use Rattle.san_law.specs.Piece.{Fire, piece_of}
use Rattle.san_law.specs.Order.{need_of}
use Rattle.san_law.specs.Reward.{Beyond, Mean, Sum}
use Rattle.san_law.specs.Examples.{about_to_divide, by_priority, counting, drained, event_at, failed_division, flipping, hurrying, job_and_tick, low_and_high, net_with, overflowing, pieces_of, ran, run_of, set_and_divide, spinning, tick_at, toss_at, tossed, worth_of}

pub last_leaf_first : run_of (net_with low_and_high 5 1000 20) ≡ ran (event_at 2 1 0 ∷ event_at 2 1 1 ∷ event_at 2 0 0 ∷ []) 5 End
unfolding step next_instant scatter least_timer without_timer
last_leaf_first = refl

pub burst_just_fits : run_of (net_with (drained 3) 4 3 20) ≡ ran (event_at 0 0 0 ∷ event_at 0 0 0 ∷ event_at 0 0 0 ∷ []) 4 End
unfolding step next_instant scatter least_timer without_timer
burst_just_fits = refl

pub burst_stops : run_of (net_with spinning 4 3 20) ≡ ran (event_at 0 0 0 ∷ event_at 0 0 0 ∷ event_at 0 0 0 ∷ []) 0 Unstable
unfolding step next_instant scatter least_timer without_timer
burst_stops = refl

pub reactivated_by_own_leaf : run_of (net_with job_and_tick 8 1000 20) ≡ ran (event_at 2 1 0 ∷ event_at 3 0 1 ∷ event_at 4 1 0 ∷ event_at 6 1 0 ∷ event_at 8 0 0 ∷ event_at 8 1 0 ∷ []) 8 End
unfolding step next_instant scatter least_timer without_timer
reactivated_by_own_leaf = refl

pub read_in_time : run_of (net_with set_and_divide 10 1000 20) ≡ ran (event_at 2 0 0 ∷ event_at 3 1 0 ∷ []) 10 End
unfolding step next_instant scatter least_timer without_timer
read_in_time = refl

pub event_limit_stops : run_of (net_with counting 10 1000 2) ≡ ran (tick_at 3 ∷ tick_at 6 ∷ []) 9 Events
unfolding step next_instant scatter least_timer without_timer
event_limit_stops = refl

pub sum_and_impulses : let net = net_with counting 10 1000 20 in worth_of net 0 (run_of net) ≡ Some (Sum (pos 27))
unfolding step next_instant scatter least_timer without_timer
sum_and_impulses = refl

pub mean_of_ten : let net = net_with counting 10 1000 20 in worth_of net 1 (run_of net) ≡ Some (Mean (pos 27) 10)
unfolding step next_instant scatter least_timer without_timer
mean_of_ten = refl

pub one_tick : let net = net_with counting 10 1000 20 in worth_of net 2 (run_of net) ≡ Some (Sum (pos 2))
unfolding step next_instant scatter least_timer without_timer
one_tick = refl

pub beyond_the_horizon : let net = net_with counting 8 1000 20 in worth_of net 0 (run_of net) ≡ Some Beyond
unfolding step next_instant scatter least_timer without_timer
beyond_the_horizon = refl

pub within_the_horizon : let net = net_with counting 8 1000 20 in worth_of net 2 (run_of net) ≡ Some (Sum (pos 2))
unfolding step next_instant scatter least_timer without_timer
within_the_horizon = refl

pub early_read_traps : piece_of (net_with set_and_divide 10 1000 20) 1 (Fire 0) 3 about_to_divide (0 ∷ []) ≡ failed_division
unfolding least_timer without_timer need_of
early_read_traps = refl

pub below_a_piece : pieces_of (net_with (drained 63) 4 1000 100) ≡ 2
unfolding least_timer without_timer need_of
below_a_piece = refl

pub just_a_piece : pieces_of (net_with (drained 64) 4 1000 100) ≡ 3
unfolding least_timer without_timer need_of
just_a_piece = refl

pub above_a_piece : pieces_of (net_with (drained 65) 4 1000 100) ≡ 3
unfolding least_timer without_timer need_of
above_a_piece = refl

pub three_ticks : pieces_of (net_with counting 10 1000 20) ≡ 8
unfolding least_timer without_timer need_of
three_ticks = refl

pub aborted_and_activated_anew : run_of (net_with flipping 9 1000 20) ≡ ran (event_at 2 0 0 ∷ event_at 4 0 0 ∷ event_at 9 0 1 ∷ []) 9 End
unfolding step next_instant scatter least_timer without_timer
aborted_and_activated_anew = refl

pub greater_priority_first : run_of (net_with by_priority 1 1000 20) ≡ ran (event_at 0 0 1 ∷ event_at 0 0 1 ∷ []) 1 End
unfolding step next_instant scatter least_timer without_timer
greater_priority_first = refl

pub completion_traps : run_of (net_with overflowing 5 1000 20) ≡ ran [] 1 (Trapped 0 0 trap.Marking)
unfolding step next_instant scatter least_timer without_timer
completion_traps = refl

pub renewal_traps : run_of (net_with hurrying 9 1000 20) ≡ ran (event_at 2 0 0 ∷ event_at 3 0 0 ∷ []) 3 (Trapped 0 0 trap.Delay)
unfolding step next_instant scatter least_timer without_timer
renewal_traps = refl

pub next_draws : run_of tossed ≡ ran (toss_at 20 30 ∷ toss_at 41 31 ∷ toss_at 63 32 ∷ []) 70 End
unfolding step next_instant scatter least_timer without_timer
next_draws = refl
