-- A leaf that counts its completions at 3, 6 and 9, counted by a tally.
use Rattle.std.specs.Prelude.{ℕ, pos, Some}
use Rattle.san_law.specs.Net.{Rated}
use Rattle.san_law.specs.Reward.{Worth}
use Rattle.san_law.specs.Tally.{tally_worth}
use Rattle.san_net.specs.Examples.{counting}
use Rattle.san_reward.specs.Running.{Running, advanced, net_in, opened, with_impulse, with_rate}

-- three rewards of a count and 5 at each completion: over 0 10, the mean over 0 10, and the count alone at 6
abbrev pub counting_to : ℕ → Running
counting_to horizon = opened counting horizon

-- the first reward's rate, and those of the others
abbrev pub with_rates : Running → Rated → Rated → Running
with_rates t first others = with_rate (with_rate (with_rate t 0 0 first) 0 1 others) 0 2 others

-- a completion at a time: two impulses, and then the rates
abbrev pub completed_at : ℕ → Rated → Rated → Running → Running
completed_at time first others t = with_rates (with_impulse (with_impulse (advanced t time) 0 (Some (pos 5))) 1 (Some (pos 5))) first others

abbrev pub two_ticks : Running → Running
two_ticks t = completed_at 6 (Some (pos 2)) (Some (pos 2)) (completed_at 3 (Some (pos 1)) (Some (pos 1)) t)

abbrev pub three_ticks : Running → Running
three_ticks t = completed_at 9 (Some (pos 3)) (Some (pos 3)) (two_ticks t)

abbrev pub worth_at : Running → ℕ → Worth
worth_at t r = tally_worth (net_in t) t.tally t.time r
