-- A run of a network in the network's numbers: its limits, its net, its events and its ending.
use Rattle.std.specs.Prelude.{ℕ}
use Rattle.san_base.specs.declared.ending.Ending.{Ending}
use Rattle.san_base.specs.declared.ending.Ending.TheVariants as ending
use Rattle.san_base.specs.declared.ending.Event.{Event}
use Rattle.san_base.specs.declared.ending.Stop.TheVariants as stop
use Rattle.san_base.specs.declared.limits.Limits.{Limits}
use Rattle.san_draw.specs.Key.{draw_of}
use Rattle.san_law.specs.Net.{Net}
use Rattle.san_law.specs.Network as network
use Rattle.san_law.specs.Step as law
use Rattle.san_net.specs.Network.{Network, net_of}
use Rattle.san_net.specs.Tables.{act_of}

-- the limits of a run, as the law has them
abbrev pub limits_in : Limits → network.Limits
limits_in l = record { horizon = l.horizon.0; burst = l.burst; events = l.events }

-- the net of a network, a seed and limits
abbrev pub net_at : Network → ℕ → Limits → Net
net_at n seed limits = net_of n (draw_of seed) (limits_in limits)

abbrev pub event_in : Network → law.Event → Event
event_in n e = record { time = record { 0 = e.time }; act = act_of n e.leaf e.act; case = e.case }

abbrev pub ending_in : Network → ℕ → law.Ending → Ending
ending_in n time law.End = ending.End (record { 0 = time })
ending_in n time law.Unstable = ending.Stop (stop.Unstable (record { 0 = time }))
ending_in n time law.Events = ending.Stop (stop.Events (record { 0 = time }))
ending_in n time (law.Trapped j k trap) = ending.Stop (stop.Trap trap (record { 0 = time }) (act_of n j k))
