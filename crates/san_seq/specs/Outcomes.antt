-- What is answered of a run: its events and its ending, in the network's numbers.
use Rattle.std.specs.Prelude.{map, Result, Ok, Err}
use Rattle.san_base.specs.declared.ending.Ending.{Ending}
use Rattle.san_base.specs.declared.ending.Ending.TheVariants as ending
use Rattle.san_base.specs.declared.ending.Event.{Event}
use Rattle.san_law.specs.Step as law
use Rattle.san_law.specs.Trajectory as whole
use Rattle.san_net.specs.Network.{Network}
use Rattle.san_net.specs.Runs.{ending_in, event_in}
use Rattle.san_seq.specs.declared.steps.Stepped.{Stepped}
use Rattle.san_seq.specs.declared.steps.Stepped.TheVariants as stepped
use Rattle.san_seq.specs.declared.steps.Trajectory.{Trajectory}

-- an event, or the ending
abbrev pub event_or_ending : Network → law.Stepped → Result Event Ending
event_or_ending n (law.Happened e) = Ok (event_in n e)
event_or_ending n (law.Over time e) = Err (ending_in n time e)

abbrev pub stop_of : Ending → Stepped
stop_of (ending.End horizon) = stepped.End
stop_of (ending.Stop stop) = stepped.Stopped stop

abbrev pub stepped_of : Result Event Ending → Stepped
stepped_of (Ok event) = stepped.Event event
stepped_of (Err e) = stop_of e

abbrev pub trajectory_in : Network → whole.Trajectory → Trajectory
trajectory_in n t = record { events = map (event_in n) t.events; ending = ending_in n t.time t.ending }
