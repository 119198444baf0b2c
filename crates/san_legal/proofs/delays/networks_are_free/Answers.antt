-- A network's draws are free, and what follows.
use Rattle.san_legal.proofs.NetworkLemmas.{networks_are_free, networks_events, networks_kept, networks_runs}
use Rattle.san_legal.proofs.delays.networks_are_free.Goals as goal

pub returns-clause-free : goal.returns-clause-free
returns-clause-free c = networks_are_free

pub returns-clause-kept : goal.returns-clause-kept
returns-clause-kept c = networks_kept

pub returns-clause-events : goal.returns-clause-events
returns-clause-events c = networks_events

pub returns-clause-runs : goal.returns-clause-runs
returns-clause-runs c = networks_runs
