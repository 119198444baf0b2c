use Rattle.std.proofs.Common.{◌++◌, ◌≤◌, List, ℕ, Option, drop}
use Rattle.san_report.specs.Closings.{worths_by}
use Rattle.san_report.specs.Pages.{Sent}
use Rattle.san_report.specs.Lines.{reward_lines}
use Rattle.san_report.proofs.last_lines.put_rewards.Given as goal

abbrev pub invariant-rewards : goal.invariant-rewards
invariant-rewards g l = record {
  sent : (whole rest : List ℕ) (first : Option (List ℕ)) → Sent first (g.K.Sink.held l.fn.sink) l.fn.pages whole (reward_lines l.flat.rewards 0 (worths_by l.tally l.ending) ++ rest)
      → Sent first (g.K.Sink.held l.sink) l.pages whole (reward_lines (drop l.at l.flat.rewards) l.at (worths_by l.tally l.ending) ++ rest);
  later : g.K.Sink.faults l.fn.sink ≤ g.K.Sink.faults l.sink;
}
