use Rattle.std.proofs.Common.{ℕ, List, ◌≡◌}
use Rattle.san_law.specs.State.{State}
use Rattle.san_law.specs.Step as law
use Rattle.san_probe.specs.inner.Progress.{ProbeStands}
use Rattle.san_seq.specs.FlatRun.{steps_left}
use Rattle.san_passage.specs.Passages.{passage_from, passage_of}
use Rattle.san_passage.proofs.passage.first_passage.Given as goal

abbrev pub invariant-steps : goal.invariant-steps
invariant-steps g l =
    ((es : List law.Event) × (s : State) × (now : ℕ) × ProbeStands l.flat l.seed l.fn.limits es s l.seq now)
    × (passage_from (g.M.Condition.holds l.until.0) l.seq ≡ passage_of l.flat l.seed l.fn.limits (g.M.Condition.holds l.until.0))

abbrev pub decreases-steps : goal.decreases-steps
decreases-steps g l = steps_left l.seq
