use Rattle.std.proofs.Common.{ℕ, ◌*◌, ◌^◌, ◌≤◌, ◌≡◌, unsigned_abs}
use Rattle.san_probe.specs.inner.Progress.{Watches}
use Rattle.san_probe.specs.inner.Progress.{ticks_before}
use Rattle.san_seq.specs.FlatRun.{steps_left}
use Rattle.san_probe.proofs.measured.watch.Given as goal

abbrev pub invariant-steps : goal.invariant-steps
invariant-steps g l =
    (now : ℕ) × (l.progress.counted ≡ ticks_before l.from.0 l.to.0 now) × (unsigned_abs l.progress.sum ≤ l.progress.counted * 2 ^ 63)
    × Watches l.flat l.seed l.limits (g.M.Measure.value l.gauge.0) l.from.0 l.to.0 l.seq l.progress.sum now l.progress.value

abbrev pub decreases-steps : goal.decreases-steps
decreases-steps g l = steps_left l.seq
