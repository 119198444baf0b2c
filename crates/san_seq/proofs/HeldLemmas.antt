-- What is held of a run between its steps.
use Rattle.std.proofs.Common.{ℕ, ◌≡◌, subst, Option, None}
use Rattle.san_base.specs.declared.ending.Ending.{Ending}
use Rattle.san_base.specs.declared.limits.Limits.{Limits}
use Rattle.san_law.specs.State.{State}
use Rattle.san_net.specs.Network.{Network}
use Rattle.san_seq.specs.FlatRun.{run_phase_of}
use Rattle.san_seq.specs.declared.stale.Stale.{Stale}
use Rattle.san_seq.specs.inner.Held.{IsRun, IsRunPhase}
use Rattle.san_seq.specs.inner.Known.{AreIdle}
use Rattle.san_seq.specs.inner.Running.{IsRunning}
use Rattle.san_seq.specs.inner.Wakes.{Woken}

-- what holds of a run that isn't over
pub goes_on : (n : Network) (limits : Limits) (streams : ℕ) (w : Woken) (stale : Stale) (s : State) (o : Option Ending) → IsRun n limits streams w stale (run_phase_of s o) → o ≡ None
    → IsRunning n limits s × AreIdle n w stale s
goes_on n limits streams w stale s o run none = subst (λ (x : Option Ending). IsRunPhase n limits w stale (run_phase_of s x)) none run.run_phase
