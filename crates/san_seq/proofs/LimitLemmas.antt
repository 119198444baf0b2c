-- A completion within both limits.
use Rattle.std.proofs.Common.{ℕ, ◌+◌, ◌≡◌, ◌∙◌, ap, sym, Option, None}
use Rattle.san_law.specs.Network.{Limits}
use Rattle.san_law.specs.State.{State}
use Rattle.san_law.specs.Step as law
use Rattle.san_net.specs.Network.{Network, net_of}
use Rattle.san_seq.specs.inner.States.{complete_in, instant_in}

-- where no limit stops it, the activity completes
pub instant_is : (n : Network) (draw : ℕ → ℕ → ℕ) (limits : Limits) (v s : State) (j k : ℕ) → v ≡ s
    → law.limit_by limits.burst limits.events v.burst v.count ≡ None
    → complete_in n draw limits s (v.burst + 1) j k ≡ instant_in n draw limits s j k
instant_is n draw limits v s j k e none =
    ap (λ (x : State). complete_in n draw limits s (x.burst + 1) j k) e
    ∙ ap (λ (x : Option law.Ending). law.unless_over s x (complete_in n draw limits s (s.burst + 1) j k))
    (sym none ∙ ap (λ (x : State). law.limit_by limits.burst limits.events x.burst x.count) e)

-- and so does one whose timer was due
pub timed_is : (n : Network) (draw : ℕ → ℕ → ℕ) (limits : Limits) (v s : State) (j k : ℕ) → v ≡ s
    → law.events_left limits.events v.count ≡ None
    → complete_in n draw limits s 0 j k ≡ law.fire (net_of n draw limits) s j k
timed_is n draw limits v s j k e none =
    ap (λ (x : Option law.Ending). law.unless_over s x (complete_in n draw limits s 0 j k))
    (sym none ∙ ap (λ (x : State). law.events_left limits.events x.count) e)
