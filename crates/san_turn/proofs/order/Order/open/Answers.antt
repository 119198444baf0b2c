use Rattle.std.proofs.Common.{ℕ, Bool, List, ◌∙◌, ap, length, replicate, true, None}
use Rattle.san_turn.specs.Changes.{OrderValue}
use Rattle.san_turn.specs.inner.Timed.{TimersValue}
use Rattle.san_turn.proofs.Opened.{opened_is}
use Rattle.san_turn.proofs.order.Order.open.Goals as goal

abbrev order_with : List Bool → List Bool → TimersValue → ℕ → OrderValue
order_with unsettled stale timers horizon = record { order = record { going = None; unsettled = unsettled; stale = stale; dues = timers.dues; time = 0 }; firsts = timers.firsts; horizon = horizon }

pub returns : goal.returns
returns c draw limits =
    let many = ap (λ (k : ℕ). replicate k true) c.leaves-leaves.ensures in
    ap (λ (fs : List Bool). order_with fs c.in_ok-stale.stale c.in_ok-timers.timers c.args.horizon.0) (c.in_ok-unsettled.ensures ∙ many)
    ∙ ap (λ (fs : List Bool). order_with (replicate (length c.args.flat.now.parts) true) fs c.in_ok-timers.timers c.args.horizon.0) (c.in_ok-stale.ensures ∙ many)
    ∙ ap (λ (t : TimersValue). order_with (replicate (length c.args.flat.now.parts) true) (replicate (length c.args.flat.now.parts) true) t c.args.horizon.0) c.in_ok-timers.ensures
    ∙ opened_is c.args.flat.now draw limits c.args.horizon.0
