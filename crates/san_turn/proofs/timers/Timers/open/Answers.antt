use Rattle.std.proofs.Common.{ℕ, List, Option, ◌∙◌, ap, length, replicate, None}
use Rattle.san_turn.specs.inner.Timed.{TimersValue}
use Rattle.san_turn.proofs.Timed.{timed_open}
use Rattle.san_turn.proofs.timers.Timers.open.Goals as goal

pub returns : goal.returns
returns c =
    ap (λ (ds : List (Option (ℕ × ℕ))). (let t : TimersValue = record { dues = ds; firsts = c.in_ok-firsts.firsts.items } in t))
    (timed_open c.in_ok-firsts.firsts.items c.in_ok-acts.acts.items c.in_ok-keys.keys _ _ c.leaves.ensures c.in_ok-keys.ensures)
    ∙ ap (λ (fs : List ℕ). (let t : TimersValue = record { dues = replicate (length c.args.flat.now.parts) None; firsts = fs } in t)) c.in_ok-firsts.ensures
