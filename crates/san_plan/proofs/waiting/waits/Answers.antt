use Rattle.std.proofs.Common.{ℕ, List, Option, ap, arith, map, subst, sym, ◌∙◌, ◌≡◌, ◌≤◌}
use Rattle.std.specs.Prelude.{IfSome}
use Rattle.san_base.specs.declared.limits.TheConstants.{MAX_HORIZON}
use Rattle.san_book.specs.Nets.{shared_in}
use Rattle.san_book.specs.Plans.{chosen, in_time, next_version}
use Rattle.san_law.specs.Net.{Row, least_timer}
use Rattle.san_law.specs.Piece.{LeafState}
use Rattle.san_net.specs.Leaf.{slot_in}
use Rattle.san_net.specs.declared.part.Slot.{Slot}
use Rattle.san_plan.specs.Plans.{RowStands}
use Rattle.san_plan.specs.inner.Waits.{Fires}
use Rattle.san_plan.proofs.Waited.{due_fires, in_time_few}
use Rattle.san_plan.proofs.waiting.waits.Goals as goal

pub chosen-requires-clause-due : goal.chosen-requires-clause-due
chosen-requires-clause-due c =
    let row : Row = c.state.inside.row in
    let is : row ≡ c.args.state.now.row = ap (λ (s : LeafState). s.row) c.state.view_is in
    let stands : RowStands c.args.part.now row = subst (RowStands c.args.part.now) (sym is) c.requires.row in
    subst (λ (o : Option (ℕ × ℕ)). IfSome o (Fires c.args.part.now)) (sym (c.in_time-due.ensures ∙ ap (in_time c.args.horizon.0) c.least_of.ensures))
    (due_fires c.args.part.now row stands c.requires.few c.args.horizon.0 c.requires.horizon)

pub chosen-requires-clause-version : goal.chosen-requires-clause-version
chosen-requires-clause-version c =
    subst (λ (o : Option (ℕ × ℕ)). IfSome o (λ (v : ℕ × ℕ). v.0 ≤ MAX_HORIZON)) (sym c.in_time-version.ensures)
    (in_time_few c.args.horizon.0 c.next_version-next.result c.requires.horizon)

pub least_of-requires : goal.least_of-requires
least_of-requires c =
    let row : Row = c.state.inside.row in
    let is : row ≡ c.args.state.now.row = ap (λ (s : LeafState). s.row) c.state.view_is in
    let stands : RowStands c.args.part.now row = subst (RowStands c.args.part.now) (sym is) c.requires.row in
    let long = stands.timers in
    omega (arith, long, c.requires.few)

pub returns-clause-is : goal.returns-clause-is
returns-clause-is c =
    let is : c.state.inside.row ≡ c.args.state.now.row = ap (λ (s : LeafState). s.row) c.state.view_is in
    c.chosen.ensures.is
    ∙ (ap (λ (o : Option (ℕ × ℕ)). chosen c.args.part.now.leaf.0 o c.in_time-version.result) (c.in_time-due.ensures ∙ ap (in_time c.args.horizon.0) (c.least_of.ensures ∙ ap least_timer is))
    ∙ ap (chosen c.args.part.now.leaf.0 (in_time c.args.horizon.0 (least_timer c.args.state.now.row))) (c.in_time-version.ensures
    ∙ ap (in_time c.args.horizon.0) (c.next_version-next.ensures ∙ ap (λ (xs : List Slot). next_version c.args.ahead.now.lines c.args.part.now.leaf.0 c.args.after.0 (shared_in (map slot_in xs))) c.as_slice.ensures)))
