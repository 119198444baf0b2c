use Rattle.std.proofs.Common.{◌∙◌, ◌≤◌, List, sym, ap, subst, length}
use Rattle.san_base.specs.declared.limits.TheConstants.{MAX_ACTS}
use Rattle.san_law.specs.Net.{Row}
use Rattle.san_seq.specs.inner.Dues.{AreDues}
use Rattle.san_seq.specs.inner.Rows.{row_at}
use Rattle.san_seq.proofs.DueLemmas.{dues_sized}
use Rattle.san_seq.proofs.rows.Rows.least.Goals as goal

pub catch_up-requires-clause-dues : goal.catch_up-requires-clause-dues
catch_up-requires-clause-dues c = subst (λ (rs : List Row). AreDues c.self.inside.behind c.self.inside.dues rs) (sym c.deref.ensures.value) c.self.invariant

pub catch_up-requires-clause-sized : goal.catch_up-requires-clause-sized
catch_up-requires-clause-sized c = dues_sized c.self.inside.behind c.self.inside.dues c.self.inside.rows.items c.self.invariant ∙ ap length (sym c.deref.ensures.value)

pub catch_up-requires-clause-small : goal.catch_up-requires-clause-small
catch_up-requires-clause-small c = λ j. subst (λ (rs : List Row). length (row_at rs j).timers ≤ MAX_ACTS) (sym (c.deref.ensures.value ∙ c.self.view_is)) (c.requires.small j)

pub first_timer-requires-clause-small : goal.first_timer-requires-clause-small
first_timer-requires-clause-small c = λ j. subst (λ (rs : List Row). length (row_at rs j).timers ≤ MAX_ACTS) (sym (c.deref-2.ensures.value ∙ c.self.view_is)) (c.requires.small j)
