use Rattle.std.proofs.Common.{arith, ◌∙◌, ◌≤◌, ap, sym, subst, length, map, List, slice_set}
use Rattle.san_base.specs.declared.limits.TheConstants.{MAX_ACTS}
use Rattle.san_law.specs.Net.{Row}
use Rattle.san_seq.specs.inner.Dues.{AreDues, first_due}
use Rattle.san_seq.specs.inner.Rows.{row_at}
use Rattle.san_seq.proofs.DueLemmas.{dues_behind, dues_sized}
use Rattle.san_seq.proofs.rows.Rows.drop_timer.Goals as goal

pub catch_up_others-requires-clause-dues : goal.catch_up_others-requires-clause-dues
catch_up_others-requires-clause-dues c = subst (λ (rs : List Row). AreDues c.self.inside.behind c.self.inside.dues rs) (sym c.deref.ensures.value) c.self.invariant

pub catch_up_others-requires-clause-sized : goal.catch_up_others-requires-clause-sized
catch_up_others-requires-clause-sized c = dues_sized c.self.inside.behind c.self.inside.dues c.self.inside.rows.items c.self.invariant ∙ ap length (sym c.deref.ensures.value)

pub catch_up_others-requires-clause-small : goal.catch_up_others-requires-clause-small
catch_up_others-requires-clause-small c = λ j. subst (λ (rs : List Row). length (row_at rs j).timers ≤ MAX_ACTS) (sym (c.deref.ensures.value ∙ c.self.view_is)) (c.requires.small j)

pub invariant_of-self : goal.invariant_of-self
invariant_of-self c =
    dues_behind c.args.leaf c.catch_up_others.new.dues c.self.inside.rows.items c.drop_timer.new.self (omega (arith, c.requires.leaf, ap length c.self.view_is))
    (λ due. c.catch_up_others.ensures due ∙ ap (λ (rs : List Row). slice_set (map first_due rs) c.args.leaf.0 due) c.deref.ensures.value)
