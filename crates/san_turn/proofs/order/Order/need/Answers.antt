use Rattle.std.proofs.Common.{◌≡◌, ap, sym, subst}
use Rattle.std.specs.Option.{option_map}
use Rattle.san_base.specs.declared.numbers.LeafId.{LeafId}
use Rattle.san_law.specs.Order.{need_of}
use Rattle.san_turn.specs.Changes.{OrderValue}
use Rattle.san_turn.specs.Needs.{need_in}
use Rattle.san_turn.specs.declared.need.Need.TheVariants as need
use Rattle.san_turn.proofs.Needed.{fire_needs, going_needs, late_needs, none_needs, stale_needs, unsettled_needs}
use Rattle.san_turn.proofs.order.Order.need.Goals as goal

pub returns-in-Some : goal.returns-in-Some
returns-in-Some c =
    subst (λ (v : OrderValue). need.Settle c.in-Some.leaf ≡ need_in v.firsts (need_of v.horizon v.order)) c.self.view_is
    (ap (need_in _) (sym (going_needs _ _ _ (ap (option_map (λ (l : LeafId). l.0)) c.in-Some.is))))

pub returns-in-Some-first : goal.returns-in-Some-first
returns-in-Some-first c =
    subst (λ (v : OrderValue). need.Settle c.in-Some-first.leaf ≡ need_in v.firsts (need_of v.horizon v.order)) c.self.view_is
    (ap (need_in _) (sym (unsettled_needs _ _ _ (ap (option_map (λ (l : LeafId). l.0)) c.in_default.is) (sym c.in-Some-first.ensures))))

pub returns-in-Some-first-2 : goal.returns-in-Some-first-2
returns-in-Some-first-2 c =
    subst (λ (v : OrderValue). need.Refresh c.in-Some-first-2.leaf ≡ need_in v.firsts (need_of v.horizon v.order)) c.self.view_is
    (ap (need_in _) (sym (stale_needs _ _ _ (ap (option_map (λ (l : LeafId). l.0)) c.in_default.is) (sym c.in_default-first.ensures) (sym c.in-Some-first-2.ensures))))

pub returns-in-Some-least : goal.returns-in-Some-least
returns-in-Some-least c =
    subst (λ (v : OrderValue). need.Fire c.in-Some-least.due.leaf c.in-Some-least.due.act c.in-Some-least.due.time ≡ need_in v.firsts (need_of v.horizon v.order)) c.self.view_is
    (fire_needs _ _ _ c.in-Some-least.due (ap (option_map (λ (l : LeafId). l.0)) c.in_default.is) (sym c.in_default-first.ensures) (sym c.in_default-first-2.ensures) c.in-Some-least.ensures c.if-due-self.true)

pub returns-in_default-least : goal.returns-in_default-least
returns-in_default-least c =
    subst (λ (v : OrderValue). need.End ≡ need_in v.firsts (need_of v.horizon v.order)) c.self.view_is
    (late_needs _ _ _ c.in-Some-least.due (ap (option_map (λ (l : LeafId). l.0)) c.in_default.is) (sym c.in_default-first.ensures) (sym c.in_default-first-2.ensures) c.in-Some-least.ensures c.if-due-self.false)

pub returns-in_default-least-2 : goal.returns-in_default-least-2
returns-in_default-least-2 c =
    subst (λ (v : OrderValue). need.End ≡ need_in v.firsts (need_of v.horizon v.order)) c.self.view_is
    (none_needs _ _ _ (ap (option_map (λ (l : LeafId). l.0)) c.in_default.is) (sym c.in_default-first.ensures) (sym c.in_default-first-2.ensures) c.in_default-least.ensures)
