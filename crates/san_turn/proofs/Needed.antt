-- The law's need, case by case.
use Rattle.std.proofs.Common.{ℕ, ◌≤◌, ◌<◌, ◌≡◌, ◌∙◌, ap, sym, refl, subst, List, Option, Some, None, Bool, cond}
use Rattle.san_law.specs.Order.{Finished, Needs, Order, first_true, need_due, need_of, need_stale, need_unsettled, need_going}
use Rattle.san_law.specs.Piece.{Fire, Refresh, Settle}
use Rattle.san_law.specs.Renewal as law
use Rattle.san_law.specs.Renewal.{least_from}
use Rattle.std.proofs.lemmas.Bool.{le-leb, lt-leb}
use Rattle.std.specs.Option.{option_map}
use Rattle.san_turn.specs.Needs.{need_in}
use Rattle.san_turn.specs.declared.need.Need.TheVariants as need
use Rattle.san_turn.specs.declared.timers.Due.{Due}
use Rattle.san_turn.specs.inner.Timed.{due_in}

some_of : {X : Type 0} (x y : X) → (let o : Option X = Some x in o) ≡ Some y → x ≡ y
some_of x y e = cc

module _ (horizon : ℕ) (o : Order) where
  pub going_needs : (j : ℕ) → o.going ≡ Some j → need_of horizon o ≡ Needs j Settle o.time
  unfolding need_of
  going_needs j e = ap (need_going horizon o) e

  pub unsettled_needs : (j : ℕ) → o.going ≡ None → first_true 0 o.unsettled ≡ Some j → need_of horizon o ≡ Needs j Settle o.time
  unfolding need_of
  unsettled_needs j e u = ap (need_going horizon o) e ∙ ap (need_unsettled horizon o) u

  pub stale_needs : (j : ℕ) → o.going ≡ None → first_true 0 o.unsettled ≡ None → first_true 0 o.stale ≡ Some j → need_of horizon o ≡ Needs j Refresh o.time
  unfolding need_of
  stale_needs j e u s = ap (need_going horizon o) e ∙ ap (need_unsettled horizon o) u ∙ ap (need_stale horizon o) s

  pub due_needs : (d : Option law.Due) → o.going ≡ None → first_true 0 o.unsettled ≡ None → first_true 0 o.stale ≡ None → least_from 0 o.dues ≡ d → need_of horizon o ≡ need_due horizon d
  unfolding need_of
  due_needs d e u s l = ap (need_going horizon o) e ∙ ap (need_unsettled horizon o) u ∙ ap (need_stale horizon o) s ∙ ap (need_due horizon) l

  -- the least timer
  pub fire_needs : (firsts : List ℕ) (due : Due) → o.going ≡ None → first_true 0 o.unsettled ≡ None → first_true 0 o.stale ≡ None
      → (let some : Option Due = Some due in some) ≡ option_map (due_in firsts) (least_from 0 o.dues) → due.time.0 ≤ horizon → need.Fire due.leaf due.act due.time ≡ need_in firsts (need_of horizon o)
  fire_needs firsts due e u s l h = by_least (least_from 0 o.dues) refl l
    where
      by_least : (w : Option law.Due) → least_from 0 o.dues ≡ w → (let some : Option Due = Some due in some) ≡ option_map (due_in firsts) w → need.Fire due.leaf due.act due.time ≡ need_in firsts (need_of horizon o)
      by_least None is f = absurd cc
      by_least (Some d) is f =
          let same : due ≡ due_in firsts d = some_of due (due_in firsts d) f in
          let early : d.time ≤ horizon = subst (λ (x : Due). x.time.0 ≤ horizon) same h in
          ap (λ (x : Due). need.Fire x.leaf x.act x.time) same
          ∙ ap (λ (b : Bool). need_in firsts (cond b (Needs d.leaf (Fire d.act) d.time) Finished)) (sym (le-leb d.time horizon early))
          ∙ ap (need_in firsts) (sym (due_needs (Some d) e u s is))

  pub late_needs : (firsts : List ℕ) (due : Due) → o.going ≡ None → first_true 0 o.unsettled ≡ None → first_true 0 o.stale ≡ None
      → (let some : Option Due = Some due in some) ≡ option_map (due_in firsts) (least_from 0 o.dues) → horizon < due.time.0 → need.End ≡ need_in firsts (need_of horizon o)
  late_needs firsts due e u s l h = by_least (least_from 0 o.dues) refl l
    where
      by_least : (w : Option law.Due) → least_from 0 o.dues ≡ w → (let some : Option Due = Some due in some) ≡ option_map (due_in firsts) w → need.End ≡ need_in firsts (need_of horizon o)
      by_least None is f = absurd cc
      by_least (Some d) is f =
          let same : due ≡ due_in firsts d = some_of due (due_in firsts d) f in
          let late : horizon < d.time = subst (λ (x : Due). horizon < x.time.0) same h in
          ap (λ (b : Bool). need_in firsts (cond b (Needs d.leaf (Fire d.act) d.time) Finished)) (sym (lt-leb d.time horizon late))
          ∙ ap (need_in firsts) (sym (due_needs (Some d) e u s is))

  pub none_needs : (firsts : List ℕ) → o.going ≡ None → first_true 0 o.unsettled ≡ None → first_true 0 o.stale ≡ None
      → (let none : Option Due = None in none) ≡ option_map (due_in firsts) (least_from 0 o.dues) → need.End ≡ need_in firsts (need_of horizon o)
  none_needs firsts e u s l = by_least (least_from 0 o.dues) refl l
    where
      by_least : (w : Option law.Due) → least_from 0 o.dues ≡ w → (let none : Option Due = None in none) ≡ option_map (due_in firsts) w → need.End ≡ need_in firsts (need_of horizon o)
      by_least None is f = ap (need_in firsts) (sym (due_needs None e u s is))
      by_least (Some d) is f = absurd cc
