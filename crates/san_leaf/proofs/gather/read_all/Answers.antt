use Rattle.std.proofs.Common.{arith, ◌∙◌, ap, map, sym, subst, List, Option, ℕ}
use Rattle.std.proofs.lemmas.Grind.{common_steps}
use Rattle.san_base.specs.declared.numbers.PlaceId.{PlaceId}
use Rattle.san_leaf.specs.Claimed.{IsReadFrom}
use Rattle.san_leaf.specs.States.{pair_in}
use Rattle.san_leaf.specs.Views.{Shows}
use Rattle.san_leaf.specs.inner.Gathers.{HasTokens}
use Rattle.san_leaf.proofs.GatherLemmas.{pairs_more, read_more}
use Rattle.san_leaf.proofs.LogLemmas.{tokens_more}
use Rattle.san_leaf.proofs.gather.read_all.Goals.{in-Shared+in_ok-push, in_default}
use Rattle.san_leaf.proofs.gather.read_all.Goals as goal

pub slots-preserved : goal.slots-preserved
slots-preserved g c =
    let i = c.slots.invariant in
    elim c.match-slot.branch [
      | in-Shared+in_ok-push w ↦ record {
        places = grind (arith, common_steps);
        read = subst (λ x. IsReadFrom (g.V.View.marking c.args.view.now) (map pair_in x.items)) (sym w.log-is)
            (subst (λ (xs : List (PlaceId × ℕ)). IsReadFrom (g.V.View.marking c.args.view.now) (map pair_in xs)) (sym w.in_ok-push.ensures.items)
            (subst (λ (xs : List (ℕ × ℕ)). IsReadFrom (g.V.View.marking c.args.view.now) xs) (sym (pairs_more c.slots.log.items (w.in-Shared.place, w.read-value.result)))
            (read_more (g.V.View.marking c.args.view.now) (map pair_in c.slots.log.items) w.in-Shared.place.0 w.read-value.result i.read
            (subst (λ (o : Option (List ℕ)). Shows o w.in-Shared.place.0 w.read-value.result) i.marking w.read-value.ensures.shown))));
        small = subst (λ x. HasTokens (map pair_in x.items)) (sym w.log-is)
            (subst (λ (xs : List (PlaceId × ℕ)). HasTokens (map pair_in xs)) (sym w.in_ok-push.ensures.items)
            (subst (λ (xs : List (ℕ × ℕ)). HasTokens xs) (sym (pairs_more c.slots.log.items (w.in-Shared.place, w.read-value.result)))
            (tokens_more (map pair_in c.slots.log.items) w.in-Shared.place.0 w.read-value.result i.small w.read-value.ensures.value)));
        marking = ap g.V.View.marking w.view-is ∙ w.read-value.ensures.same ∙ i.marking;
        kept = ap g.V.View.kept w.view-is ∙ w.read-value.ensures.kept ∙ i.kept;
      }
      | in_default w ↦ record {
        places = grind (arith, common_steps);
        read = subst (λ x. IsReadFrom (g.V.View.marking c.args.view.now) (map pair_in x.items)) (sym w.log-is) i.read;
        small = subst (λ x. HasTokens (map pair_in x.items)) (sym w.log-is) i.small;
        marking = ap g.V.View.marking w.view-is ∙ i.marking;
        kept = ap g.V.View.kept w.view-is ∙ i.kept;
      }
    ]
