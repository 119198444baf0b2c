use Rattle.std.proofs.Common.{◌≡◌, ℕ, List, [], ◌∷◌, refl, ap, ◌∙◌}
use Rattle.san_check.specs.inner.Walks.{seen, seen_all}
use Rattle.san_check.proofs.LoopLemmas.{all_turn, entries_turn}
use Rattle.san_check.specs.Tables.{declared, found}
use Rattle.san_check.specs.walk.Expression.{Places}
use Rattle.san_check.specs.walk.Composition.{shown_as, shown_code, shown_entries, with_shown, all_shown}
use Rattle.san_check.proofs.walk.composition.walk_shown.Goals as goal

pub names-preserved : goal.names-preserved
names-preserved c =
    let s = c.index-names-n.result in
    let places = c.args.places.now in
    let made : c.declare.new.self ≡ with_shown places c.names.shares s =
    c.in_ok-declare.ensures ∙ ap (λ n. declared c.names.shares n c.shown_as-place.result) c.as_bytes-in-names.ensures.value
    ∙ ap (declared c.names.shares s) (c.shown_as-place.ensures ∙ ap shown_as (c.copied.ensures ∙ c.find.ensures ∙ ap (found places) c.as_bytes.ensures.value)) in
    record {
      entries = entries_turn (λ (t : Places) n (ss : List (List ℕ)). shown_entries places t n ss) (λ (t : Places) n more (s : List ℕ). shown_code places t n s ∷ []) (λ (t : Places) (s : List ℕ). with_shown places t s) (λ t n s ss. refl)
          c.args.names.now c.names.n s c.names.shares c.declare.new.self c.names.walk c.see.new.self (seen_all c.args.walk.now (shown_entries places [] 0 c.args.names.now))
          c.names-test.true c.index-names-n.is (c.see.ensures ∙ ap (seen c.names.walk) c.shown_code.ensures) made c.names.invariant.entries;
      shares = all_turn (all_shown places) (with_shown places) (λ t d ds. refl) c.args.names.now c.names.n s c.names.shares c.declare.new.self (all_shown places [] c.args.names.now) c.names-test.true c.index-names-n.is made c.names.invariant.shares;
    }
