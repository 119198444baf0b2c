use Rattle.std.proofs.Common.{◌≡◌, ℕ, [], ◌∷◌, ◌++◌, refl, sym, ap, ap₂, ◌∙◌, append_assoc}
use Rattle.san_check.specs.inner.Walks.{seen, seen_all}
use Rattle.san_check.proofs.LoopLemmas.{all_turn, entries_turn}
use Rattle.san_check.specs.Tables.{declared}
use Rattle.san_check.specs.walk.Expression.{Places}
use Rattle.san_text.specs.declared.syntax.PlaceDecl.{PlaceDecl}
use Rattle.san_check.specs.walk.Atomic.{place_code, length_entries, initial_entries, places_entries, all_places, with_place, counted, cells_of}
use Rattle.san_check.proofs.EntryLemmas.{three_parts}
use Rattle.san_check.proofs.walk.atomic.walk_places.Goals as goal

pub places-preserved : goal.places-preserved
places-preserved c =
    let d = c.decl-item.result in
    let made : c.declare.new.self ≡ with_place c.places.places d =
    c.in_ok-declare.ensures ∙ ap (λ n. declared c.places.places n c.place_of.result) c.as_bytes.ensures.value ∙ ap (declared c.places.places d.name) c.place_of.ensures in
    record {
      entries = entries_turn (λ (t : Places × ℕ) n ds. places_entries t.0 t.1 ds) (λ (t : Places × ℕ) n more (d : PlaceDecl). place_code t.0 t.1 d ∷ (length_entries t.1 d.length ++ initial_entries d.initial))
          (λ (t : Places × ℕ) (d : PlaceDecl). (with_place t.0 d, counted t.1 (cells_of d))) (λ t n d ds. ap (λ es. place_code t.0 t.1 d ∷ es) (sym (append_assoc (length_entries t.1 d.length) (initial_entries d.initial) (places_entries (with_place t.0 d) (counted t.1 (cells_of d)) ds))))
          c.args.decls.now c.places.decl-index d (c.places.places, c.places.cells) (c.declare.new.self, c.counted-cells.result) c.places.walk c.walk_initial.new.walk (seen_all c.args.walk.now (places_entries [] 0 c.args.decls.now))
          c.places-test.true c.decl-item.is
          (three_parts c.places.walk c.see.new.self c.walk_length.new.walk c.walk_initial.new.walk (place_code c.places.places c.places.cells d ∷ []) (length_entries c.places.cells d.length) (initial_entries d.initial)
          (c.see.ensures ∙ ap (seen c.places.walk) c.place_code.ensures) c.walk_length.ensures c.walk_initial.ensures)
          (ap₂ (λ a b. (a, b)) made (c.counted-cells.ensures ∙ ap (counted c.places.cells) c.cells_of.ensures)) c.places.invariant.entries;
      places = all_turn all_places with_place (λ t d ds. refl) c.args.decls.now c.places.decl-index d c.places.places c.declare.new.self (all_places [] c.args.decls.now) c.places-test.true c.decl-item.is made c.places.invariant.places;
    }
