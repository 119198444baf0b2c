-- A piece that was made over a leaf's cells.
use Rattle.std.proofs.Common.{ℕ, zero, suc, ◌≡◌, ◌∙◌, ap, sym, refl, subst, List, length, map, Option, None, Ok}
use Rattle.std.specs.Prelude.{replicate}
use Rattle.std.proofs.lemmas.List.{length-map}
use Rattle.san_law.specs.Net.{Row}
use Rattle.san_law.specs.Piece.{privates}
use Rattle.san_draw.specs.Key.{draw_of}
use Rattle.san_expr.specs.Meets.{Meets}
use Rattle.san_expr.specs.View.{IsSeen}
use Rattle.san_net.specs.Accepted.{IsAccepted}
use Rattle.san_net.specs.Laid.{place_of}
use Rattle.san_net.specs.Leaf.{slot_in}
use Rattle.san_net.specs.declared.part.Slot.{Slot}
use Rattle.san_leaf.specs.Blocks.{made_of}
use Rattle.san_leaf.specs.Outcomes.{piece_by}
use Rattle.san_leaf.specs.States.{kind_in}
use Rattle.san_leaf.specs.inner.Cells.{noted, starts}
use Rattle.san_leaf.specs.Claimed.{Claimed, IsReadFrom}
use Rattle.san_leaf.specs.inner.Ends.{kind_by, nothing_recorded, outcome_by, piece_of_cells, row_by}
use Rattle.san_leaf.specs.inner.ViewStates.{Seeing, behind_of, kept_of, known, view_state_of}
use Rattle.san_leaf.specs.Pieces.{IsSound, slots_in}
use Rattle.san_leaf.specs.inner.Turns.{MakesRecorded, close_in, with_cases}
use Rattle.san_leaf.specs.inner.Recorded.{Recorded}
use Rattle.san_leaf.specs.declared.block.Close.{Close}
use Rattle.san_leaf.proofs.SoundLemmas.{is_read_from, sound}

none_known : (n i : ℕ) → known (replicate n None) i ≡ None
none_known zero i = refl
none_known (suc n) zero = refl
none_known (suc n) (suc i) = none_known n i

module _ (c : Claimed) (slots : List Slot) (marking : Option (List ℕ)) (kept : List ℕ) (row after : Row) (recorded : Recorded) (end : Close) (s0 s1 : Seeing) (own0 first0 cells read : List (Option ℕ))
    (accepted : IsAccepted c.part.atomic) (same : slots ≡ c.part.slots) (is0 : s0 ≡ record { places = map place_of slots; own = own0; first = first0; marking = marking; kept = kept })
    (own_is : own0 ≡ starts (map slot_in c.part.slots) c.base.values) (first_is : first0 ≡ replicate (length c.part.slots) None) (row_is : row ≡ c.base.row)
    (own1 : s1.own ≡ cells) (first1 : s1.first ≡ read) (long : length cells ≡ length s1.places) (wide : length read ≡ length s1.places) (many : length s1.places ≡ length s0.places)
    (fired : Option ℕ) (kind : kind_in c.part.first.0 c.kind ≡ kind_by fired) (few : length c.base.values ≡ length (privates (slots_in c.part)))
    (m : MakesRecorded (made_of (draw_of c.seed) c.part fired row.cases) nothing_recorded recorded (row_by fired row) after (view_state_of s0) (view_state_of s1) end) where
  sized : length s1.places ≡ length (slots_in c.part)
  sized = many ∙ ap (λ (s : Seeing). length s.places) is0 ∙ length-map slots place_of ∙ ap (λ (ss : List Slot). length ss) same ∙ sym (length-map c.part.slots slot_in)

  fresh : (i : ℕ) → known s0.first i ≡ None
  fresh i = ap (λ (s : Seeing). known s.first i) is0 ∙ ap (λ (f : List (Option ℕ)). known f i) first_is ∙ none_known (length c.part.slots) i

  starts_so : s0.own ≡ starts (slots_in c.part) c.base.values
  starts_so = ap (λ (s : Seeing). s.own) is0 ∙ own_is

  meets : Meets (record { places = length s0.places; first = known s0.first; own = known (starts (slots_in c.part) c.base.values); behind = behind_of s0.places s0.marking; kept = kept_of s0 })
      (record { places = length s1.places; first = known read; own = known cells; behind = behind_of s1.places s1.marking; kept = kept_of s1 }) (made_of (draw_of c.seed) c.part fired c.base.row.cases) (Ok m.made)
  meets =
      subst (λ (r : Row). Meets (record { places = length s0.places; first = known s0.first; own = known (starts (slots_in c.part) c.base.values); behind = behind_of s0.places s0.marking; kept = kept_of s0 }) (record { places = length s1.places; first = known read; own = known cells; behind = behind_of s1.places s1.marking; kept = kept_of s1 }) (made_of (draw_of c.seed) c.part fired r.cases) (Ok m.made)) row_is
      (subst (λ (o : List (Option ℕ)). Meets (record { places = length s0.places; first = known s0.first; own = known o; behind = behind_of s0.places s0.marking; kept = kept_of s0 }) (record { places = length s1.places; first = known read; own = known cells; behind = behind_of s1.places s1.marking; kept = kept_of s1 }) (made_of (draw_of c.seed) c.part fired row.cases) (Ok m.made)) starts_so
      (subst (λ (o : List (Option ℕ)). Meets (view_state_of s0) (record { places = length s1.places; first = known read; own = known o; behind = behind_of s1.places s1.marking; kept = kept_of s1 }) (made_of (draw_of c.seed) c.part fired row.cases) (Ok m.made)) own1
      (subst (λ (f : List (Option ℕ)). Meets (view_state_of s0) (record { places = length s1.places; first = known f; own = known s1.own; behind = behind_of s1.places s1.marking; kept = kept_of s1 }) (made_of (draw_of c.seed) c.part fired row.cases) (Ok m.made)) first1 m.meets)))

  pub is_sound : IsSound (piece_of_cells c recorded after end cells read)
  is_sound =
      subst (λ cs. IsSound (piece_by c.part c.seed c.kind c.base c.time (noted (slots_in c.part) read) (outcome_by c.part c.base cells after cs (close_in end)))) (sym (ap (λ (t : Recorded). t.completions) m.recorded))
      (subst (λ x. IsSound (piece_by c.part c.seed c.kind c.base c.time (noted (slots_in c.part) read) (outcome_by c.part c.base cells after m.made.completions x))) (sym m.closed)
      (sound c.part c.seed c.time c.base accepted few fired after m.made s0.first cells read (length s0.places) (length s1.places) (behind_of s0.places s0.marking) (behind_of s1.places s1.marking) (kept_of s0) (kept_of s1) sized fresh (long ∙ sized) (wide ∙ sized) meets
      (m.counted ∙ ap (λ (r : Row). with_cases (row_by fired r) m.made.cases) row_is) c.kind kind))

  pub has_read : IsReadFrom marking (noted (slots_in c.part) read)
  has_read =
      let places : s0.places ≡ map place_of c.part.slots = ap (λ (s : Seeing). s.places) is0 ∙ ap (λ (ss : List Slot). map place_of ss) same in
      let shows : s0.marking ≡ marking = ap (λ (s : Seeing). s.marking) is0 in
      is_read_from marking c.part.slots s0.first read (wide ∙ sized ∙ length-map c.part.slots slot_in) fresh
      (λ i v none is. subst (λ (o : Option (List ℕ)). IsSeen (behind_of (map place_of c.part.slots) o) i v) shows
      (subst (λ (ps : List ℕ). IsSeen (behind_of ps s0.marking) i v) places (meets.seen i v none is)))
