-- The initial values of places: all cells at one home have one.
use Rattle.std.proofs.Common.{◌≡◌, ℕ, suc, ◌≤◌, true, false, cond, ◌||◌, List, [], ◌∷◌, ◌++◌, length, refl, ap, sym, ◌∙◌, arith, map, Option, Some, inl, inr, ◌⊎◌}
use Rattle.std.specs.Prelude.{slice_get}
use Rattle.std.specs.List.{list_any}
use Rattle.std.proofs.Math.Bool.{true≢false}
use Rattle.std.proofs.lemmas.Bool.{cases_Bool}
use Rattle.san_check.specs.declared.model.Model.{Model}
use Rattle.san_flat.proofs.LeafLemmas.{Composes, IsPlaced, node_of, placed, row-long}
use Rattle.san_flat.proofs.ListLemmas.{got-map}
use Rattle.san_flat.proofs.NumberLemmas.{same-is}
use Rattle.san_flat.specs.Homes.{CellHome, cells_at, home_of, homes_in, rows_of, same}
use Rattle.san_flat.specs.Networks.{atomic_at, leaf_count, value_at, values_in}
use Rattle.san_flat.specs.inner.Models.{homes_of, leaves_of, values_of}
use Rattle.san_net.specs.Numbering.{all_of}
use Rattle.san_tree.proofs.ValueLemmas.{home-kept}
use Rattle.san_tree.specs.Places.{reached}
use Rattle.san_tree.specs.declared.instance.Instance.{Instance}

-- what each home shows is its value
abbrev AreShown : (CellHome → Option ℕ) → List CellHome → List ℕ → Type 0
AreShown shown [] [] = Unit {0}
AreShown shown [] (v ∷ values) = ⊥
AreShown shown (h ∷ homes) [] = ⊥
AreShown shown (h ∷ homes) (v ∷ values) = (Some v ≡ shown h) × AreShown shown homes values

shown-append : (shown : CellHome → Option ℕ) (xs : List CellHome) (vs : List ℕ) (ys : List CellHome) (ws : List ℕ) → AreShown shown xs vs → AreShown shown ys ws → AreShown shown (xs ++ ys) (vs ++ ws)
shown-append shown [] [] ys ws a b = b
shown-append shown [] (v ∷ vs) ys ws a b = absurd a
shown-append shown (x ∷ xs) [] ys ws a b = absurd a
shown-append shown (x ∷ xs) (v ∷ vs) ys ws a b = (a.0, shown-append shown xs vs ys ws a.1 b)

shown-row : (shown : CellHome → Option ℕ) (row : List CellHome) (values : List ℕ) → length row ≡ length values → ((i : ℕ) (h : CellHome) → slice_get row i ≡ Some h → slice_get values i ≡ shown h) → AreShown shown row values
shown-row shown [] [] e h = tt
shown-row shown [] (v ∷ values) e h = absurd (omega (arith, e))
shown-row shown (x ∷ row) [] e h = absurd (omega (arith, e))
shown-row shown (x ∷ row) (v ∷ values) e h = (h 0 x refl, shown-row shown row values (omega (arith, e)) (λ i k at. h (suc i) k at))

-- so the value at a home is what it shows
value-shown : (shown : CellHome → Option ℕ) (homes : List CellHome) (values : List ℕ) → AreShown shown homes values → (h : CellHome) → list_any (same h) homes ≡ true → Some (value_at homes values h) ≡ shown h
value-shown shown [] values a h there = absurd (true≢false (sym there))
value-shown shown (x ∷ homes) [] a h there = absurd a
value-shown shown (x ∷ homes) (v ∷ values) a h there = by_test (λ t. value-shown shown homes values a.1 h t) (cases_Bool (same h x))
  where
    by_test : (list_any (same h) homes ≡ true → Some (value_at homes values h) ≡ shown h) → (same h x ≡ true) ⊎ (same h x ≡ false) → Some (value_at (x ∷ homes) (v ∷ values) h) ≡ shown h
    by_test rest (inl t) = ap (λ b. Some (cond b v (value_at homes values h))) t ∙ a.0 ∙ ap shown (sym (same-is h x t))
    by_test rest (inr t) = ap (λ b. Some (cond b v (value_at homes values h))) t ∙ rest (sym (ap (λ b. b || list_any (same h) homes) t) ∙ there)

module _ (m : Model) (composed : Composes m) where
  -- what a home shows: that of its node at its place
  abbrev pub shown_at : CellHome → Option ℕ
  shown_at h = composed.shown (reached m.tree.nodes m.tree.root h.path) h.place

  cell-shown : (i : Instance) → IsPlaced m i → (j : ℕ) (h : CellHome) → slice_get (homes_in m.tree.nodes m.tree.root m.cells i) j ≡ Some h → slice_get (values_in m.atomics i) j ≡ shown_at h
  cell-shown i p j h at =
      let cell = got-map (home_of m.tree.nodes m.tree.root i.path) (cells_at m.cells i.atomic) j h at in
      let value = composed.values (node_of m i) i.atomic (atomic_at m.atomics i.atomic) (cells_at m.cells i.atomic) j cell.0.0 cell.0.1 p.within p.leads p.atomic p.cells cell.1.0 in
      value ∙ sym (home-kept m.tree.nodes composed.shown composed.keeps m.tree.root i.path cell.0.0) ∙ ap shown_at cell.1.1

  leaves-shown : (leaves : List Instance) → ((n : ℕ) (i : Instance) → slice_get leaves n ≡ Some i → IsPlaced m i) → AreShown shown_at (all_of (rows_of m.tree.nodes m.tree.root m.cells leaves)) (all_of (map (values_in m.atomics) leaves))
  leaves-shown [] h = tt
  leaves-shown (i ∷ leaves) h =
      shown-append shown_at (homes_in m.tree.nodes m.tree.root m.cells i) (values_in m.atomics i) (all_of (rows_of m.tree.nodes m.tree.root m.cells leaves)) (all_of (map (values_in m.atomics) leaves))
      (shown-row shown_at (homes_in m.tree.nodes m.tree.root m.cells i) (values_in m.atomics i) (row-long m composed i (h 0 i refl)) (λ j k at. cell-shown i (h 0 i refl) j k at))
      (leaves-shown leaves (λ n k at. h (suc n) k at))

  -- a cell has the initial value at its home
  pub cell-valued : leaf_count m ≤ 4096 → (i : Instance) → IsPlaced m i → (j : ℕ) (h : CellHome) → slice_get (homes_in m.tree.nodes m.tree.root m.cells i) j ≡ Some h → list_any (same h) (homes_of m) ≡ true → Some (value_at (homes_of m) (values_of m) h) ≡ slice_get (values_in m.atomics i) j
  cell-valued few i p j h at there =
      value-shown shown_at (homes_of m) (values_of m) (leaves-shown (leaves_of m) (λ n k is. placed m composed few n k is)) h there ∙ sym (cell-shown i p j h at)
