-- A ring has no fault and keeps the limits.
use Rattle.std.proofs.Common.{◌≡◌, ℕ, zero, suc, ◌+◌, ◌≤◌, [], ◌∷◌, ◌++◌, length, map, None, refl, ap, ◌∙◌, arith, codes}
use Rattle.std.specs.Prelude.{slice_index_or}
use Rattle.san_check.specs.Tables.{declared}
use Rattle.san_check.specs.build.Atomic.{atomic_in, atomics_of}
use Rattle.san_check.specs.build.Cells.{elements_in, elements_of}
use Rattle.san_check.specs.build.Composition.{child_of, node_of, nodes_of, number, root_of}
use Rattle.san_check.specs.walk.Composition.{Models, all_models, known_of, model_code, model_entries, models_entries, name_code, with_model}
use Rattle.san_check.specs.walk.Model.{syntax_entries, syntax_fault}
use Rattle.san_flat.specs.Homes.{cells_at}
use Rattle.san_flat.specs.Networks.{atomic_at, count_of_leaves}
use Rattle.san_serve.specs.Accepted.{composition_of, limit_of}
use Rattle.san_tree.specs.Instances.{below, joined}
use Rattle.san_tree.specs.declared.instance.Instance.{Instance}
use Rattle.san_made.proofs.LimitLemmas.{within_limits}
use Rattle.san_made.proofs.RingChecks.{AllNone, join_passes, models, no_fault, none_append}
use Rattle.san_made.proofs.StationChecks.{reward_clear, station_clear}
use Rattle.san_made.proofs.RingModel.{children, ring, ring_syntax, station}

-- the station alone
first_models : with_model [] station ≡ models
unfolding declared known_of
first_models = refl

ring_entries_clear : (n : ℕ) → 2 ≤ n → n ≤ 1024 → AllNone (syntax_entries (ring_syntax n))
unfolding syntax_entries model_entries declared known_of name_code model_code
ring_entries_clear n two few =
    let join = join_passes n two few in (
      refl,
      none_append (models_entries [] 0 (station ∷ ring n ∷ [])) _
          (none_append (name_code [] 0 (codes "station") ∷ model_entries [] station) _ station_clear (refl, none_append _ [] join tt))
          (refl, reward_clear n),
    )

pub ring_has_no_fault : (n : ℕ) → 2 ≤ n → n ≤ 1024 → syntax_fault (ring_syntax n) ≡ None
ring_has_no_fault n two few = no_fault 0 (syntax_entries (ring_syntax n)) (ring_entries_clear n two few)

-- ---- one leaf for each station

abbrev leaf : Instance
leaf = record { path = []; atomic = 0 }

joined_long : (ms : Models) (left k c : ℕ) → number ms (codes "station") ≡ 0 → length (joined ((leaf ∷ []) ∷ []) c (map (child_of ms) (children k left))) ≡ left
joined_long ms zero k c e = refl
joined_long ms (suc left) k c e =
    ap (λ (m : ℕ). length (below c (slice_index_or ((leaf ∷ []) ∷ []) m []) ++ joined ((leaf ∷ []) ∷ []) (c + 1) (map (child_of ms) (children (suc k) left)))) e
    ∙ ap (λ (m : ℕ). suc m) (joined_long ms left (suc k) (c + 1) e)

ring_leaves : (n : ℕ) → count_of_leaves (composition_of (ring_syntax n)) ≡ n
unfolding nodes_of node_of root_of declared known_of
ring_leaves n = joined_long (all_models [] (station ∷ ring n ∷ [])) n 0 0 refl

ring_cells : (n a : ℕ) → length (cells_at (elements_of (ring_syntax n)) a) ≤ 3
unfolding elements_of elements_in
ring_cells n zero = omega arith
ring_cells n (suc a) = omega arith

ring_acts : (n a : ℕ) → length (atomic_at (atomics_of (ring_syntax n)) a).acts ≤ 2
unfolding atomics_of atomic_in
ring_acts n zero = omega arith
ring_acts n (suc a) = omega arith

pub ring_within : (n : ℕ) → n ≤ 1024 → limit_of (composition_of (ring_syntax n)) ≡ None
ring_within n few = within_limits (composition_of (ring_syntax n)) (let e = ring_leaves n in omega (arith, e, few)) (ring_cells n) (ring_acts n)
