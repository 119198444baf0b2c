-- A farm has no fault and keeps the limits.
use Rattle.std.proofs.Common.{◌≡◌, ℕ, zero, suc, ◌+◌, ◌≤◌, false, nat_lt, refl, ap, arith, [], ◌∷◌, ◌++◌, None, map, length, codes}
use Rattle.std.proofs.lemmas.Bool.Decides.{nat_tests}
use Rattle.san_check.specs.build.Atomic.{atomic_in, atomics_of}
use Rattle.san_check.specs.build.Cells.{elements_in, elements_of}
use Rattle.san_check.specs.build.Composition.{capped, node_of, nodes_of, root_of}
use Rattle.san_check.specs.Tables.{declared, paired}
use Rattle.san_check.specs.walk.Activity.{ActNames, act_code, act_entries, arc_entries, cases_entries, dist_entries, input_entries, is_outside, output_entries, pair_entries, priority_entries, timing_entries, weight_entries}
use Rattle.san_check.specs.walk.Atomic.{acts_entries, all_acts, all_places, initial_entries, length_entries, place_code, places_entries}
use Rattle.san_check.specs.walk.Composition.{Models, all_models, child_code, known_of, model_code, model_entries, models_entries, name_code, part_code, share_code, shared_code, shown_code, with_model}
use Rattle.san_check.specs.walk.Entries.{code, joined}
use Rattle.san_check.specs.walk.Expression.{Places, expr_entries, whole}
use Rattle.san_check.specs.walk.Model.{syntax_entries, syntax_fault}
use Rattle.san_check.specs.walk.Reward.{end_code, impulse_code, reward_code, reward_entries, rewards_entries, span_entries, term_entries, terms_entries}
use Rattle.san_text.specs.declared.syntax.Ast.TheVariants as ast
use Rattle.san_text.specs.declared.syntax.TermDecl.{TermDecl}
use Rattle.san_text.specs.declared.syntax.TermDecl.TheVariants as term
use Rattle.san_text.specs.declared.syntax.DistDecl.TheVariants as dist
use Rattle.san_text.specs.declared.syntax.InputDecl.TheVariants as input
use Rattle.san_base.specs.declared.op.Op.TheVariants as op
use Rattle.san_flat.specs.Homes.{cells_at}
use Rattle.san_flat.specs.Networks.{atomic_at, count_of_leaves}
use Rattle.san_serve.specs.Accepted.{composition_of, limit_of}
use Rattle.san_tree.specs.Instances.{below, copied, onto}
use Rattle.san_tree.specs.declared.instance.Instance.{Instance}
use Rattle.std.proofs.lemmas.List.{length-append, length-map}
use Rattle.san_made.proofs.LimitLemmas.{within_limits}
use Rattle.san_made.proofs.FarmModel.{cpu, cpu_places, cpus, crew, crew_places, down, down_rate, fail_act, farm, farm_syntax, fix_act, is_down, queue, start_act}
use Rattle.san_made.proofs.RingChecks.{AllNone, all_clear, no_fault, none_append}
use Rattle.san_made.proofs.StationChecks.{binary_clear, name_clear, number_clear}

abbrev processor : Instance
processor = record { path = []; atomic = 0 }

copied_long : (c n : ℕ) → length (copied (processor ∷ []) c n) ≡ n
copied_long c zero = refl
copied_long c (suc n) = ap (λ (m : ℕ). suc m) (copied_long (c + 1) n)

farm_cells : (n a : ℕ) → length (cells_at (elements_of (farm_syntax n)) a) ≤ 3
unfolding elements_of elements_in
farm_cells n zero = omega arith
farm_cells n (suc zero) = omega arith
farm_cells n (suc (suc a)) = omega arith

farm_acts : (n a : ℕ) → length (atomic_at (atomics_of (farm_syntax n)) a).acts ≤ 2
unfolding atomics_of atomic_in
farm_acts n zero = omega arith
farm_acts n (suc zero) = omega arith
farm_acts n (suc (suc a)) = omega arith

abbrev crew_leaf : Instance
crew_leaf = record { path = []; atomic = 1 }

capped_most : (n : ℕ) → capped n ≤ n
capped_most n = omega arith

farm_leaves : (n : ℕ) → n ≤ 1024 → count_of_leaves (composition_of (farm_syntax n)) ≤ 1025
unfolding nodes_of node_of root_of declared known_of
farm_leaves n few =
    let leaves = copied (processor ∷ []) 0 (capped n) in
    let count : count_of_leaves (composition_of (farm_syntax n)) ≡ length (below 0 leaves) + 1 = length-append (below 0 leaves) (below 1 (crew_leaf ∷ [])) in
    omega (arith, count, length-map leaves (onto (0 ∷ [])), copied_long 0 (capped n), capped_most n, few)

pub farm_within : (n : ℕ) → n ≤ 1024 → limit_of (composition_of (farm_syntax n)) ≡ None
farm_within n few = within_limits (composition_of (farm_syntax n)) (farm_leaves n few) (farm_cells n) (farm_acts n)

-- ---- the checks

abbrev cpu_shown : Places
cpu_shown = all_places [] cpu_places

abbrev crew_shown : Places
crew_shown = all_places [] crew_places

fail_clear : AllNone (act_entries cpu_shown fail_act)
unfolding act_entries timing_entries dist_entries pair_entries cases_entries input_entries output_entries arc_entries weight_entries whole declared
fail_clear = all_clear (act_entries cpu_shown fail_act) refl

down_clear : AllNone (expr_entries cpu_shown is_down)
unfolding whole declared
down_clear = binary_clear cpu_shown op.Eq (ast.Name (codes "up")) (ast.Number 0) (name_clear cpu_shown (codes "up") refl) (number_clear cpu_shown 0)

start_clear : AllNone (act_entries cpu_shown start_act)
unfolding act_entries timing_entries priority_entries cases_entries input_entries output_entries arc_entries weight_entries whole declared
start_clear =
    none_append (joined (map (input_entries cpu_shown) start_act.inputs)) (cases_entries cpu_shown start_act.cases)
    (none_append (input_entries cpu_shown (input.Gate is_down [])) (joined (map (input_entries cpu_shown) (input.Arc (codes "mended") None ∷ [])))
    (none_append (expr_entries cpu_shown is_down) [] down_clear tt)
    (all_clear (joined (map (input_entries cpu_shown) (input.Arc (codes "mended") None ∷ []))) refl))
    (all_clear (cases_entries cpu_shown start_act.cases) refl)

fix_clear : AllNone (act_entries crew_shown fix_act)
unfolding act_entries timing_entries dist_entries pair_entries cases_entries input_entries output_entries arc_entries weight_entries whole declared
fix_clear =
    none_append (joined (map (input_entries crew_shown) fix_act.inputs)) (timing_entries crew_shown fix_act.timing ++ cases_entries crew_shown fix_act.cases) (all_clear (joined (map (input_entries crew_shown) fix_act.inputs)) refl)
    (none_append (timing_entries crew_shown fix_act.timing) (cases_entries crew_shown fix_act.cases)
    (none_append (dist_entries crew_shown (dist.Uniform (ast.Number 1) (ast.Number 4))) [] (none_append (expr_entries crew_shown (ast.Number 1)) (expr_entries crew_shown (ast.Number 4)) (number_clear crew_shown 1) (number_clear crew_shown 4)) tt)
    (all_clear (cases_entries crew_shown fix_act.cases) refl))

cpu_places_clear : AllNone (places_entries [] 0 cpu_places)
unfolding place_code length_entries initial_entries declared
cpu_places_clear = all_clear (places_entries [] 0 cpu_places) refl

crew_places_clear : AllNone (places_entries [] 0 crew_places)
unfolding place_code length_entries initial_entries declared
crew_places_clear = all_clear (places_entries [] 0 crew_places) refl

cpu_acts_clear : AllNone (acts_entries cpu_shown [] 0 (fail_act ∷ start_act ∷ []))
unfolding act_code declared
cpu_acts_clear = (refl, none_append (act_entries cpu_shown fail_act) _ fail_clear (refl, none_append (act_entries cpu_shown start_act) [] start_clear tt))

crew_acts_clear : AllNone (acts_entries crew_shown [] 0 (fix_act ∷ []))
unfolding act_code declared
crew_acts_clear = (refl, none_append (act_entries crew_shown fix_act) [] fix_clear tt)

cpu_clear : AllNone (model_entries [] cpu)
unfolding model_entries
cpu_clear = none_append (places_entries [] 0 cpu_places) (acts_entries cpu_shown [] 0 (fail_act ∷ start_act ∷ [])) cpu_places_clear cpu_acts_clear

crew_clear : (ms : Models) → AllNone (model_entries ms crew)
unfolding model_entries
crew_clear ms = none_append (places_entries [] 0 crew_places) (acts_entries crew_shown [] 0 (fix_act ∷ [])) crew_places_clear crew_acts_clear

in_range : (c n least most : ℕ) → least ≤ n → n ≤ most → code c (is_outside n least most) ≡ None
in_range c n least most low high =
    let x : nat_lt n least ≡ false = grind (arith, nat_tests) in
    let y : nat_lt most n ≡ false = grind (arith, nat_tests) in
    rw (x, y) refl

abbrev one_model : Models
one_model = with_model [] cpu

abbrev two_models : Models
two_models = with_model one_model crew

abbrev three_models : ℕ → Models
three_models n = with_model two_models (cpus n)

cpus_clear : (n : ℕ) → 2 ≤ n → n ≤ 1024 → AllNone (model_entries two_models (cpus n))
unfolding model_entries model_code shown_code declared known_of
cpus_clear n two few = (refl, (in_range _ n 1 _ (omega (arith, two)) (omega (arith, few)), (refl, (refl, tt))))

farm_clear : (n : ℕ) → AllNone (model_entries (three_models n) farm)
unfolding model_entries model_code child_code share_code part_code shared_code declared known_of paired
farm_clear n = all_clear (model_entries (three_models n) farm) refl

models_clear : (n : ℕ) → 2 ≤ n → n ≤ 1024 → AllNone (models_entries [] 0 (cpu ∷ crew ∷ cpus n ∷ farm ∷ []))
unfolding name_code declared known_of
models_clear n two few = (
  refl,
  none_append (model_entries [] cpu) (models_entries one_model 1 (crew ∷ cpus n ∷ farm ∷ [])) cpu_clear (
    refl,
    none_append (model_entries one_model crew) (models_entries two_models 2 (cpus n ∷ farm ∷ [])) (crew_clear one_model) (
      refl,
      none_append (model_entries two_models (cpus n)) (models_entries (three_models n) 3 (farm ∷ [])) (cpus_clear n two few)
          (refl, none_append (model_entries (three_models n) farm) [] (farm_clear n) tt),
    ),
  ),
)

-- the rewards
abbrev cpu_names : ActNames
cpu_names = all_acts [] (fail_act ∷ start_act ∷ [])

abbrev crew_names : ActNames
crew_names = all_acts [] (fix_act ∷ [])

abbrev all_of_farm : ℕ → Models
all_of_farm n = all_models [] (cpu ∷ crew ∷ cpus n ∷ farm ∷ [])

abbrev down_term : TermDecl
down_term = term.Rate down_rate

abbrev fail_term : TermDecl
fail_term = term.Impulse (codes "fail") (ast.Number 3)

abbrev queue_term : TermDecl
queue_term = term.Rate (ast.Name (codes "failed"))

rate_clear : AllNone (expr_entries cpu_shown down_rate)
unfolding whole declared
rate_clear = binary_clear cpu_shown op.Sub (ast.Number 1) (ast.Name (codes "up")) (number_clear cpu_shown 1) (name_clear cpu_shown (codes "up") refl)

queued_clear : AllNone (expr_entries crew_shown (ast.Name (codes "failed")))
unfolding whole declared
queued_clear = name_clear crew_shown (codes "failed") refl

down_reward_clear : (n : ℕ) → AllNone (reward_entries (all_of_farm n) down)
unfolding reward_entries span_entries end_code term_entries impulse_code declared known_of
down_reward_clear n = (
  refl,
  none_append (span_entries down.span) (terms_entries cpu_shown cpu_names false 0 (down_term ∷ fail_term ∷ [])) (all_clear (span_entries down.span) refl)
      (none_append (term_entries cpu_shown cpu_names false 0 down_term) (terms_entries cpu_shown cpu_names false 1 (fail_term ∷ [])) rate_clear
      (none_append (term_entries cpu_shown cpu_names false 1 fail_term) [] (refl, number_clear cpu_shown 3) tt)),
)

queue_reward_clear : (n : ℕ) → AllNone (reward_entries (all_of_farm n) queue)
unfolding reward_entries span_entries end_code term_entries declared known_of
queue_reward_clear n = (
  refl,
  none_append (span_entries queue.span) (terms_entries crew_shown crew_names false 0 (queue_term ∷ [])) (all_clear (span_entries queue.span) refl)
      (none_append (term_entries crew_shown crew_names false 0 queue_term) [] queued_clear tt),
)

rewards_clear : (n : ℕ) → AllNone (rewards_entries (all_of_farm n) [] 0 (down ∷ queue ∷ []))
unfolding reward_code declared
rewards_clear n = (refl, none_append (reward_entries (all_of_farm n) down) (rewards_entries (all_of_farm n) (declared [] (codes "down") tt) 1 (queue ∷ [])) (down_reward_clear n) (refl, none_append (reward_entries (all_of_farm n) queue) [] (queue_reward_clear n) tt))

farm_entries_clear : (n : ℕ) → 2 ≤ n → n ≤ 1024 → AllNone (syntax_entries (farm_syntax n))
unfolding syntax_entries model_code declared known_of
farm_entries_clear n two few = (
  refl,
  none_append (models_entries [] 0 (cpu ∷ crew ∷ cpus n ∷ farm ∷ [])) (model_code (all_of_farm n) (codes "farm") ∷ rewards_entries (all_of_farm n) [] 0 (down ∷ queue ∷ [])) (models_clear n two few) (refl, rewards_clear n),
)

pub farm_has_no_fault : (n : ℕ) → 2 ≤ n → n ≤ 1024 → syntax_fault (farm_syntax n) ≡ None
farm_has_no_fault n two few = no_fault 0 (syntax_entries (farm_syntax n)) (farm_entries_clear n two few)
