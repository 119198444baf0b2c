-- What is known of the parts of a syntax that a text parses to and that has no fault.
use Rattle.std.proofs.Common.{◌≡◌, ℕ, ◌<◌, List, [], ◌∷◌, length, map, Option, None, All, get_or, refl, ap, arith}
use Rattle.std.proofs.lemmas.List.{length-map}
use Rattle.std.proofs.lemmas.Option.{slice_get_within}
use Rattle.std.specs.Option.{option_map}
use Rattle.san_text.specs.declared.syntax.Syntax.{Syntax}
use Rattle.san_tree.specs.declared.node.Node.TheVariants.{Leaf}
use Rattle.san_tree.specs.Places.{node_at}
use Rattle.san_net.specs.declared.part.Reward.{Reward}
use Rattle.san_check.specs.walk.Composition.{model_code, models_entries, all_models}
use Rattle.san_check.specs.walk.Reward.{rewards_entries}
use Rattle.san_check.specs.walk.Model.{syntax_entries, syntax_fault}
use Rattle.san_check.specs.build.Composition.{nodes_from, nodes_of, shown_of}
use Rattle.san_check.specs.build.Atomic.{atomics_from, atomics_of}
use Rattle.san_check.specs.build.Reward.{all_atomics, reward_of, rewards_of}
use Rattle.san_check.specs.build.Cells.{elements_of}
use Rattle.san_check.specs.Formed.{IsFormed}
use Rattle.san_check.specs.Composed.{IsComposed}
use Rattle.san_check.proofs.FreeLemmas.{Free, free_of, free_left, free_right}
use Rattle.san_check.proofs.TreeLemmas.{models_free, nodes_each}
use Rattle.san_check.proofs.OnceLemmas.{apart}
use Rattle.san_check.proofs.KeepsLemmas.{keeps}
use Rattle.san_check.proofs.AcceptedLemmas.{accepted}
use Rattle.san_check.proofs.AtomicLemmas.{none_known, atomics_known, atomics_few, rewards_on}
use Rattle.san_check.proofs.SpanLemmas.{AllFit, rewards_few, spans_good, atomics_fit, fit_known}
use Rattle.san_check.proofs.LeafLemmas.{LeafAt, initial_of, leaf_at, rows_each, rows_good, value_at}
use Rattle.san_check.proofs.ChildLemmas.{children_good}

-- the entries of a syntax without a fault have no code
pub record Passed (s : Syntax) : Type 0 where
  pub models : Free (models_entries [] 0 s.models)
  pub rewards : Free (rewards_entries (all_models [] s.models) [] 0 s.rewards)

passed : (s : Syntax) → syntax_fault s ≡ None → Passed s
unfolding syntax_entries
passed s h =
    let all = all_models [] s.models in
    let free = (free_of 0 (syntax_entries s) h).1 in
    let behind = free_right (models_entries [] 0 s.models) (model_code all s.system ∷ rewards_entries all [] 0 s.rewards) free in
    record { models = free_left (models_entries [] 0 s.models) (model_code all s.system ∷ rewards_entries all [] 0 s.rewards) free; rewards = behind.1 }

abbrev whole : Syntax → List Reward
whole s = map (reward_of (all_atomics [] s.models)) s.rewards

all_fit : (s : Syntax) → Passed s → All (AllFit (whole s)) (atomics_from s.rewards s.models)
all_fit s free = atomics_fit (all_models [] s.models) (all_atomics [] s.models) s.rewards s.models free.rewards

leaf_of : (s : Syntax) → Passed s → (n a : ℕ) → n < length (nodes_from (all_models [] s.models) 0 s.models) → node_at (nodes_from (all_models [] s.models) 0 s.models) n ≡ Leaf a → LeafAt s.rewards (all_models [] s.models) s.models 0 0 n a
leaf_of s free n a lt is =
    let all = all_models [] s.models in
    let many = nodes_each all 0 s.models in
    let few = models_free [] 0 s.models (omega arith) free.models in
    leaf_at s.rewards all [] 0 0 s.models refl refl (omega (arith, few)) free.models n a (omega (arith, lt, many)) is

leaves : (s : Syntax) → Passed s → (n a : ℕ) → n < length (nodes_from (all_models [] s.models) 0 s.models) → node_at (nodes_from (all_models [] s.models) 0 s.models) n ≡ Leaf a → a < length (atomics_from s.rewards s.models)
leaves s free n a lt is =
    let leaf = leaf_of s free n a lt is in
    let at = leaf.at in
    let within = slice_get_within (atomics_from s.rewards s.models) leaf.behind _ leaf.atomic in
    omega (arith, at, within)

abbrev pub shown_in : Syntax → ℕ → ℕ → Option ℕ
shown_in s n p = option_map initial_of (shown_of s n p)

pub composed_of : (s : Syntax) → IsFormed s → syntax_fault s ≡ None → IsComposed s.system (atomics_of s) (nodes_of s) (rewards_of s) (elements_of s)
unfolding nodes_of atomics_of rewards_of elements_of shown_of
composed_of s formed h =
    let free = passed s h in
    let all = all_models [] s.models in
    let names = all_atomics [] s.models in
    let intervals = all_fit s free in
    let few = rewards_few all [] 0 s.rewards (omega arith) free.rewards in
    let many = length-map s.rewards (reward_of names) in
    let children = children_good all [] 0 0 s.models formed.models free.models in
    record {
      accepted = accepted s formed h;
      few_rewards = omega (arith, few, many);
      spans = spans_good all [] names 0 s.rewards free.rewards;
      on = rewards_on all [] names 0 (length (atomics_from s.rewards s.models)) s.rewards (atomics_known [] [] s.models none_known) (let some = atomics_few s.rewards [] s.models in omega (arith, some)) free.rewards;
      known = λ k d lt. fit_known (whole s) (get_or (atomics_from s.rewards s.models) k d) (intervals k d lt);
      intervals = λ k d lt. (intervals k d lt).intervals;
      leaves = leaves s free;
      celled = rows_each s.rewards s.models;
      rows = rows_good s.rewards [] 0 s.models free.models;
      apart = apart s h;
      shown = shown_in s;
      keeps = λ n c p k e. ap (option_map initial_of) (keeps s h n c p k e);
      values = λ n a x c i p e lt is. value_at s.rewards all s.models n a (leaf_of s free n a lt is) x c i p e;
      named = formed.system;
      children_named = λ n. (children n).named;
      children_apart = λ n. (children n).apart;
    }
