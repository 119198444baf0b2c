-- The nodes of a syntax without a fault make a tree.
use Rattle.san_base.proofs.Bools.{not_false}
use Rattle.san_base.proofs.Lists.{nothing_behind}
use Rattle.std.proofs.Common.{◌≡◌, ℕ, zero, suc, ◌+◌, ◌<◌, ◌≤◌, Bool, true, false, cond, not, List, [], ◌∷◌, ◌++◌, length, map, Option, Some, None, is_some, nat_le, nat_lt, refl, sym, ap, subst, ◌∙◌, true≢false, arith, append_assoc, length-append}
use Rattle.std.proofs.lemmas.List.{length-map}
use Rattle.std.proofs.lemmas.List.Elements.{All-cons, All-map}
use Rattle.std.specs.Option.{option_map}
use Rattle.std.specs.Prelude.{unwrap_or, slice_index_or}
use Rattle.std.specs.List.{All, position_or_len}
use Rattle.std.specs.Map.{keys_of, lookup}
use Rattle.std.specs.Str.{bytes_eq}
use Rattle.san_text.specs.declared.syntax.Syntax.{Syntax}
use Rattle.san_text.specs.declared.syntax.ModelDecl.{ModelDecl}
use Rattle.san_text.specs.declared.syntax.ModelDecl.TheVariants as model
use Rattle.san_text.specs.declared.syntax.ChildDecl.{ChildDecl}
use Rattle.san_text.specs.declared.syntax.ShareDecl.{ShareDecl}
use Rattle.san_tree.specs.declared.node.Node.{Node}
use Rattle.san_tree.specs.Places.{node_at}
use Rattle.san_tree.specs.Trees.{named, IsNode, IsTree}
use Rattle.san_check.specs.declared.walk.Fault.{Fault}
use Rattle.san_check.specs.Tables.{Table, Pairs, is_known, declared, all_paired}
use Rattle.san_check.specs.walk.Entries.{code, ◌else◌, reported}
use Rattle.san_check.specs.walk.Expression.{Places}
use Rattle.san_check.specs.walk.Composition.{Models, Children, child_code, model_code, children_entries, with_child, all_children, shown_by, first_place, parts_entries, share_code, shares_entries, with_share, shown_code, shown_entries, with_shown, name_code, name_of, known_of, model_entries, models_entries, with_model, all_models}
use Rattle.san_check.specs.walk.Reward.{rewards_entries}
use Rattle.san_check.specs.walk.Model.{syntax_entries, syntax_fault}
use Rattle.san_check.specs.build.Composition.{number, child_of, share_of, node_of, atomics_after, nodes_from, nodes_of, root_of}
use Rattle.san_check.proofs.TableLemmas.{declared_last, declared_known}
use Rattle.san_check.proofs.FreeLemmas.{Free, free_of, free_left, free_right, code_free, else_second, room}

-- tables grow behind what they have
grown_by : {V : Type 0} (b : Bool) (t : Table V) (name : List ℕ) (v : V) → is_known t name ≡ b → (rest : Table V) × (declared t name v ≡ t ++ rest) × (length (declared t name v) ≤ suc (length t))
grown_by true t name v h = ([], declared_known t name v h ∙ sym (nothing_behind t), subst (λ u. length u ≤ suc (length t)) (sym (declared_known t name v h)) (omega arith))
grown_by false t name v h = ((name, v) ∷ [], declared_last t name v h, subst (λ u. length u ≤ suc (length t)) (sym (declared_last t name v h)) (omega (arith, length-append t ((name, v) ∷ []))))

pub grows : {V : Type 0} (t : Table V) (name : List ℕ) (v : V) → (rest : Table V) × (declared t name v ≡ t ++ rest) × (length (declared t name v) ≤ suc (length t))
grows t name v = grown_by (is_known t name) t name v refl

pub models_grow : (t : Models) (ms : List ModelDecl) → (rest : Models) × (all_models t ms ≡ t ++ rest)
models_grow t [] = ([], sym (nothing_behind t))
models_grow t (m ∷ ms) =
    let one = grows t (name_of m) (known_of t m) in
    let more = models_grow (with_model t m) ms in
    (one.0 ++ more.0, more.1 ∙ ap (λ u. u ++ more.0) one.1 ∙ append_assoc t one.0 more.0)

pub models_few : (t : Models) (ms : List ModelDecl) → length (all_models t ms) ≤ length t + length ms
models_few t [] = omega arith
models_few t (m ∷ ms) = let one = (grows t (name_of m) (known_of t m)).2 in let more = models_few (with_model t m) ms in omega (arith, one, more)

-- a name that is known stands among the first
pub here : {V : Type 0} (b : Bool) (v : V) (o : Option V) (p l : ℕ) → is_some (cond b (Some v) o) ≡ true → (is_some o ≡ true → p < l) → cond (not b) (1 + p) 0 < suc l
here true v o p l h more = omega arith
here false v o p l h more = let k = more h in omega (arith, k)

stands : {V : Type 0} (t rest : Table V) (name : List ℕ) → is_known t name ≡ true → position_or_len (bytes_eq name) (keys_of (t ++ rest)) < length t
stands [] rest name h = absurd (true≢false (sym h))
stands (e ∷ t) rest name h = here (bytes_eq name e.0) e.1 (lookup (bytes_eq name) t) (position_or_len (bytes_eq name) (keys_of (t ++ rest))) (length t) h (stands t rest name)

at_most : (b : Bool) (n : ℕ) → unwrap_or (cond b (Some n) None) 0 ≤ n
at_most true n = omega arith
at_most false n = omega arith

pub number_below : {V : Type 0} (t rest all : Table V) (name : List ℕ) → all ≡ t ++ rest → is_known t name ≡ true → number all name < length t
number_below t rest all name is h =
    let p = position_or_len (bytes_eq name) (keys_of (t ++ rest)) in
    let below = stands t rest name h in
    let most = at_most (nat_lt p (length (keys_of (t ++ rest)))) p in
    subst (λ u. number u name < length t) (sym is) (omega (arith, below, most))

-- children and shares are few, and the models of the children known
pub children_free : (models : Models) (children : Children) (n : ℕ) (cs : List ChildDecl) → n ≤ 1024 → Free (children_entries models children n cs) → (n + length cs ≤ 1024) × All (λ c. is_known models c.of ≡ true) cs
unfolding child_code model_code
children_free models children n [] lt h = (omega arith, λ k d bad. absurd (omega arith))
children_free models children n (c ∷ cs) lt h =
    let fits = room 1024 n 43 (else_second (code 20 (is_known children c.name)) (code 43 (nat_le 1024 n)) h.0) in
    let more = children_free models (with_child models children c) (n + 1) cs (omega (arith, fits)) h.1.1 in
    (omega (arith, more.0), All-cons (λ c. is_known models c.of ≡ true) c cs (not_false (is_known models c.of) (code_free 22 (not (is_known models c.of)) h.1.0)) more.1)

pub shares_free : (children : Children) (shares : Places) (taken : Pairs) (n : ℕ) (ss : List ShareDecl) → n ≤ 1024 → Free (shares_entries children shares taken n ss) → n + length ss ≤ 1024
unfolding share_code
shares_free children shares taken n [] lt h = omega arith
shares_free children shares taken n (s ∷ ss) lt h =
    let fits = room 1024 n 44 (else_second (code 20 (is_known shares s.name)) (code 44 (nat_le 1024 n)) h.0) in
    let rest = free_right (parts_entries children taken (first_place children s.parts) [] s.parts) (shares_entries children (with_share children shares s) (all_paired taken s.parts) (n + 1) ss) h.1 in
    let more = shares_free children (with_share children shares s) (all_paired taken s.parts) (n + 1) ss (omega (arith, fits)) rest in
    omega (arith, more)

pub shown_free : (places shares : Places) (n : ℕ) (ss : List (List ℕ)) → n ≤ 1024 → Free (shown_entries places shares n ss) → n + length ss ≤ 1024
unfolding shown_code
shown_free places shares n [] lt h = omega arith
shown_free places shares n (s ∷ ss) lt h =
    let fits = room 1024 n 44 (else_second (code 30 (not (is_known places s))) (code 44 (nat_le 1024 n)) (else_second (code 20 (is_known shares s)) (code 30 (not (is_known places s)) else code 44 (nat_le 1024 n)) h.0)) in
    let more = shown_free places (with_shown places shares s) (n + 1) ss (omega (arith, fits)) h.1 in
    omega (arith, more)

-- the node of a model names only earlier nodes
node_is : (all known rest : Models) (k atomics : ℕ) (m : ModelDecl) → all ≡ known ++ rest → length known ≤ k → Free (model_entries known m) → IsNode k (node_of all atomics m)
unfolding model_entries node_of model_code
node_is all known rest k atomics (model.Atomic name places acts) is few h = record { earlier = λ i d bad. absurd (omega arith); few_children = omega arith; few_shares = omega arith }
node_is all known rest k atomics (model.Join name children shares) is few h =
    let cs = children_free known [] 0 children (omega arith) (free_left (children_entries known [] 0 children) (shares_entries (all_children known [] children) [] [] 0 shares) h) in
    let ss = shares_free (all_children known [] children) [] [] 0 shares (omega arith) (free_right (children_entries known [] 0 children) (shares_entries (all_children known [] children) [] [] 0 shares) h) in
    record {
      earlier = All-map (λ i. i < k) (λ child. child.1) (map (child_of all) children) (All-map (λ child. child.1 < k) (child_of all) children
          (λ i d lt. let below = number_below known rest all (slice_index_or children i d).of is (cs.1 i d lt) in omega (arith, below)));
      few_children = let a = length-map (map (child_of all) children) (λ child. child.1) in let b = length-map children (child_of all) in omega (arith, a, b, cs.0);
      few_shares = let a = length-map shares (share_of (all_children all [] children)) in omega (arith, a, ss);
    }
node_is all known rest k atomics (model.Rep name of times shares) is few h =
    let ss = shown_free (shown_by known of) [] 0 shares (omega arith) h.1.1 in
    let below = number_below known rest all of is (not_false (is_known known of) (code_free 22 (not (is_known known of)) h.0)) in
    record {
      earlier = All-cons (λ i. i < k) (number all of) [] (omega (arith, below)) (λ i d bad. absurd (omega arith));
      few_children = omega arith;
      few_shares = let a = length-map shares (number (shown_by all of)) in omega (arith, a, ss);
    }

-- each node, where so many models stand before the first
nodes_are : (all known : Models) (k atomics : ℕ) (ms : List ModelDecl) → all ≡ all_models known ms → length known ≤ k → Free (models_entries known k ms) → (i : ℕ) → IsNode (k + i) (node_at (nodes_from all atomics ms) i)
nodes_are all known k atomics [] is few h i = record { earlier = λ j d bad. absurd (omega arith); few_children = omega arith; few_shares = omega arith }
nodes_are all known k atomics (m ∷ ms) is few h zero =
    let grown = models_grow known (m ∷ ms) in
    subst (λ n. IsNode n (node_of all atomics m)) (omega arith) (node_is all known grown.0 k atomics m (is ∙ grown.1) few (free_left (model_entries known m) (models_entries (with_model known m) (k + 1) ms) h.1))
nodes_are all known k atomics (m ∷ ms) is few h (suc i) =
    let one = (grows known (name_of m) (known_of known m)).2 in
    subst (λ n. IsNode n (node_at (nodes_from all (atomics_after atomics m) ms) i)) (omega arith)
    (nodes_are all (with_model known m) (k + 1) (atomics_after atomics m) ms is (omega (arith, one)) (free_right (model_entries known m) (models_entries (with_model known m) (k + 1) ms) h.1) i)

pub models_free : (known : Models) (k : ℕ) (ms : List ModelDecl) → k ≤ 256 → Free (models_entries known k ms) → k + length ms ≤ 256
unfolding name_code
models_free known k [] lt h = omega arith
models_free known k (m ∷ ms) lt h =
    let fits = room 256 k 42 (else_second (code 20 (is_known known (name_of m))) (code 42 (nat_le 256 k)) h.0) in
    let more = models_free (with_model known m) (k + 1) ms (omega (arith, fits)) (free_right (model_entries known m) (models_entries (with_model known m) (k + 1) ms) h.1) in
    omega (arith, more)

pub nodes_each : (all : Models) (atomics : ℕ) (ms : List ModelDecl) → length (nodes_from all atomics ms) ≡ length ms
nodes_each all atomics [] = refl
nodes_each all atomics (m ∷ ms) = ap suc (nodes_each all (atomics_after atomics m) ms)

-- without a fault the nodes make a tree
pub is_tree : (s : Syntax) → syntax_fault s ≡ None → IsTree (nodes_of s) (root_of s)
unfolding syntax_entries nodes_of root_of model_code
is_tree s h =
    let all = all_models [] s.models in
    let free = (free_of 0 (syntax_entries s) h).1 in
    let models = free_left (models_entries [] 0 s.models) (model_code all s.system ∷ rewards_entries all [] 0 s.rewards) free in
    let behind = free_right (models_entries [] 0 s.models) (model_code all s.system ∷ rewards_entries all [] 0 s.rewards) free in
    let few = models_free [] 0 s.models (omega arith) models in
    let many = nodes_each all 0 s.models in
    let root = number_below all [] all s.system (sym (nothing_behind all)) (not_false (is_known all s.system) (code_free 22 (not (is_known all s.system)) behind.0)) in
    let short = models_few [] s.models in
    record {
      few = omega (arith, few, many);
      there = omega (arith, root, short, many);
      each = λ n. subst (λ i. IsNode i (node_at (nodes_from all 0 s.models) n)) (omega arith) (nodes_are all [] 0 0 s.models refl (omega arith) models n);
    }

none_reported : (o : Option Fault) → option_map reported o ≡ None → o ≡ None
none_reported None h = refl
none_reported (Some f) h = absurd (true≢false (ap is_some h))

pub passes : (s : Syntax) (found : Option Fault) → found ≡ option_map reported (syntax_fault s) → found ≡ None → syntax_fault s ≡ None
passes s found h n = none_reported (syntax_fault s) (sym h ∙ n)

pub made_tree : (s : Syntax) (models : Models) (decls : List ModelDecl) (system : List ℕ) (nodes : List Node) (root : ℕ) → syntax_fault s ≡ None → models ≡ all_models [] s.models → decls ≡ s.models → system ≡ s.system
    → nodes ≡ nodes_from models 0 decls → root ≡ number models system → IsTree nodes root
unfolding nodes_of root_of
made_tree s models decls system nodes root free is same named made at =
    let one : nodes ≡ nodes_of s = made ∙ ap (λ (t : Models). nodes_from t 0 decls) is ∙ ap (nodes_from (all_models [] s.models) 0) same in
    let two : root ≡ root_of s = at ∙ ap (λ (t : Models). number t system) is ∙ ap (number (all_models [] s.models)) named in
    subst (λ (r : ℕ). IsTree nodes r) (sym two) (subst (λ (ns : List Node). IsTree ns (root_of s)) (sym one) (is_tree s free))
