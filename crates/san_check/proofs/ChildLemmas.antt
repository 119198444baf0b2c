-- Without a fault the children of a join have names of their own, as names are written.
use Rattle.std.proofs.Common.{ℕ, zero, suc, ◌+◌, nat_le, List, [], ◌∷◌, map, IsTrue, All}
use Rattle.std.proofs.lemmas.List.Elements.{All-nil, All-head, All-tail, All-map}
use Rattle.san_text.specs.declared.syntax.ModelDecl.{ModelDecl}
use Rattle.san_text.specs.declared.syntax.ModelDecl.TheVariants as model
use Rattle.san_text.specs.declared.syntax.ChildDecl.{ChildDecl}
use Rattle.san_tree.specs.declared.node.Node.{Node}
use Rattle.san_tree.specs.Places.{node_at}
use Rattle.san_net.specs.Apart.{AreApart}
use Rattle.san_base.specs.Names.{is_name}
use Rattle.san_check.specs.Tables.{is_known}
use Rattle.san_check.specs.walk.Entries.{code}
use Rattle.san_check.specs.walk.Composition.{Models, Children, child_code, children_entries, with_child, all_children, shown_by, shares_entries, model_entries, models_entries, with_model}
use Rattle.san_check.specs.build.Composition.{child_of, node_of, atomics_after, nodes_from}
use Rattle.san_check.specs.Composed.{children_of}
use Rattle.san_check.specs.Formed.{IsFormedModel}
use Rattle.san_check.proofs.FreeLemmas.{Free, free_left, free_right, code_free, else_first}
use Rattle.san_check.proofs.FreshLemmas.{Fresh, none_fresh, fresh_more, none_apart}

abbrev Child : Type 0
Child = List ℕ × ℕ

abbrev IsNamed : Child → Type 0
IsNamed c = IsTrue (is_name c.0)

children_fresh : (all models : Models) (children : Children) (n : ℕ) (cs : List ChildDecl) → Free (children_entries models children n cs) → Fresh children (map (λ (c : Child). c.0) (map (child_of all) cs))
unfolding child_code
children_fresh all models children n [] f = none_fresh children
children_fresh all models children n (c ∷ cs) f =
    fresh_more children c.name (shown_by models c.of) (map (λ (d : Child). d.0) (map (child_of all) cs)) (code_free 20 (is_known children c.name) (else_first (code 20 (is_known children c.name)) (code 43 (nat_le 1024 n)) f.0))
    (children_fresh all models (with_child models children c) (n + 1) cs f.1.1)

pub record GoodChildren (node : Node) : Type 0 where
  pub named : All (λ c. IsTrue (is_name c.0)) (children_of node)
  pub apart : AreApart (map (λ c. c.0) (children_of node))

node_children : (all known : Models) (atomics : ℕ) (m : ModelDecl) → IsFormedModel m → Free (model_entries known m) → GoodChildren (node_of all atomics m)
unfolding model_entries node_of
node_children all known atomics (model.Atomic name places acts) formed f = record { named = All-nil IsNamed; apart = none_apart }
node_children all known atomics (model.Join name children shares) formed f = record {
  named = All-map IsNamed (child_of all) children formed;
  apart = (children_fresh all known [] 0 children (free_left (children_entries known [] 0 children) (shares_entries (all_children known [] children) [] [] 0 shares) f)).apart;
}
node_children all known atomics (model.Rep name of times shares) formed f = record { named = All-nil IsNamed; apart = none_apart }

pub children_good : (all known : Models) (first atomics : ℕ) (ms : List ModelDecl) → All IsFormedModel ms → Free (models_entries known first ms) → (n : ℕ) → GoodChildren (node_at (nodes_from all atomics ms) n)
children_good all known first atomics [] formed f n = record { named = All-nil IsNamed; apart = none_apart }
children_good all known first atomics (m ∷ ms) formed f zero = node_children all known atomics m (All-head IsFormedModel m ms formed) (free_left (model_entries known m) (models_entries (with_model known m) (first + 1) ms) f.1)
children_good all known first atomics (m ∷ ms) formed f (suc n) =
    children_good all (with_model known m) (first + 1) (atomics_after atomics m) ms (All-tail IsFormedModel m ms formed) (free_right (model_entries known m) (models_entries (with_model known m) (first + 1) ms) f.1) n
