use Rattle.std.proofs.Common.{◌∙◌, length, subst}
use Rattle.std.specs.Prelude.{IfSome}
use Rattle.indexmap.specs.IndexMap.{get}
use Rattle.san_tree.proofs.SharedLemmas.{at_part}
use Rattle.san_tree.specs.declared.node.Node.TheVariants.{Leaf}
use Rattle.san_tree.specs.inner.Shared.{Knows, same_part}
use Rattle.san_tree.proofs.home.shared_at.Goals as goal

pub returns-in-Some : goal.returns-in-Some
returns-in-Some c = record { value = c.copied.ensures ∙ c.get-in-Some.ensures.value ∙ at_part c.args.nodes.now c.args.n c.in_ok-node.node.now c.args.child c.args.place c.child_key.result (get same_part c.in-Some.table.now) c.child_key.ensures c.in_ok-node.ensures.lookup.3.0 (c.in_ok-node.ensures.lookup.3.1 (Leaf 0)) (subst (λ o. IfSome o (λ t. Knows c.args.nodes.now (length c.args.nodes.now) (get same_part t.now))) c.in-Some.is c.requires.table) }
