use Rattle.std.proofs.Common.{ap, sym, ◌∙◌, arith, [], ◌≡◌}
use Rattle.std.proofs.lemmas.List.{take_all}
use Rattle.std.specs.Prelude.{slice_index_or}
use Rattle.san_tree.specs.Instances.{joined, copied}
use Rattle.san_tree.specs.inner.Walks.{earlier}
use Rattle.san_tree.proofs.WalkLemmas.{branch-more, more-leaves, joined-more, copied-more, all-walked, instances-get, instances-none, leaf-instance, nothing-more}
use Rattle.san_tree.proofs.instance.+walking.Goals as goal

pub walk_child-returns-in_ok-walk-clause-more : goal.walk_child-returns-in_ok-walk-clause-more
walk_child-returns-in_ok-walk-clause-more t c =
    branch-more c.args.nodes.now c.args.n c.args.child.node c.args.child.number c.args.path.now.items _ c.args.out.now.items _ c.if-child-n.true c.in_ok-push.ensures.items c.in_ok-walk.ensures.more

pub walk-children-preserved : goal.walk-children-preserved
walk-children-preserved t c =
    record {
      way = c.in_ok-walk_child-in-Some-Join.ensures.way ∙ c.children.invariant.way;
      sofar = more-leaves c.args.out.now.items c.children.out.items _ c.args.path.now.items c.children.path.items _ _ _ c.children.invariant.sofar c.in_ok-walk_child-in-Some-Join.ensures.more c.children.invariant.way (joined-more (earlier c.args.nodes.now c.args.n) c.as_slice-child-items.result.now c.children.c c.child-item.result c.children-test.true c.child-item.is);
    }

pub walk-copies-preserved : goal.walk-copies-preserved
walk-copies-preserved t c =
    record {
      way = c.in_ok-walk_child-in-Some-Rep.ensures.way ∙ c.copies.invariant.way;
      sofar = more-leaves c.args.out.now.items c.copies.out.items _ c.args.path.now.items c.copies.path.items _ _ _ c.copies.invariant.sofar c.in_ok-walk_child-in-Some-Rep.ensures.more c.copies.invariant.way (copied-more (slice_index_or (earlier c.args.nodes.now c.args.n) c.in-Some-Rep.node []) c.copies.c);
    }

pub walk-returns-in-None-clause-more : goal.walk-returns-in-None-clause-more
walk-returns-in-None-clause-more t c =
    nothing-more c.args.out.now.items c.args.path.now.items _ (instances-none c.args.nodes.now c.args.n c.in-None.ensures)

pub walk-returns-in_ok-push-in-Some-Leaf-clause-more : goal.walk-returns-in_ok-push-in-Some-Leaf-clause-more
walk-returns-in_ok-push-in-Some-Leaf-clause-more t c =
    let node = instances-get c.args.nodes.now c.args.n _ _ c.in-Some-Leaf.ensures c.in-Some-Leaf.field-0-is in
    let here = c.in_ok-here-in-Some-Leaf.ensures in
    c.in_ok-push-in-Some-Leaf.ensures.items ∙ leaf-instance c.args.out.now.items c.args.path.now.items c.in-Some-Leaf.atomic c.in_ok-here-in-Some-Leaf.here _ (here.0 ∙ c.as_slice.ensures.value, here.1) node

pub walk-returns-after-children-clause-more : goal.walk-returns-after-children-clause-more
walk-returns-after-children-clause-more t c =
    let node = instances-get c.args.nodes.now c.args.n _ _ c.in-Some-Join.ensures c.in-Some-Join.field-0-is in
    let all = take_all c.children.c c.as_slice-child-items.result.now c.children-test.false ∙ c.as_slice-child-items.ensures in
    all-walked c.args.out.now.items _ c.args.path.now.items _ _ c.children.invariant.sofar (ap (joined (earlier c.args.nodes.now c.args.n) 0) all ∙ sym node)

pub walk-returns-after-copies-clause-more : goal.walk-returns-after-copies-clause-more
walk-returns-after-copies-clause-more t c =
    let node = instances-get c.args.nodes.now c.args.n _ _ c.in-Some-Rep.ensures c.in-Some-Rep.field-0-is in
    let all : c.copies.c ≡ c.in-Some-Rep.times = omega (arith, c.copies.auto.c-end, c.copies-test.false) in
    all-walked c.args.out.now.items _ c.args.path.now.items _ _ c.copies.invariant.sofar (ap (copied (slice_index_or (earlier c.args.nodes.now c.args.n) c.in-Some-Rep.node []) 0) all ∙ sym node)
