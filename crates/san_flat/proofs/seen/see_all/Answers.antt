use Rattle.std.proofs.Common.{◌+◌, take}
use Rattle.san_flat.proofs.CodeLemmas.{all-fit, leaves-many, leaves-seen, too-many}
use Rattle.san_flat.specs.inner.Models.{homes_from, values_from}
use Rattle.san_flat.proofs.seen.see_all.Goals as goal

pub returns-then-not-branch : goal.returns-then-not-branch
returns-then-not-branch c =
    let m = c.args.model.now in
    let first = take (c.leaves.leaf-index + 1) c.args.leaves.now in
    leaves-many m c.args.leaves.now (c.leaves.leaf-index + 1) 65536
    (too-many c.in_ok-see_leaf.field-0 (homes_from m first) (values_from m first) c.see_leaf.new.seen c.if-not-branch.true (leaves-seen m c.args.leaves.now c.leaves.leaf-index c.leaf-item.result c.in_ok-see_leaf.field-0 c.leaves.seen c.see_leaf.new.seen c.leaves-test.true c.leaf-item.is c.in_ok-see_leaf.ensures c.leaves.invariant))

pub leaves-preserved : goal.leaves-preserved
leaves-preserved c =
    let m = c.args.model.now in
    let first = take (c.leaves.leaf-index + 1) c.args.leaves.now in
    all-fit c.in_ok-see_leaf.field-0 (homes_from m first) (values_from m first) c.see_leaf.new.seen c.if-not-branch.false (leaves-seen m c.args.leaves.now c.leaves.leaf-index c.leaf-item.result c.in_ok-see_leaf.field-0 c.leaves.seen c.see_leaf.new.seen c.leaves-test.true c.leaf-item.is c.in_ok-see_leaf.ensures c.leaves.invariant)
