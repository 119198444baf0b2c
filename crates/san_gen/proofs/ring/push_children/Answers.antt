use Rattle.std.proofs.Common.{◌++◌}
use Rattle.san_gen.specs.Texts.{child_line, lines_from}
use Rattle.san_gen.proofs.LineLemmas.{one_more}
use Rattle.san_gen.proofs.ring.push_children.Goals as goal

pub stations-preserved : goal.stations-preserved
stations-preserved c =
    let before = c.stations.text.items in
    let after = c.push_child.new.text.items in
    let whole = c.args.text.now.items ++ lines_from child_line 0 c.args.copies in
    one_more child_line c.stations.station c.args.copies before after whole c.stations-test.true c.in_ok-push_child.ensures c.stations.invariant
