use Rattle.std.proofs.Common.{◌++◌}
use Rattle.san_gen.specs.Texts.{lines_from, share_line}
use Rattle.san_gen.proofs.LineLemmas.{one_more}
use Rattle.san_gen.proofs.ring.push_shares.Goals as goal

pub stations-preserved : goal.stations-preserved
stations-preserved c =
    let before = c.stations.text.items in
    let after = c.push_share.new.text.items in
    let whole = c.args.text.now.items ++ lines_from (share_line c.args.copies) 0 c.args.copies in
    one_more (share_line c.args.copies) c.stations.station c.args.copies before after whole c.stations-test.true c.in_ok-push_share.ensures c.stations.invariant
