use Rattle.std.proofs.Common.{◌++◌, ◌*◌}
use Rattle.san_lex.specs.Layout.{spaces}
use Rattle.san_show.proofs.PageLemmas.{spaces_turn}
use Rattle.san_show.proofs.page.push_indent.Goals as goal

pub next-preserved : goal.next-preserved
next-preserved c = spaces_turn c.next.left c.next.bytes.items c.extend_from_slice.new.self.items (c.args.bytes.now.items ++ spaces (2 * c.args.levels)) c.next-test.true c.in_ok-extend_from_slice.ensures.items c.next.invariant
