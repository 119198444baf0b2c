use Rattle.std.proofs.Common.{rules}
use Rattle.san_report.proofs.path.act_name.Goals as goal

pub overflow_sub-act : goal.overflow_sub-act
overflow_sub-act c = (c.leaf_of.ensures.act c.get-part.result.now (search rules)).0
