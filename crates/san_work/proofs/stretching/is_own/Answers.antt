use Rattle.std.proofs.Common.{◌∙◌}
use Rattle.san_work.proofs.stretching.is_own.Goals as goal

pub returns : goal.returns
returns c t =
    let h = c.is_of.ensures.0 t in
    record { network = h.0 ∙ c.get.ensures; seed = h.1; limits = h.2; start = h.3 }
