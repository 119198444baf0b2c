use Rattle.std.proofs.Common.{◌∙◌, ap, sym, take, length, List, ℕ}
use Rattle.san_seq.proofs.FlaggedLemmas.{front_sized}
use Rattle.san_seq.proofs.stale.Flagged.list.Goals as goal

pub slice_bounds-result-end : goal.slice_bounds-result-end
slice_bounds-result-end c =
    front_sized c.self.inside.flags.items c.self.inside.list.items c.self.inside.count c.self.invariant
    ∙ ap (λ (xs : List ℕ). length (take c.self.inside.count xs)) (sym c.as_slice-list.ensures.value)
