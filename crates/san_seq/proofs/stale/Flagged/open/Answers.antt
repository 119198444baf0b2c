use Rattle.std.proofs.Common.{◌∙◌, sym, subst, ap, length, Bool, List}
use Rattle.std.proofs.lemmas.List.{length-replicate}
use Rattle.san_seq.specs.inner.Flagged.{IsListed}
use Rattle.san_seq.proofs.FlaggedLemmas.{none_listed}
use Rattle.san_seq.proofs.stale.Flagged.open.Goals as goal

pub invariant_of-result : goal.invariant_of-result
invariant_of-result c =
    subst (λ (fs : List Bool). IsListed fs c.in_ok-list.list.items 0) (sym c.in_ok-flags.ensures)
    (none_listed c.args.many c.in_ok-list.list.items (ap length c.in_ok-list.ensures ∙ length-replicate c.args.many 0))
