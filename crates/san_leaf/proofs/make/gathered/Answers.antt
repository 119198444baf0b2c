use Rattle.std.proofs.Common.{ap, map, List, ◌≡◌, ◌∙◌}
use Rattle.san_net.specs.Leaf.{slot_in}
use Rattle.san_net.specs.declared.part.Part.{Part}
use Rattle.san_net.specs.declared.part.Slot.{Slot}
use Rattle.san_leaf.specs.States.{pair_in}
use Rattle.san_leaf.specs.inner.Cells.{noted}
use Rattle.san_leaf.proofs.LogLemmas.{noted_is_log}
use Rattle.san_leaf.proofs.make.gathered.Goals as goal

pub assemble-requires-clause-log : goal.assemble-requires-clause-log
assemble-requires-clause-log c =
    let slots : c.as_slice.result.now ≡ c.args.claim.now.part.slots = c.as_slice.ensures ∙ ap (λ (p : Part). p.slots) c.get.ensures in
    noted_is_log c.args.claim.now.part c.as_slice-2.result.now (map pair_in c.in_ok-log.log.items) c.as_slice-2.ensures.small
    (c.in_ok-log.ensures ∙ ap (λ (ss : List Slot). noted (map slot_in ss) c.as_slice-2.result.now) slots)
