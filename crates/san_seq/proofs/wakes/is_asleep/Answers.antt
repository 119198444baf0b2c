use Rattle.std.proofs.Common.{◌∙◌, ap, sym, subst, length, map, List, Some, Ok}
use Rattle.san_base.proofs.NumberTests.{some_same}
use Rattle.san_expr.specs.Meets.{Evaluates}
use Rattle.san_law.specs.Lawful.{AllBelow}
use Rattle.san_net.specs.First.{first_of}
use Rattle.san_net.specs.Laid.{place_of}
use Rattle.san_net.specs.declared.first.FirstInstant.{FirstInstant}
use Rattle.san_net.specs.declared.part.Part.{Part}
use Rattle.san_net.specs.declared.part.Slot.{Slot}
use Rattle.san_net.proofs.PartLemmas.{lies_over}
use Rattle.san_seq.specs.inner.Known.{IsAsleep}
use Rattle.san_seq.specs.inner.Looks.{view_state_of}
use Rattle.san_seq.proofs.LooksLemmas.{sleeps}
use Rattle.san_seq.proofs.NextLemmas.{fits}
use Rattle.san_seq.proofs.wakes.is_asleep.Goals as goal

pub load-requires-clause-over : goal.load-requires-clause-over
load-requires-clause-over c =
    let at = c.part.ensures ∙ ap (λ (p : Part). Some p) (sym c.get-part.ensures) in
    subst (λ (ss : List Slot). AllBelow (map place_of ss) (length c.args.marking.now)) (sym c.as_slice-slots.ensures)
    (lies_over c.args.flat.now c.args.leaf.0 c.get-part.result.now at c.args.marking.now c.requires.sized c.is_network.ensures.laid).within

pub first_instant-requires : goal.first_instant-requires
first_instant-requires c =
    let q = c.get-part.result.now in
    let at = c.part.ensures ∙ ap (λ (p : Part). Some p) (sym c.get-part.ensures) in
    fits q c.as_slice-slots.result.now c.args.marking.now c.load.new.self.values c.as_slice-slots.ensures c.load.ensures.values c.get.result.now c.get.ensures (c.is_network.ensures.network.accepted c.args.leaf.0 q at)
    (c.is_network.ensures.network.slotted c.args.leaf.0 q at).each

pub returns-in-None : goal.returns-in-None
returns-in-None c = λ p is so.
    let q = c.get-part.result.now in
    let at = c.part.ensures ∙ ap (λ (x : Part). Some x) (sym c.get-part.ensures) in
    let did = subst (λ (r : FirstInstant). Evaluates (view_state_of c.load.new.self) (view_state_of c.first_instant.new.view) (first_of c.get.result.now) (Ok r)) c.in-None.is c.first_instant.ensures in
    subst (λ (x : Part). IsAsleep c.args.flat.now.shared x c.args.marking.now) (some_same q p (sym at ∙ is))
    (sleeps c.args.flat.now.shared q c.as_slice-slots.result.now c.args.marking.now c.load.new.self c.first_instant.new.view c.get.result.now c.as_slice-slots.ensures c.get.ensures c.load.ensures.values
    (c.is_network.ensures.network.slotted c.args.leaf.0 q at).tagged did (c.saw_own.ensures so))
