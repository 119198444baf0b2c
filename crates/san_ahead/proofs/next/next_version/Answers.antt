use Rattle.std.proofs.Common.{ℕ, suc, ◌-◌, ◌<◌, ◌≡◌, ◌∙◌, ap, arith, drop, length, map}
use Rattle.san_base.proofs.SameLemmas.{at_any}
use Rattle.san_book.specs.Nets.{shared_in}
use Rattle.san_book.specs.Plans.{next_version}
use Rattle.san_net.specs.Leaf.{slot_in}
use Rattle.san_ahead.specs.Aheads.{line_in, or_version}
use Rattle.san_ahead.proofs.NextLemmas.{versions_more}
use Rattle.san_ahead.proofs.next.next_version.Goals as goal

pub cells-preserved : goal.cells-preserved
cells-preserved c =
    let ls = map line_in c.args.lines.now in
    let one : c.cells.at ≡ suc (c.cells.at - 1) = omega (arith, c.cells-test.true) in
    let there : c.cells.at - 1 < length c.args.slots.now = omega (arith, c.cells-test.true, c.cells.invariant.within) in
    record {
      within = omega (arith, c.cells.invariant.within);
      least = c.or_version-least.ensures
          ∙ (ap (or_version ls c.args.leaf.0 c.args.after.0 (slot_in _)) (c.cells.invariant.least ∙ ap (λ (k : ℕ). next_version ls c.args.leaf.0 c.args.after.0 (shared_in (map slot_in (drop k c.args.slots.now)))) one)
          ∙ versions_more ls c.args.leaf.0 c.args.after.0 c.args.slots.now (c.cells.at - 1) _ (at_any c.args.slots.now (c.cells.at - 1) _ _ there) there);
    }

pub returns : goal.returns
returns c =
    let none : c.cells.at ≡ 0 = omega (arith, c.cells-test.false) in
    c.cells.invariant.least ∙ ap (λ (k : ℕ). next_version (map line_in c.args.lines.now) c.args.leaf.0 c.args.after.0 (shared_in (map slot_in (drop k c.args.slots.now)))) none
