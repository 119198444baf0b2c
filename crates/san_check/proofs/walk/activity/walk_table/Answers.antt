use Rattle.san_base.proofs.SameLemmas.{at_any}
use Rattle.std.proofs.Common.{◌≡◌, ◌+◌, ◌-◌, length, drop, get_or, refl, ap, ◌∙◌, arith, length-drop}
use Rattle.san_check.specs.inner.Walks.{seen_all}
use Rattle.san_check.proofs.LoopLemmas.{entries_turn}
use Rattle.san_check.specs.walk.Activity.{choice_entries, table_entries, summed}
use Rattle.san_check.proofs.walk.activity.walk_table.Goals as goal

pub entries-preserved : goal.entries-preserved
entries-preserved c =
    let d = get_or c.args.entries.now c.entries.n (0, 0) in
    let more : length c.args.entries.now - c.entries.n - 1 ≡ length (drop (c.entries.n + 1) c.args.entries.now) = omega (arith, length-drop (c.entries.n + 1) c.args.entries.now) in
    entries_turn (λ sum n es. table_entries n sum es) (λ sum n more e. choice_entries n sum more e) (λ sum e. summed sum e.1) (λ sum n e es. refl)
    c.args.entries.now c.entries.n d c.entries.sum c.walk_choice-sum.result c.entries.walk c.walk_choice-sum.new.walk (seen_all c.args.walk.now (table_entries 0 0 c.args.entries.now))
    c.entries-test.true (at_any c.args.entries.now c.entries.n (0, 0) d c.entries-test.true) (c.walk_choice-sum.ensures.entries ∙ ap (λ m. seen_all c.entries.walk (choice_entries c.entries.n c.entries.sum m d)) more) c.walk_choice-sum.ensures.sum c.entries.invariant
