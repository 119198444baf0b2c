use Rattle.std.proofs.Common.{List, ℕ, map, ap, ◌∙◌, arith}
use Rattle.san_lex.specs.Pieces.{located}
use Rattle.san_text.specs.declared.text.Before.TheVariants as before
use Rattle.san_text.specs.Texts.{spots_after}
use Rattle.san_text.proofs.SpotLemmas.{spot_counted, spot_skipped}
use Rattle.san_text.proofs.text.spots_of.Goals as goal
use Rattle.san_text.proofs.text.spots_of.Goals.{then-is_counted+in_ok-push, else-is_counted}

pub next-preserved : goal.next-preserved
next-preserved c =
    let total : List ℕ = spots_after before.Other (map (located c.args.text.now) c.args.tokens.now) in
    elim c.if-is_counted.branch [
      | then-is_counted+in_ok-push w ↦ spot_counted c.args.text.now c.args.tokens.now c.next.token-index _ c.next.before c.after_word-before.result c.next.found.items c.if-is_counted.found.items c.is_counted.result total
          (omega arith) (c.is_counted.ensures c.args.text.now) w.if-is_counted.true (c.after_word-before.ensures c.args.text.now) (ap (λ v. v.items) w.found-is ∙ w.in_ok-push.ensures.items) c.next.invariant
      | else-is_counted w ↦ spot_skipped c.args.text.now c.args.tokens.now c.next.token-index _ c.next.before c.after_word-before.result c.next.found.items c.if-is_counted.found.items c.is_counted.result total
          (omega arith) (c.is_counted.ensures c.args.text.now) w.if-is_counted.false (c.after_word-before.ensures c.args.text.now) (ap (λ v. v.items) w.found-is) c.next.invariant
    ]
