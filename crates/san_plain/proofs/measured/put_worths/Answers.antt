use Rattle.std.proofs.Common.{◌++◌, ◌∷◌, [], ◌∙◌, ap, arith, take, length, List, Option}
use Rattle.san_reward.specs.declared.worth.Worth.{Worth}
use Rattle.san_report.specs.Closings.{worths_by}
use Rattle.san_plain.specs.Measures.{worths_from}
use Rattle.san_plain.proofs.MeasureLemmas.{worth_more}
use Rattle.san_plain.proofs.measured.put_worths.Goals as goal

pub each-preserved : goal.each-preserved
each-preserved c =
    let xs = c.args.flat.now.rewards in
    let w = worths_by c.args.tally.now c.args.ending in
    c.in_ok-push.ensures.items
    ∙ (ap (λ (ys : List (Option Worth)). ys ++ c.worth_at.result ∷ []) c.each.invariant
    ∙ (ap (λ (v : Option Worth). worths_from (take c.each.at xs) 0 w ++ v ∷ []) c.worth_at.ensures
    ∙ worth_more xs c.each.at w (omega (arith, c.each-test.true, ap length c.rewards-at-end.ensures))))
