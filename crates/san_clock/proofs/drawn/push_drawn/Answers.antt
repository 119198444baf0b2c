use Rattle.std.proofs.Common.{◌∙◌, ◌++◌, ◌∷◌, [], length, nat_lt, ap, sym, arith, append-nil}
use Rattle.std.proofs.lemmas.List.{take_all}
use Rattle.san_clock.specs.Drawn.{drawn_in}
use Rattle.san_clock.proofs.DrawnLemmas.{drawn_more}
use Rattle.san_clock.proofs.drawn.push_drawn.Goals as goal

pub acts-init : goal.acts-init
acts-init c = sym (append-nil c.args.drawn.now.items)

pub acts-preserved : goal.acts-preserved
acts-preserved c =
    drawn_more c.args.acts.now c.acts.act-index c.act-item.result c.acts.drawn.items c.args.drawn.now.items c.push-in-acts.new.self.items
    (omega (arith, c.acts-test.true)) c.act-item.is c.acts.invariant
    (c.in_ok-push-2.ensures.items
    ∙ ap (λ n. c.push.new.self.items ++ nat_lt 1 n ∷ []) c.len.ensures
    ∙ ap (λ bs. bs ++ nat_lt 1 (length c.act-item.result.1.cases) ∷ []) (c.in_ok-push.ensures.items ∙ ap (λ b. c.acts.drawn.items ++ b ∷ []) c.is_drawn.ensures))

pub returns : goal.returns
returns c =
    c.acts.invariant ∙ ap (λ acts. c.args.drawn.now.items ++ drawn_in acts) (take_all c.acts.act-index c.args.acts.now c.acts-test.false)
