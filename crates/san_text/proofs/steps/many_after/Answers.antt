use Rattle.std.proofs.Common.{◌≡◌, ◌-◌, List, sym, subst, ◌∙◌, arith, inl, inr, ap, Ok, length}
use Rattle.std.proofs.lemmas.Result.{err_from_is_err_and}
use Rattle.san_text.specs.Steps.{many, gathered}
use Rattle.san_text.proofs.ManyLemmas.{turn_goes_on, turns_end}
use Rattle.san_text.proofs.LoopLemmas.{loop_fails}
use Rattle.san_text.proofs.steps.many_after.Goals as goal
use Rattle.san_text.proofs.steps.many_after.Goals.{then-next-test+else-starts, else-next-test}

pub next-preserved : goal.next-preserved
next-preserved g c =
    let item = g.T.Item.reading c.args.version c.args.braces in
    let total = gathered c.args.found.items (many g.T.Item.starting item (length c.args.words) c.args.words) in
    subst (λ (xs : List _). gathered xs (many g.T.Item.starting item (c.next.turns - 1) c.in_ok-x.after) ≡ total) (sym c.in_ok-push.ensures.more)
    (turn_goes_on g.T.Item.starting item c.next.found.items c.next.turns c.next.rest c.in_ok-x.x c.in_ok-x.after total
    (omega arith) (sym c.starts.ensures ∙ c.if-starts.true) c.in_ok-x.ensures c.next.invariant)

pub returns-in_err-x : goal.returns-in_err-x
returns-in_err-x g c =
    let item = g.T.Item.reading c.args.version c.args.braces in
    let p = err_from_is_err_and c.from_residual.result c.from_residual.ensures.1 in
    rw (p.1, p.2) (loop_fails _ g.T.Item.starting item c.next.found.items c.next.turns c.next.rest (gathered c.args.found.items (many g.T.Item.starting item (length c.args.words) c.args.words))
    (omega arith) (sym c.starts.ensures ∙ c.if-starts.true) c.in_err-x.ensures c.next.invariant)

pub returns : goal.returns
returns g c =
    let item = g.T.Item.reading c.args.version c.args.braces in
    turns_end g.T.Item.starting item c.next.found.items c.next.turns c.next.rest (gathered c.args.found.items (many g.T.Item.starting item (length c.args.words) c.args.words))
    (elim c.next-test.branch [ then-next-test+else-starts w ↦ inr (sym w.starts.ensures ∙ w.if-starts.false) | else-next-test w ↦ inl (omega arith) ])
    c.next.invariant
    ∙ ap (λ (xs : List _). Ok (xs, c.next.rest)) (sym c.from_vec.ensures)
