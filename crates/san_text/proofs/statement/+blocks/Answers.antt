use Rattle.std.proofs.Common.{◌≡◌, ◌-◌, List, sym, subst, ◌∙◌, arith, inl, inr, ap, Ok, length}
use Rattle.std.proofs.lemmas.Result.{err_from_is_err_and}
use Rattle.san_text.specs.Steps.{many, gathered}
use Rattle.san_text.specs.Statements.{starts_stmt, stmt_at, block}
use Rattle.san_text.specs.declared.syntax.StmtDecl.{StmtDecl}
use Rattle.san_text.proofs.ManyLemmas.{turn_goes_on, turns_end}
use Rattle.san_text.proofs.LoopLemmas.{loop_fails}
use Rattle.san_text.proofs.statement.+blocks.Goals as goal
use Rattle.san_text.proofs.statement.+blocks.Goals.{statements-then-next-test+else-starts, statements-else-next-test}

pub statements-next-preserved : goal.statements-next-preserved
statements-next-preserved t c =
    let item = stmt_at c.args.version (block c.args.version c.args.braces) in
    let total = many starts_stmt item (length c.args.words) c.args.words in
    subst (λ (xs : List StmtDecl). gathered xs (many starts_stmt item (c.next.turns - 1) c.in_ok-x.after) ≡ total) (sym c.in_ok-push.ensures.more)
    (turn_goes_on starts_stmt item c.next.found.items c.next.turns c.next.rest c.in_ok-x.x c.in_ok-x.after total
    (omega arith) (sym c.starts.ensures ∙ c.if-starts.true) c.in_ok-x.ensures c.next.invariant)

pub statements-returns-in_err-x : goal.statements-returns-in_err-x
statements-returns-in_err-x t c =
    let item = stmt_at c.args.version (block c.args.version c.args.braces) in
    let p = err_from_is_err_and c.from_residual.result c.from_residual.ensures.1 in
    rw (p.1, p.2) (loop_fails _ starts_stmt item c.next.found.items c.next.turns c.next.rest (many starts_stmt item (length c.args.words) c.args.words)
    (omega arith) (sym c.starts.ensures ∙ c.if-starts.true) c.in_err-x.ensures c.next.invariant)

pub statements-returns : goal.statements-returns
statements-returns t c =
    let item = stmt_at c.args.version (block c.args.version c.args.braces) in
    turns_end starts_stmt item c.next.found.items c.next.turns c.next.rest (many starts_stmt item (length c.args.words) c.args.words)
    (elim c.next-test.branch [ statements-then-next-test+else-starts w ↦ inr (sym w.starts.ensures ∙ w.if-starts.false) | statements-else-next-test w ↦ inl (omega arith) ])
    c.next.invariant
    ∙ ap (λ (xs : List StmtDecl). Ok (xs, c.next.rest)) (sym c.from_vec.ensures)
