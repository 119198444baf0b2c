use Rattle.std.proofs.Common.{◌≡◌, true, get_or, sym, ◌∙◌, arith, add-one}
use Rattle.san_base.specs.Names.{is_digit}
use Rattle.san_lex.proofs.RunLemmas.{run_goes}
use Rattle.san_lex.proofs.byte.digits_length.Goals as goal

pub next-preserved : goal.next-preserved
next-preserved c =
    let e : is_digit (get_or c.args.bytes.now c.next.n 0) ≡ true = sym c.is_digit.ensures ∙ c.if-is_digit.true in
    let h = run_goes is_digit c.args.bytes.now c.next.n (omega arith) e in
    let so_far = c.next.invariant.1 in
    (omega arith, rw add-one (omega (arith, h, so_far)))
